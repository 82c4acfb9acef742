-- How large the numbers of a measure become: `fits_words`, and for the code the same from what each check leaves. Ways are bounded axis by axis; products, squares
-- and sums follow from the bounds of their parts.
use mathlib.Core.Path.{◌≡◌, sym, ◌∙◌}
use mathlib.Core.Bool.{false, true≢false}
use Prim.Native.Nat.{ℕ, ◌+◌, ◌*◌, ◌≤◌, ◌<◌}
use native.Mathlib.Nat.{mul-le-mul, mul-pos}
use native.Mathlib.Omega.{arith}
use lib.Dec.{eqb}
use lib.IntN.{ℤ, pos, nat_abs, ◌+ℤ◌, ◌-ℤ◌, ◌*ℤ◌}
use borrow.Author.Tests.{eq-eqb}
use Rattle.base_laws.proofs.Ints.{add_parts, minus_parts}
use Rattle.base_laws.proofs.Magnitudes.{abs_parts, abs_within, abs_add, abs_minus, abs_mul_le, twice_up, twice_dn}
use Rattle.base_laws.proofs.Members.{either, both_true}
use Rattle.base_model.specs.declared.Rect.{Rect}
use Rattle.base_model.specs.declared.Site.{Site}
use Rattle.rule_ranks.specs.declared.Vector.{Vector}
use Rattle.rule_ranks.specs.declared.Measure.{Measure}
use Rattle.rule_ranks.specs.Measures.{square, squared_length, dot, cross, segment, from_first, from_second, projection_twice, beside_end, between_ends}
use Rattle.rule_ranks.specs.Ranks.{same_point}
use Rattle.rule_ranks.specs.Sizes.{Within, Sizes, FitsWords}
use Rattle.rule_ranks.proofs.Ends.{measure_cases}
use Rattle.rule_ranks.proofs.Passed.{Edge, Passed, asked, passed}

-- ---- ways, by axis
way_le : (a b : ℕ) → a ≤ 8192 → b ≤ 8192 → nat_abs (pos b -ℤ pos a) ≤ 8192
way_le a b h k = let p = minus_parts (pos b) (pos a) in abs_within (pos b -ℤ pos a) 8192 (omega arith) (omega arith)

middle_le : (a : ℕ) (low high : ℤ) → a ≤ 8192 → Edge low → Edge high → nat_abs (low +ℤ high -ℤ pos 2 *ℤ pos a) ≤ 16384
middle_le a low high h k l =
    let p = add_parts low high in let q = minus_parts (low +ℤ high) (pos (2 * a)) in
    abs_within (low +ℤ high -ℤ pos (2 * a)) 16384 (omega (arith, k.some, k.most, l.some, l.most)) (omega (arith, k.some, k.most, l.some, l.most))

second_le : (a b : ℕ) (low high : ℤ) → a ≤ 8192 → b ≤ 8192 → Edge low → Edge high
    → nat_abs (low +ℤ high -ℤ pos 2 *ℤ pos a -ℤ pos 2 *ℤ (pos b -ℤ pos a)) ≤ 16384
second_le a b low high h i k l =
    let z = low +ℤ high -ℤ pos (2 * a) in
    let d = pos b -ℤ pos a in
    let p = add_parts low high in
    let q = minus_parts (low +ℤ high) (pos (2 * a)) in
    let t = minus_parts (pos b) (pos a) in
    let u = minus_parts z (pos 2 *ℤ d) in
    let v = twice_up d in
    let w = twice_dn d in
    abs_within (z -ℤ pos 2 *ℤ d) 16384 (omega (arith, k.some, k.most, l.some, l.most)) (omega (arith, k.some, k.most, l.some, l.most))

-- ---- squares and products
pub square_le : (z : ℤ) (n : ℕ) → nat_abs z ≤ n → square z ≤ n * n
unfolding square
square_le z n h = mul-le-mul h h

pub squared_le : (v : Vector) (n : ℕ) → Within n v → squared_length v ≤ n * n + n * n
unfolding squared_length
squared_le v n h = omega (arith, square_le v.x n h.x, square_le v.y n h.y)

pub dot_le : (a b : Vector) (m n : ℕ) → Within m a → Within n b → nat_abs (dot a b) ≤ m * n + m * n
unfolding dot
dot_le a b m n h k =
    omega (arith, abs_add (a.x *ℤ b.x) (a.y *ℤ b.y), abs_mul_le a.x b.x h.x k.x, abs_mul_le a.y b.y h.y k.y)

pub cross_le : (a b : Vector) (m n : ℕ) → Within m a → Within n b → nat_abs (cross a b) ≤ m * n + m * n
unfolding cross
cross_le a b m n h k =
    omega (arith, abs_minus (a.x *ℤ b.y) (a.y *ℤ b.x), abs_mul_le a.x b.y h.x k.y, abs_mul_le a.y b.x h.y k.x)

-- ---- two points are some way apart
zero_way : (a b : ℕ) → nat_abs (pos b -ℤ pos a) ≡ 0 → a ≡ b
zero_way a b e = omega (arith, minus_parts (pos b) (pos a), abs_parts (pos b -ℤ pos a))

square_some : (z : ℤ) → (nat_abs z ≡ 0 → ⊥) → 0 < square z
unfolding square
square_some z h = mul-pos (omega (arith, h)) (omega (arith, h))

some_way : (s : Site) → same_point s.first s.second ≡ false → 0 < squared_length (segment s)
unfolding same_point squared_length segment
some_way s e =
    either (eqb s.first.x s.second.x)
    (λ i.
    let h = square_some (pos s.second.y -ℤ pos s.first.y)
    (λ z. true≢false (sym (both_true i (eq-eqb s.first.y s.second.y (zero_way s.first.y s.second.y z))) ∙ e)) in
    omega arith)
    (λ i.
    let h = square_some (pos s.second.x -ℤ pos s.first.x)
    (λ z. true≢false (sym (eq-eqb s.first.x s.second.x (zero_way s.first.x s.second.x z)) ∙ i)) in
    omega arith)

-- ---- the measure
record Small (m : Measure) : Type 0 where
  numerator : m.numerator ≤ 72057594037927936
  divided : 0 < m.divisor
  divisor : m.divisor ≤ 536870912
  limit : m.limit ≤ 562949953421312

beside_small : (radius : ℕ) (v : Vector) → radius ≤ 1024 → Within 16384 v → Small (beside_end radius v)
unfolding beside_end
beside_small radius v h k =
    record { numerator = omega (arith, squared_le v 16384 k); divided = omega arith; divisor = omega arith; limit = omega (arith, mul-le-mul h h) }

module _ (s : Site) (r : Rect) (p : Passed s r) where
  along : Within 8192 (segment s)
  unfolding segment
  along = record { x = way_le s.first.x s.second.x p.first_x_lem p.second_x_lem; y = way_le s.first.y s.second.y p.first_y_lem p.second_y_lem }

  first_le : Within 16384 (from_first s r)
  unfolding from_first
  first_le = record {
    x = middle_le s.first.x r.left r.right p.first_x_lem p.left p.right;
    y = middle_le s.first.y r.top r.bottom p.first_y_lem p.top p.bottom;
  }

  from_second_le : Within 16384 (from_second s r)
  unfolding from_second from_first segment
  from_second_le = record {
    x = second_le s.first.x s.second.x r.left r.right p.first_x_lem p.second_x_lem p.left p.right;
    y = second_le s.first.y s.second.y r.top r.bottom p.first_y_lem p.second_y_lem p.top p.bottom;
  }

  between_small : Small (between_ends s r)
  unfolding between_ends
  between_small =
      let l = squared_le (segment s) 8192 along in
      record {
        numerator = square_le (cross (from_first s r) (segment s)) 268435456 (cross_le (from_first s r) (segment s) 16384 8192 first_le along);
        divided = omega (arith, some_way s p.two);
        divisor = omega arith;
        limit = omega (arith, mul-le-mul (mul-le-mul p.radius p.radius) l);
      }

  pub sizes : Sizes s r
  unfolding projection_twice
  sizes =
      let m =
      measure_cases s r Small
      (λ h. beside_small s.radius (from_first s r) p.radius first_le)
      (λ h k. beside_small s.radius (from_second s r) p.radius from_second_le)
      (λ h k. between_small)
      in
      record {
        entrance = along;
        first_within = first_le;
        second_within = from_second_le;
        some = some_way s p.two;
        squared = squared_le (segment s) 8192 along;
        projection = dot_le (from_first s r) (segment s) 16384 8192 first_le along;
        crossing = cross_le (from_first s r) (segment s) 16384 8192 first_le along;
        numerator = m.numerator;
        divided = m.divided;
        divisor = m.divisor;
        limit = m.limit;
      }

pub fits_words : FitsWords
unfolding FitsWords
fits_words across down s r e = let k = asked across down s r e in sizes s r (passed across down s r k.0 k.1.0 k.1.1)
