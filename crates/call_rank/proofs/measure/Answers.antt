-- `call_rank::measure` meets its contract: the ways, the projection and the squared length are the definition's, none leaves 64 bits, and the two tests choose its
-- case.
use mathlib.Core.Path.{◌≡◌, refl, sym, ap, ap₂, ◌∙◌}
use mathlib.Core.Bool.{true, false, true≢false}
use Prim.Native.Nat.{ℕ, ◌*◌, ◌≤◌, ◌<◌}
use native.Mathlib.Nat.{mul-le-mul}
use native.Mathlib.Omega.{arith}
use lib.IntN.{ℤ, pos, negsuc, nat_abs, ◌-ℤ◌, ◌*ℤ◌}
use lib.Signed.{le_z}
use borrow.Author.Tests.{le-leb, lt-leb}
use Rattle.base_model.specs.declared.Rect.{Rect}
use Rattle.base_model.specs.declared.Site.{Site}
use Rattle.rule_ranks.specs.declared.Vector.{Vector}
use Rattle.rule_ranks.specs.Measures.{square, squared_length, dot, cross, segment, from_first, from_second, projection_twice, beside_end, between_ends}
use Rattle.rule_ranks.specs.Sizes.{Within, Sizes}
use Rattle.rule_ranks.proofs.Ends.{at_first, at_second, at_between}
use Rattle.call_rank.proofs.Words.{word, read}
use Rattle.call_rank.proofs.measure.Goals as goal

-- a projection above zero is a natural
natural : (z : ℤ) → le_z z (pos 0) ≡ false → z ≡ pos (nat_abs z)
natural (pos n) e = refl
natural (negsuc n) e = absurd (true≢false e)

-- and so is tested against another
at_least : (n : ℕ) (z : ℤ) → le_z z (pos 0) ≡ false → n ≤ nat_abs z → le_z (pos n) z ≡ true
at_least n z e h = ap (le_z (pos n)) (natural z e) ∙ le-leb n (nat_abs z) h

below : (n : ℕ) (z : ℤ) → le_z z (pos 0) ≡ false → nat_abs z < n → le_z (pos n) z ≡ false
below n z e h = ap (le_z (pos n)) (natural z e) ∙ lt-leb n (nat_abs z) h

wider : (m n : ℕ) (v : Vector) → m ≤ n → Within m v → Within n v
wider m n v h k = record { x = omega (arith, k.x); y = omega (arith, k.y) }

module _ (s : Site) (r : Rect) (z : Sizes s r) (d p : Vector) (d_is : d ≡ segment s) (p_is : p ≡ from_first s r) where
  point_short : Within 16384 p
  point_short = rw p_is z.first_within

  d_short : Within 16384 d
  d_short = rw d_is (wider 8192 16384 (segment s) (omega arith) z.entrance)

  -- the projection, written and read back
  projected : (t : ℤ) → t ≡ dot p d → word t ≡ projection_twice s r
  unfolding projection_twice
  projected t e = ap word (e ∙ ap₂ dot p_is d_is) ∙ read (dot (from_first s r) (segment s)) (omega (arith, z.projection))

  -- the way from the second end
  second_is : (v : Vector) → v ≡ record { x = p.x -ℤ pos 2 *ℤ d.x; y = p.y -ℤ pos 2 *ℤ d.y } → v ≡ from_second s r
  unfolding from_second
  second_is v e = e ∙ ap₂ (λ (v d : Vector). record { x = v.x -ℤ pos 2 *ℤ d.x; y = v.y -ℤ pos 2 *ℤ d.y }) p_is d_is

  crossed : (t : ℤ) → t ≡ cross p d → word t ≡ cross (from_first s r) (segment s)
  crossed t e = ap word (e ∙ ap₂ cross p_is d_is) ∙ read (cross (from_first s r) (segment s)) (omega (arith, z.crossing))

  -- past the first test
  not_first : (t : ℤ) → t ≡ dot p d → le_z (word t) (pos 0) ≡ false → le_z (projection_twice s r) (pos 0) ≡ false
  not_first t e h = ap (λ (z : ℤ). le_z z (pos 0)) (sym (projected t e)) ∙ h

  squared_is : (n : ℕ) → n ≡ squared_length d → n ≡ squared_length (segment s)
  squared_is n e = e ∙ ap squared_length d_is

  projection_is : (t : ℤ) → t ≡ dot p d → nat_abs (word t) ≡ nat_abs (projection_twice s r)
  projection_is t e = ap nat_abs (projected t e)

pub dot-projection_twice-requires : goal.dot-projection_twice-requires
dot-projection_twice-requires c = (
  point_short c.args.site c.args.footprint c.requires.1 c.segment-d.result c.from_first-point.result c.segment-d.ensures
      c.from_first-point.ensures,
  d_short c.args.site c.args.footprint c.requires.1 c.segment-d.result c.from_first-point.result c.segment-d.ensures
      c.from_first-point.ensures,
)

pub beside_end-requires : goal.beside_end-requires
beside_end-requires c = (c.requires.0, point_short c.args.site c.args.footprint c.requires.1 c.segment-d.result c.from_first-point.result c.segment-d.ensures c.from_first-point.ensures)

pub returns-then-projection_twice-le0 : goal.returns-then-projection_twice-le0
returns-then-projection_twice-le0 c =
    c.beside_end.ensures ∙ ap (beside_end c.args.site.radius) c.from_first-point.ensures
    ∙ sym (at_first c.args.site c.args.footprint
    (ap (λ (z : ℤ). le_z z (pos 0))
    (sym (projected c.args.site c.args.footprint c.requires.1 c.segment-d.result c.from_first-point.result c.segment-d.ensures
    c.from_first-point.ensures c.dot-projection_twice.result c.dot-projection_twice.ensures)) ∙ c.if-projection_twice-le0.true))

pub squared_length-squared-requires : goal.squared_length-squared-requires
squared_length-squared-requires c = d_short c.args.site c.args.footprint c.requires.1 c.segment-d.result c.from_first-point.result c.segment-d.ensures c.from_first-point.ensures

pub overflow_cast-projection_twice : goal.overflow_cast-projection_twice
overflow_cast-projection_twice c =
    rw (
      projected c.args.site c.args.footprint c.requires.1 c.segment-d.result c.from_first-point.result c.segment-d.ensures
          c.from_first-point.ensures c.dot-projection_twice.result c.dot-projection_twice.ensures,
      natural (projection_twice c.args.site c.args.footprint)
          (not_first c.args.site c.args.footprint c.requires.1 c.segment-d.result c.from_first-point.result c.segment-d.ensures
          c.from_first-point.ensures c.dot-projection_twice.result c.dot-projection_twice.ensures c.if-projection_twice-le0.false),
    )
    (tt, record { fits = omega (arith, c.requires.1.projection) })

pub overflow_mul-squared : goal.overflow_mul-squared
overflow_mul-squared c =
    record {
      fits = omega (
        arith,
        squared_is c.args.site c.args.footprint c.requires.1 c.segment-d.result c.from_first-point.result c.segment-d.ensures
            c.from_first-point.ensures c.squared_length-squared.result c.squared_length-squared.ensures,
        c.requires.1.squared,
      );
    }

pub less_twice-requires : goal.less_twice-requires
less_twice-requires c = (
  point_short c.args.site c.args.footprint c.requires.1 c.segment-d.result c.from_first-point.result c.segment-d.ensures
      c.from_first-point.ensures,
  d_short c.args.site c.args.footprint c.requires.1 c.segment-d.result c.from_first-point.result c.segment-d.ensures
      c.from_first-point.ensures,
)

pub beside_end-requires-then-projection_twice-squared : goal.beside_end-requires-then-projection_twice-squared
beside_end-requires-then-projection_twice-squared c = (
  c.requires.0,
  rw (second_is c.args.site c.args.footprint c.requires.1 c.segment-d.result c.from_first-point.result c.segment-d.ensures
      c.from_first-point.ensures c.less_twice.result c.less_twice.ensures) c.requires.1.second_within,
)

pub returns-then-projection_twice-squared : goal.returns-then-projection_twice-squared
returns-then-projection_twice-squared c =
    let far : 2 * squared_length (segment c.args.site) ≤ nat_abs (projection_twice c.args.site c.args.footprint) =
    omega (
      arith,
      c.if-projection_twice-squared.true,
      squared_is c.args.site c.args.footprint c.requires.1 c.segment-d.result c.from_first-point.result c.segment-d.ensures
          c.from_first-point.ensures c.squared_length-squared.result c.squared_length-squared.ensures,
      projection_is c.args.site c.args.footprint c.requires.1 c.segment-d.result c.from_first-point.result c.segment-d.ensures
          c.from_first-point.ensures c.dot-projection_twice.result c.dot-projection_twice.ensures,
    ) in
    let first = not_first c.args.site c.args.footprint c.requires.1 c.segment-d.result c.from_first-point.result c.segment-d.ensures
    c.from_first-point.ensures c.dot-projection_twice.result c.dot-projection_twice.ensures c.if-projection_twice-le0.false in
    c.beside_end-then-projection_twice-squared.ensures
    ∙ ap (beside_end c.args.site.radius)
    (second_is c.args.site c.args.footprint c.requires.1 c.segment-d.result c.from_first-point.result c.segment-d.ensures
    c.from_first-point.ensures c.less_twice.result c.less_twice.ensures)
    ∙ sym (at_second c.args.site c.args.footprint first (at_least _ (projection_twice c.args.site c.args.footprint) first far))

pub cross-requires : goal.cross-requires
cross-requires c = (
  point_short c.args.site c.args.footprint c.requires.1 c.segment-d.result c.from_first-point.result c.segment-d.ensures
      c.from_first-point.ensures,
  d_short c.args.site c.args.footprint c.requires.1 c.segment-d.result c.from_first-point.result c.segment-d.ensures
      c.from_first-point.ensures,
)

pub square-requires : goal.square-requires
square-requires c = rw (crossed c.args.site c.args.footprint c.requires.1 c.segment-d.result c.from_first-point.result c.segment-d.ensures
    c.from_first-point.ensures c.cross.result c.cross.ensures) c.requires.1.crossing

pub overflow_mul-result : goal.overflow_mul-result
overflow_mul-result c =
    record {
      fits = omega (
        arith,
        squared_is c.args.site c.args.footprint c.requires.1 c.segment-d.result c.from_first-point.result c.segment-d.ensures
            c.from_first-point.ensures c.squared_length-squared.result c.squared_length-squared.ensures,
        c.requires.1.squared,
      );
    }

pub overflow_mul-result-2 : goal.overflow_mul-result-2
overflow_mul-result-2 c = record { fits = omega (arith, mul-le-mul c.requires.0 c.requires.0) }

pub overflow_mul-result-3 : goal.overflow_mul-result-3
overflow_mul-result-3 c = record { fits = omega (arith, mul-le-mul c.requires.0 c.requires.0) }

pub overflow_mul-result-4 : goal.overflow_mul-result-4
overflow_mul-result-4 c =
    let squared_le : c.squared_length-squared.result ≤ 134217728 =
    omega (
      arith,
      squared_is c.args.site c.args.footprint c.requires.1 c.segment-d.result c.from_first-point.result c.segment-d.ensures
          c.from_first-point.ensures c.squared_length-squared.result c.squared_length-squared.ensures,
      c.requires.1.squared,
    ) in
    record { fits = omega (arith, mul-le-mul (mul-le-mul c.requires.0 c.requires.0) squared_le) }

pub returns : goal.returns
unfolding between_ends
returns c =
    let r = c.args.site.radius in
    let near : nat_abs (projection_twice c.args.site c.args.footprint) < 2 * squared_length (segment c.args.site) =
    omega (
      arith,
      c.if-projection_twice-squared.false,
      squared_is c.args.site c.args.footprint c.requires.1 c.segment-d.result c.from_first-point.result c.segment-d.ensures
          c.from_first-point.ensures c.squared_length-squared.result c.squared_length-squared.ensures,
      projection_is c.args.site c.args.footprint c.requires.1 c.segment-d.result c.from_first-point.result c.segment-d.ensures
          c.from_first-point.ensures c.dot-projection_twice.result c.dot-projection_twice.ensures,
    ) in
    let first = not_first c.args.site c.args.footprint c.requires.1 c.segment-d.result c.from_first-point.result c.segment-d.ensures
    c.from_first-point.ensures c.dot-projection_twice.result c.dot-projection_twice.ensures c.if-projection_twice-le0.false in
    ap₂ (λ (n l : ℕ). record { numerator = n; divisor = 4 * l; limit = 4 * (r * r) * l })
    (c.square.ensures ∙ ap square
    (crossed c.args.site c.args.footprint c.requires.1 c.segment-d.result c.from_first-point.result c.segment-d.ensures
    c.from_first-point.ensures c.cross.result c.cross.ensures))
    (squared_is c.args.site c.args.footprint c.requires.1 c.segment-d.result c.from_first-point.result c.segment-d.ensures
    c.from_first-point.ensures c.squared_length-squared.result c.squared_length-squared.ensures)
    ∙ sym (at_between c.args.site c.args.footprint first (below _ (projection_twice c.args.site c.args.footprint) first near))
