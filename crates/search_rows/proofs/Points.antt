-- Points as numbers, two each: what stands at the numbers of point i, and how a loop stores them point by point.
use Prim.Native.Nat.{ℕ, zero, suc, ◌+◌, ◌*◌, ◌/◌, ◌%◌, ◌≤◌, ◌<◌}
use mathlib.Core.Path.{◌≡◌, refl, sym, ◌∙◌, ap, ap₂, subst}
use mathlib.Core.Bool.{true}
use mathlib.Core.List.{List, [], ◌∷◌, map}
use native.Mathlib.Omega.{arith}
use lib.Dec.{T}
use lib.IntN.{ℤ, pos, nat_abs, ◌+ℤ◌}
use lib.Signed.{non_neg}
use mir.Syntax.{w32}
use mir.Val.{Fits}
use lib.ListN.{length, get_or, set, length-map, get_or-map}
use Rattle.base_model.specs.declared.Rect.{Rect}
use Rattle.base_model.specs.declared.Position.{Position}
use Rattle.base_laws.specs.Ints.{up, dn}
use Rattle.base_laws.proofs.Ints.{add_parts, nat_abs_parts}
use Rattle.base_laws.specs.Fill.{FillingFrom}
use Rattle.base_laws.proofs.Fill.{filling_from_more}
use Rattle.ground_rects.specs.Windows.{width, centres, window_fits, pixel_x, pixel_y, position_of}
use Rattle.ground_rects.proofs.Windows.{Framed, framed, width_some, column_lt, row_lt}
use Rattle.rule_calls.specs.Areas.{numbers}
use Rattle.rule_calls.proofs.Back.{length_numbers}

numbers_at : (ps : List Position) (i : ℕ) (d : Position) → i < length ps
    → (get_or (numbers ps) (2 * i) 0 ≡ (get_or ps i d).x) × (get_or (numbers ps) (2 * i + 1) 0 ≡ (get_or ps i d).y)
unfolding numbers
numbers_at [] i d h = absurd (omega arith)
numbers_at (p ∷ ps) zero d h = (refl, refl)
numbers_at (p ∷ ps) (suc i) d h =
    let r = numbers_at ps i d (omega arith) in (
      ap (λ (k : ℕ). get_or (numbers (p ∷ ps)) k 0) (let e : 2 * suc i ≡ suc (suc (2 * i)) = omega arith in e) ∙ r.0,
      ap (λ (k : ℕ). get_or (numbers (p ∷ ps)) k 0) (let e : 2 * suc i + 1 ≡ suc (suc (2 * i + 1)) = omega arith in e) ∙ r.1,
    )

module _ (w : Rect) (route : List ℕ) where
  abbrev pub points : List ℕ
  points = numbers (map (position_of w) route)

  pub length_points : length points ≡ 2 * length route
  length_points = omega (arith, length_numbers (map (position_of w) route), length-map route (position_of w))

  -- v has the first i numbers of the points
  abbrev pub PointsLaid : ℕ → List ℕ → List ℕ → ℕ → Type 0
  PointsLaid at v₀ v i = FillingFrom (λ (j : ℕ). get_or points j 0) at (2 * length route) v₀ v i

  pub points_next : (at : ℕ) (v₀ v : List ℕ) (i : ℕ) (p : Position) → p ≡ position_of w (get_or route i 0) → at + 2 * length route ≤ length v₀ → i < length route
      → PointsLaid at v₀ v (2 * i) → PointsLaid at v₀ (set (set v (at + 2 * i) p.x) (at + 2 * i + 1) p.y) (2 * (i + 1))
  points_next at v₀ v i p e room h t =
      let n : ℕ = length route in
      let ps : List Position = map (position_of w) route in
      let k : length ps ≡ n = length-map route (position_of w) in
      let q : p ≡ get_or ps i (position_of w 0) = e ∙ sym (get_or-map (position_of w) route i 0) in
      let r = numbers_at ps i (position_of w 0) (omega arith) in
      let f : ℕ → ℕ = λ (j : ℕ). get_or points j 0 in
      let one = filling_from_more f at (2 * n) v₀ room v (2 * i) p.x (omega arith) (ap (λ (z : Position). z.x) q ∙ sym r.0) t in
      let two = filling_from_more f at (2 * n) v₀ room (set v (at + 2 * i) p.x) (2 * i + 1) p.y (omega arith) (ap (λ (z : Position). z.y) q ∙ sym r.1) one in
      subst (λ (j : ℕ). PointsLaid at v₀ (set (set v (at + 2 * i) p.x) j p.y) (2 * (i + 1))) (let g : at + (2 * i + 1) ≡ at + 2 * i + 1 = omega arith in g)
      (subst (λ (j : ℕ). PointsLaid at v₀ (set (set v (at + 2 * i) p.x) (at + (2 * i + 1)) p.y) j) (let g : 2 * i + 1 + 1 ≡ 2 * (i + 1) = omega arith in g) two)

-- ---- the pixel of a centre
plus_parts : (z : ℤ) (m : ℕ) → z ≡ pos (up z) → nat_abs (z +ℤ pos m) ≡ up z + m
plus_parts z m e =
    let d : dn z ≡ 0 = ap dn e in
    omega (arith, add_parts z (pos m), nat_abs_parts (z +ℤ pos m) (omega (arith, add_parts z (pos m))))

-- an edge that is not negative, as it is read back
module _ {z' z : ℤ} (e : z' ≡ z) (p : z ≡ pos (up z)) where
  pub edge_is : nat_abs z' ≡ up z
  edge_is = ap nat_abs (e ∙ p)

  pub edge_casts : up z < 4294967296 → T (non_neg z') × Fits w32 (nat_abs z')
  edge_casts h = subst (λ (y : ℤ). T (non_neg y) × Fits w32 (nat_abs y)) (sym (e ∙ p)) (tt, record { fits = h })

module _ (w : Rect) (fits : window_fits 8192 8192 w ≡ true) where
  pub corner : Framed 8192 8192 w (up w.left) (up w.top)
  corner = framed 8192 8192 w fits

  module _ (c a b m : ℕ) (ea : a ≡ up w.left) (eb : b ≡ up w.top) (em : m ≡ width w) where
    pub pixel_is : ◌≡◌ {A = Position} (record { x = a + c % m; y = b + c / m }) (position_of w c)
    unfolding position_of pixel_x pixel_y
    pixel_is =
        let x : a + c % m ≡ nat_abs (w.left +ℤ pos (c % width w)) =
        ap₂ ◌+◌ ea (ap (λ (k : ℕ). c % k) em) ∙ sym (plus_parts w.left (c % width w) corner.left) in
        let y : b + c / m ≡ nat_abs (w.top +ℤ pos (c / width w)) =
        ap₂ ◌+◌ eb (ap (λ (k : ℕ). c / k) em) ∙ sym (plus_parts w.top (c / width w) corner.top) in
        λ i. record { x = x i; y = y i }

    pub pixel_some : 0 < m
    pixel_some = omega (arith, width_some w corner.filled)

    pub pixel_fits : c < centres w → (a + c % m < 8192) × (b + c / m < 8192)
    pixel_fits h =
        rw (em) (
          omega (arith, column_lt w corner.filled c, corner.across_le),
          omega (arith, row_lt w corner.filled c h, corner.down_le),
        )
