-- A rank is the squared distance to the nearest point of the entrance, and there is none exactly where that is beyond the radius.
use Prim.Native.Nat.{ℕ, ◌+◌, ◌*◌, ◌-◌, ◌<◌, ◌≤◌}
use mathlib.Core.Path.{◌≡◌, refl, ap}
use mathlib.Core.Bool.{true, false}
use native.Mathlib.Omega.{arith}
use native.Mathlib.Nat.{mul-pos}
use lib.IntN.{ℤ, pos, negsuc, ◌-ℤ◌}
use lib.Signed.{le_z}
use Rattle.base_laws.specs.Ints.{up, dn}
use Rattle.base_laws.proofs.Ints.{minus_parts, le_z_fact, le_z_not}
use Rattle.base_model.specs.declared.Rect.{Rect}
use Rattle.base_model.specs.declared.Site.{Site}
use Rattle.rule_ranks.specs.declared.Vector.{Vector}
use Rattle.rule_ranks.specs.declared.Measure.{Measure}
use Rattle.rule_ranks.specs.Measures.{squared_length, dot, segment, from_first, from_second, projection_twice, beside_end, between_ends, measure_of}
use Rattle.rule_ranks.specs.Ranks.{RankDivides}
use Rattle.rule_ranks.specs.Orders.{whole}
use Rattle.rule_ranks.specs.Nearest.{scaled, scale, IsNearest, RankIsDistance, RankWithinRadius, NoneBeyond}
use Rattle.rule_ranks.proofs.Given.{given_rank, given_none}
use Rattle.rule_ranks.proofs.Ends.{measure_cases, divisor_positive}
use Rattle.rule_ranks.proofs.Division.{rank_divides}
use Rattle.rule_ranks.proofs.Fractions.{below_at_most}
use Rattle.rule_ranks.proofs.Vectors.{combined, turned, less_twice, dot_turned, cosines, no_shorter, beside, perpendicular}
use Rattle.rule_ranks.proofs.Ways.{first_way, second_way}

positive : (z : ℤ) → dn z < up z → z ≡ pos (up z)
positive (pos n) h = refl
positive (negsuc n) h = absurd (omega arith)

-- what is shown of a measure
record Measured (s : Site) (r : Rect) (m : Measure) : Type 0 where
  nearest : IsNearest s r m.numerator m.divisor
  limited : m.limit ≡ s.radius * s.radius * m.divisor

module _ (s : Site) (r : Rect) where
  -- beside an end: v is the way from it to the centre, w the way from it to the other end
  beside_end_lem : (v w : Vector) (m : ℕ → ℕ → ℕ) → ((a b : ℕ) → scaled s r a b ≡ squared_length (combined (a + b) v (m a b) w)) → up (dot v w) ≤ dn (dot v w)
      → (a b : ℕ) → a + b ≡ 1 → m a b ≡ 0 → Measured s r (beside_end s.radius v)
  unfolding beside_end scale
  beside_end_lem v w m way obtuse a b one none =
      let end : scaled s r a b ≡ squared_length (combined 1 v 0 w) = rw (one, none) at (way a b) in
      record {
        nearest = record {
          least = λ a b h. omega (arith, way a b, no_shorter (a + b) (m a b) v w obtuse);
          first_weight = a;
          second_weight = b;
          weighed = omega arith;
          reached = rw (scale, one) (omega (arith, cosines 1 0 v w));
        };
        limited = omega arith;
      }

  -- between the ends: the weights are as the centre's place along the entrance
  between : (p : ℕ) → projection_twice s r ≡ pos p → p < 2 * squared_length (segment s) → Measured s r (between_ends s r)
  unfolding between_ends scale projection_twice
  between p e h =
      let l = squared_length (segment s) in
      let twice : (2 * l - p + p) * p ≡ 2 * l * p = ap (λ (t : ℕ). t * p) (omega arith) in
      let near = perpendicular (2 * l - p + p) (2 * p) (from_first s r) (segment s) p e (omega arith) in
      record {
        nearest = record {
          least = λ a b h. omega (arith, ap (λ (t : ℕ). t * l) (first_way s r a b), beside (a + b) (2 * b) (from_first s r) (segment s));
          first_weight = 2 * l - p;
          second_weight = p;
          weighed = omega arith;
          reached = omega (arith, ap (λ (t : ℕ). t * l) (first_way s r (2 * l - p) p));
        };
        limited = omega arith;
      }

  -- ---- the three places of the centre
  nearest_first : le_z (projection_twice s r) (pos 0) ≡ true → Measured s r (beside_end s.radius (from_first s r))
  unfolding projection_twice
  nearest_first e = beside_end_lem (from_first s r) (segment s) (λ a b. 2 * b) (first_way s r) (omega (arith, le_z_fact (projection_twice s r) (pos 0) e)) 1 0 refl refl

  nearest_second : le_z (pos (2 * squared_length (segment s))) (projection_twice s r) ≡ true → Measured s r (beside_end s.radius (from_second s r))
  unfolding projection_twice from_second less_twice
  nearest_second e =
      let twice = pos (2 * squared_length (segment s)) in
      let obtuse : up (twice -ℤ projection_twice s r) ≤ dn (twice -ℤ projection_twice s r) =
      omega (arith, le_z_fact twice (projection_twice s r) e, minus_parts twice (projection_twice s r))
      in
      beside_end_lem (from_second s r) (turned (segment s)) (λ a b. 2 * a) (second_way s r) (rw (dot_turned (from_first s r) (segment s)) obtuse) 0 1 refl refl

  nearest_between : le_z (projection_twice s r) (pos 0) ≡ false → le_z (pos (2 * squared_length (segment s))) (projection_twice s r) ≡ false → Measured s r (between_ends s r)
  nearest_between e f =
      let low = le_z_not (projection_twice s r) (pos 0) e in
      let high = le_z_not (pos (2 * squared_length (segment s))) (projection_twice s r) f in
      let p = positive (projection_twice s r) (omega arith) in
      between (up (projection_twice s r)) p (omega (arith, ap dn p))

  measured : Measured s r (measure_of s r)
  measured = measure_cases s r (λ m. Measured s r m) nearest_first (λ e f. nearest_second f) nearest_between

-- ---- the call
pub rank_is_distance : RankIsDistance
unfolding RankIsDistance RankDivides whole
rank_is_distance across down s r k e =
    let d = rank_divides across down s r k e in
    rw (d.numerator, d.divisor) (divisor_positive s r, (measured s r).nearest)

pub rank_within_radius : RankWithinRadius
unfolding RankWithinRadius RankDivides whole
rank_within_radius across down s r k e =
    let d = rank_divides across down s r k e in
    rw (d.numerator, d.divisor) (omega (arith, given_rank across down s r k e, (measured s r).limited))

pub none_beyond : NoneBeyond
unfolding NoneBeyond scale
none_beyond across down s r e a b h =
    let m = measure_of s r in
    let above : s.radius * s.radius * m.divisor < m.numerator * 1 = omega (arith, given_none across down s r e, (measured s r).limited) in
    let farther = below_at_most (s.radius * s.radius) m.numerator (scaled s r a b) 1 m.divisor (scale a b) (mul-pos (omega arith) (omega arith)) above in
    omega (arith, farther ((measured s r).nearest.least a b h))
