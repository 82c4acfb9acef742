-- The Rust's `footprint_center_distance_rank` as it stands, with its early test on |cross|, and that the call gives its quotient and its None (RULES 15.7).
use Rattle.std.specs.Prelude.{ℕ, ◌+◌, ◌*◌, ◌/◌, ◌≡◌, cond, leb, ltb, pos, nat_abs}
use Rattle.std.proofs.Math.Option.{Option, none, some}
use Rattle.std.specs.Int.Signed.{le_z}
use Rattle.base_model.specs.Answers.{first}
use Rattle.base_model.specs.declared.Rect.{Rect}
use Rattle.base_model.specs.declared.Site.{Site}
use Rattle.rule_ranks.specs.declared.Vector.{Vector}
use Rattle.rule_ranks.specs.Measures.{squared_length, cross, segment, from_first, from_second, projection_twice}
use Rattle.rule_ranks.specs.Ranks.{Ranking, refuses, beyond, ranks, rank_checks, rank_call}

-- endpoint_rank
unfoldable pub endpoint_rank : (four_radius_squared : ℕ) → Vector → Option ℕ
endpoint_rank four_radius_squared v = cond (leb (squared_length v) four_radius_squared) (some (squared_length v / 4)) none

-- between the ends: beyond upper_bound, 2 radius (|dx| + |dy|), there is no rank, and the square is not taken
unfoldable pub early_rank : Site → Rect → Option ℕ
early_rank s r =
    let d = segment s in
    let abs_cross = nat_abs (cross (from_first s r) d) in
    cond (ltb (2 * s.radius * (nat_abs d.x + nat_abs d.y)) abs_cross) none
    (cond (leb (abs_cross * abs_cross) (4 * s.radius * s.radius * squared_length d)) (some (abs_cross * abs_cross / (4 * squared_length d))) none)

unfoldable pub original_rank : Site → Rect → Option ℕ
original_rank s r =
    let four_radius_squared = 4 * s.radius * s.radius in
    cond (le_z (projection_twice s r) (pos 0)) (endpoint_rank four_radius_squared (from_first s r))
    (cond (le_z (pos (2 * squared_length (segment s))) (projection_twice s r)) (endpoint_rank four_radius_squared (from_second s r)) (early_rank s r))

unfoldable pub quotient_in : Ranking → Option ℕ
quotient_in (refuses e) = none
quotient_in beyond = none
quotient_in (ranks k) = some k.quotient

-- the early test changes no answer
unfoldable pub AsOriginal : Type 0
AsOriginal = (across down : ℕ) (s : Site) (r : Rect) → first (rank_checks across down s r) ≡ none → quotient_in (rank_call across down s r) ≡ original_rank s r
