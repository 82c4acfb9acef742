-- How large the numbers of a measure become on a map of at most 8,192 pixels each way: all of them fit 64 bits (RULES 15.11).
use Rattle.std.specs.Prelude.{ℕ, ◌<◌, ◌≤◌, ◌^◌, ◌≡◌, nat_abs}
use Rattle.std.proofs.Math.Option.{none}
use Rattle.base_model.specs.Answers.{first}
use Rattle.base_model.specs.declared.Rect.{Rect}
use Rattle.base_model.specs.declared.Site.{Site}
use Rattle.rule_ranks.specs.declared.Vector.{Vector}
use Rattle.rule_ranks.specs.Measures.{squared_length, cross, segment, from_first, from_second, projection_twice, measure_of}
use Rattle.rule_ranks.specs.Ranks.{rank_checks}

-- no longer than n on either axis
pub record Within (n : ℕ) (v : Vector) : Type 0 where
  pub x : nat_abs v.x ≤ n
  pub y : nat_abs v.y ≤ n

pub record Sizes (s : Site) (r : Rect) : Type 0 where
  pub entrance : Within (2 ^ 13) (segment s)
  pub first_within : Within (2 ^ 14) (from_first s r)
  pub second_within : Within (2 ^ 14) (from_second s r)
  -- the ends are two points
  pub some : 0 < squared_length (segment s)
  pub squared : squared_length (segment s) ≤ 2 ^ 27
  pub projection : nat_abs (projection_twice s r) ≤ 2 ^ 28
  pub crossing : nat_abs (cross (from_first s r) (segment s)) ≤ 2 ^ 28
  pub numerator : (measure_of s r).numerator ≤ 2 ^ 56
  pub divided : 0 < (measure_of s r).divisor
  pub divisor : (measure_of s r).divisor ≤ 2 ^ 29
  pub limit : (measure_of s r).limit ≤ 2 ^ 49

unfoldable pub FitsWords : Type 0
FitsWords = (across down : ℕ) (s : Site) (r : Rect) → first (rank_checks across down s r) ≡ none → Sizes s r
