-- The call `rank`: what it turns away, and the rank that it gives (RULES 15.1, 15.4, 15.5, 15.6).
use Rattle.std.specs.Prelude.{ℕ, ◌+◌, ◌*◌, ◌/◌, ◌%◌, ◌<◌, ◌≡◌, Bool, not, cond, ◌&&◌, List, [], ◌∷◌, leb, eqb, pos, Option as Optional, Some, None, Result, Ok, Err}
use Rattle.std.proofs.Math.Option.{Option, none, some}
use Rattle.base_model.specs.Answers.{Said, ask, first, said_of}
use Rattle.base_model.specs.declared.Rect.{Rect}
use Rattle.base_model.specs.declared.Refusal.{Refusal}
use Rattle.base_model.specs.declared.Position.{Position}
use Rattle.base_model.specs.declared.Site.{Site}
use Rattle.base_model.specs.declared.Rank.{Rank}
use Rattle.ground_rects.specs.Rects.{rect, nonempty, holds}
use Rattle.ground_rects.specs.Windows.{size_fits}
use Rattle.rule_ranks.specs.declared.Measure.{Measure}
use Rattle.rule_ranks.specs.Measures.{measure_of}

-- ---- what is turned away
-- 1: the map's size alone is looked at
-- an entrance point may lie on the map's far edges, 8 pixels a cell
unfoldable pub on_map : (across down : ℕ) → Position → Bool
on_map across down p = leb p.x (8 * across) && leb p.y (8 * down)

unfoldable pub same_point : Position → Position → Bool
same_point p q = eqb p.x q.x && eqb p.y q.y

-- passes 22: radius at most 1,024, both entrance points on the map, and they are two
unfoldable pub site_fits : (across down : ℕ) → Site → Bool
site_fits across down s =
    leb s.radius 1024 && on_map across down s.first && on_map across down s.second && not (same_point s.first s.second)

-- passes 15: the footprint is not empty and lies inside the map
unfoldable pub footprint_fits : (across down : ℕ) → Rect → Bool
footprint_fits across down r = nonempty r && holds (rect (pos 0) (pos 0) (pos (8 * across)) (pos (8 * down))) r

unfoldable pub rank_checks : (across down : ℕ) → Site → Rect → List (Option Said)
rank_checks across down s r = ask 1 (size_fits across down) ∷ ask 22 (site_fits across down s) ∷ ask 15 (footprint_fits across down r) ∷ []

-- ---- the answer
pub data Ranking : Type 0 where
  refuses : Said → Ranking
  beyond : Ranking
  ranks : Rank → Ranking

-- for each answer of the code
unfoldable pub ranking_of : Result (Optional Rank) Refusal → Ranking
ranking_of (Ok (Some k)) = ranks k
ranking_of (Ok None) = beyond
ranking_of (Err r) = refuses (said_of r)

-- the fraction as a whole number and a rest
unfoldable pub rank_of : Measure → Rank
rank_of m = record { quotient = m.numerator / m.divisor; remainder = m.numerator % m.divisor; divisor = m.divisor }

-- no rank above the limit
unfoldable pub ranking : Measure → Ranking
ranking m = cond (leb m.numerator m.limit) (ranks (rank_of m)) beyond

unfoldable pub rank_call : (across down : ℕ) → Site → Rect → Ranking
rank_call across down s r = elim (first (rank_checks across down s r)) [ some e ↦ refuses e | none ↦ ranking (measure_of s r) ]

-- what a rank is: the measure's numerator, divided with a remainder
pub record Divides (m : Measure) (k : Rank) : Type 0 where
  pub divisor : k.divisor ≡ m.divisor
  pub remainder : k.remainder < k.divisor
  pub numerator : k.quotient * k.divisor + k.remainder ≡ m.numerator

unfoldable pub RankDivides : Type 0
RankDivides = (across down : ℕ) (s : Site) (r : Rect) (k : Rank) → rank_call across down s r ≡ ranks k → Divides (measure_of s r) k
