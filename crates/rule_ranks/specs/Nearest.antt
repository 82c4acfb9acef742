-- A rank is a distance: the squared distance in pixels from the footprint's centre to the nearest point of the entrance, and a placement has no rank exactly when that
-- is more than the radius squared; told from either end of the entrance (RULES 15.10). Said without fractions, by multiplying with the divisors.
use Rattle.std.specs.Prelude.{ℕ, ◌+◌, ◌*◌, ◌<◌, ◌≤◌, ◌≡◌, pos, ◌+ℤ◌, ◌-ℤ◌, ◌*ℤ◌}
use Rattle.base_model.specs.declared.Rect.{Rect}
use Rattle.base_model.specs.declared.Site.{Site}
use Rattle.base_model.specs.declared.Rank.{Rank}
use Rattle.rule_ranks.specs.declared.Vector.{Vector}
use Rattle.rule_ranks.specs.Measures.{squared_length}
use Rattle.rule_ranks.specs.Ranks.{beyond, ranks, rank_call}
use Rattle.rule_ranks.specs.Orders.{whole}

-- The points of the entrance are (a × first + b × second) / (a + b), for weights a and b that are not both zero: the first end is 1 and 0, the second 0 and 1, the
-- middle 1 and 1. Whole weights reach every point that divides the entrance in a ratio of whole numbers. The nearest point is one of them, and they lie as close as
-- one likes to any other. The way from such a point to the footprint's centre, times 2 (a + b), is whole.
unfoldable pub from_point : Site → Rect → (a b : ℕ) → Vector
from_point s r a b = record {
  x = pos (a + b) *ℤ (r.left +ℤ r.right) -ℤ pos (2 * (a * s.first.x + b * s.second.x));
  y = pos (a + b) *ℤ (r.top +ℤ r.bottom) -ℤ pos (2 * (a * s.first.y + b * s.second.y));
}

-- so the squared distance in pixels is this over the scale (2 (a + b))²
unfoldable pub scaled : Site → Rect → (a b : ℕ) → ℕ
scaled s r a b = squared_length (from_point s r a b)

unfoldable pub scale : (a b : ℕ) → ℕ
scale a b = 2 * (a + b) * (2 * (a + b))

-- numerator / divisor is the squared distance to the nearest point
pub record IsNearest (s : Site) (r : Rect) (numerator divisor : ℕ) : Type 0 where
  -- no point is nearer
  pub least : (a b : ℕ) → 0 < a + b → numerator * scale a b ≤ scaled s r a b * divisor
  -- and one is as near
  pub first_weight : ℕ
  pub second_weight : ℕ
  pub weighed : 0 < first_weight + second_weight
  pub reached : numerator * scale first_weight second_weight ≡ scaled s r first_weight second_weight * divisor

unfoldable pub RankIsDistance : Type 0
RankIsDistance =
    (across down : ℕ) (s : Site) (r : Rect) (k : Rank) → rank_call across down s r ≡ ranks k → (0 < k.divisor) × IsNearest s r (whole k) k.divisor

-- a rank is given only where that is at most the radius squared, none only where every point of the entrance is farther
unfoldable pub RankWithinRadius : Type 0
RankWithinRadius = (across down : ℕ) (s : Site) (r : Rect) (k : Rank) → rank_call across down s r ≡ ranks k → whole k ≤ s.radius * s.radius * k.divisor

unfoldable pub NoneBeyond : Type 0
NoneBeyond =
    (across down : ℕ) (s : Site) (r : Rect) → rank_call across down s r ≡ beyond
    → (a b : ℕ) → 0 < a + b → s.radius * s.radius * scale a b < scaled s r a b

-- ---- either end may be named first
-- the same entrance, told from its other end
unfoldable pub turned_round : Site → Site
turned_round s = record { first = s.second; second = s.first; radius = s.radius }

-- it is answered alike, refusals included
unfoldable pub EitherEnd : Type 0
EitherEnd = (across down : ℕ) (s : Site) (r : Rect) → rank_call across down (turned_round s) r ≡ rank_call across down s r
