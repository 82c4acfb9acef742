-- StoreRoom in the areas that hold a search.
use Rattle.std.specs.Prelude.{ℕ, ◌*◌, ◌≤◌, ◌≡◌, true, List, length}
use Rattle.base_model.specs.declared.Limits.{Limits}
use Rattle.base_model.specs.declared.Query.{Query}
use Rattle.ground_rects.specs.Windows.{window_fits}
use Rattle.call_lengths.specs.Lengths.{points_room}

-- the areas are long enough for a search over n placements
pub record StoreRoom (q : Query) (l : Limits) (n : ℕ) (lists visited layouts points : List ℕ) : Type 0 where
  pub window : window_fits 8192 8192 q.window ≡ true
  pub states : l.states ≤ 100000
  pub results : l.results ≤ 32
  pub lists_long : 6 * n ≤ length lists
  pub visited_long : 7 * l.states ≤ length visited
  pub layouts_long : 7 * l.results ≤ length layouts
  pub points_long : points_room q l ≤ length points
