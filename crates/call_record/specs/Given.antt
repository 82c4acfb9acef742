-- What 16 is given: placements lent flat, and the areas that hold a search.
use Rattle.std.specs.Prelude.{ℕ, ◌*◌, ◌≤◌, ◌≡◌, true, List, ℤ, length}
use Rattle.base_model.specs.declared.Limits.{Limits}
use Rattle.base_model.specs.declared.Query.{Query}
use Rattle.ground_rects.specs.Windows.{window_fits}
use Rattle.call_lists.specs.Lent.{Rows}

-- what the checks before 16 have found
pub record ChecksFound (q : Query) (l : Limits) (n : ℕ) (groups numbers : List ℕ) (edges : List ℤ) (lists visited layouts : List ℕ) : Type 0 where
  pub window : window_fits 8192 8192 q.window ≡ true
  pub states : l.states ≤ 100000
  pub results : l.results ≤ 32
  pub rows : Rows n groups numbers edges
  pub lists_long : 6 * n ≤ length lists
  pub visited_long : 7 * l.states ≤ length visited
  pub layouts_long : 7 * l.results ≤ length layouts
