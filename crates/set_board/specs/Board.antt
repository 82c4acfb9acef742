-- The board that placements lent flat make.
use Rattle.std.specs.Prelude.{ℕ, List, ℤ}
use Rattle.base_model.specs.declared.Query.{Query}
use Rattle.ground_rects.specs.Windows.{width, height, centres}
use Rattle.rule_routes.specs.Edges.{Step, window_edges}
use Rattle.rule_layouts.specs.Boards.{Board}
use Rattle.rule_layouts.specs.Flat.{places_in}
use Rattle.set_blocked.specs.Blocked.{mover_in, allow_in}

-- the board of n placements lent flat
unfoldable pub flat_board : Query → (start end n : ℕ) → (groups numbers : List ℕ) → List ℤ → (block_base allow_base : List ℕ) → List Step → Board
flat_board q start end n groups numbers edges block_base allow_base steps = record {
  nodes = centres q.window;
  edges = window_edges (width q.window) (height q.window) steps;
  start = start;
  end = end;
  block = mover_in q.window edges q.block block_base;
  allow = allow_in q.window edges q.allow allow_base;
  places = places_in n groups numbers edges;
}
