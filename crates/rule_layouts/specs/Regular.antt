-- What is asked of a board: edges that stay on it and come in opposite pairs, ends that stand on it, overlaps that are mutual.
use Rattle.std.specs.Prelude.{ℕ, ◌<◌, ◌≡◌}
use Rattle.rule_routes.specs.Pairs.{Within, Paired, OneEdge}
use Rattle.rule_layouts.specs.Boards.{Board}

pub record Regular (g : Board) : Type 0 where
  pub within : Within g.edges g.nodes
  pub one_edge : OneEdge g.edges
  pub paired : Paired g.edges g.nodes
  pub from : g.start < g.nodes
  pub to : g.end < g.nodes
  pub mutual_overlap : (i j : ℕ) → g.places.overlap i j ≡ g.places.overlap j i

-- the board with its ends exchanged
unfoldable pub turned : Board → Board
turned g = record { nodes = g.nodes; edges = g.edges; start = g.end; end = g.start; block = g.block; allow = g.allow; places = g.places }
