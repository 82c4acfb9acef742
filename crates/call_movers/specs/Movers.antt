-- 7, 8 and 9 for both movers, over their baselines alone.
use Rattle.std.specs.Prelude.{ℕ, ◌≤◌, ◌≡◌, true, List, length, take, replicate}
use Rattle.std.proofs.Math.Option.{Option, none}
use Rattle.base_model.specs.Answers.{Said}
use Rattle.std.specs.Prelude.{None, Some}
use Rattle.base_model.specs.declared.Query.{Query}
use Rattle.ground_rects.specs.Windows.{centres, window_fits, in_window}
use Rattle.rule_routes.specs.Edges.{Step}
use Rattle.rule_layouts.specs.Inputs.{Inputs}
use Rattle.call_passage.specs.Passages.{passage_over}
use Rattle.call_checks.specs.Parts.{allow_long}

-- for the allowed mover, if there is one
unfoldable pub allow_passage : List Step → Query → List ℕ → Option Said
allow_passage steps q base = elim q.allow [ None ↦ none | Some m ↦ passage_over steps q.window q.start q.end base ]

-- the ends lie in a window that passes 2, and three working areas are zero
pub record Swept (q : Query) (queue predecessors route : List ℕ) : Type 0 where
  pub window : window_fits 8192 8192 q.window ≡ true
  pub start_in : in_window q.window q.start ≡ true
  pub end_in : in_window q.window q.end ≡ true
  pub queue_clear : take (centres q.window) queue ≡ replicate (centres q.window) 0
  pub predecessors_clear : take (centres q.window) predecessors ≡ replicate (centres q.window) 0
  pub route_clear : take (centres q.window) route ≡ replicate (centres q.window) 0

-- and the baselines are long enough
pub record Movable (q : Query) (block_base allow_base queue predecessors route : List ℕ) : Type 0 where
  pub swept : Swept q queue predecessors route
  pub block : centres q.window ≤ length block_base
  pub allow : allow_long (centres q.window) q.allow (length allow_base) ≡ true

-- the inputs with this query and these baselines
pub record Bases (i : Inputs) (q : Query) (block_base allow_base : List ℕ) : Type 0 where
  pub query : i.query ≡ q
  pub block : i.block_base ≡ block_base
  pub allow : i.allow_base ≡ allow_base
