-- What is lent for a route past a set, and the routes that a set leaves.
use Rattle.std.specs.Prelude.{ℕ, ◌≤◌, ◌<◌, ◌≡◌, Bool, true, List, [], ℤ, length, replicate}
use Rattle.std.proofs.Math.Option.{Option, none, some}
use Rattle.base_laws.specs.Lists.{all_of, ascends, without, is_some}
use Rattle.base_model.specs.declared.Rect.{Rect}
use Rattle.base_model.specs.declared.Bounds.{Bounds}
use Rattle.ground_rects.specs.Rects.{nonempty, small}
use Rattle.ground_rects.specs.Windows.{width, height, centres}
use Rattle.rule_routes.specs.Edges.{Step, window_edges}
use Rattle.rule_routes.specs.Routes as routes
use Rattle.rule_layouts.specs.Boards.{Mover, leaves_open}
use Rattle.set_blocked.specs.Blocked.{AllowReady, Named}
use Rattle.set_places.specs.declared.Given.{Given}
use Rattle.set_pass.specs.declared.Ground.{Ground}

-- the working areas for a route in the window from centre start to centre end; the map may hold anything
pub record RouteLent (w : Rect) (start end : ℕ) (map queue predecessors route : List ℕ) : Type 0 where
  pub some : nonempty w ≡ true
  pub few : centres w ≤ 1048576
  pub start_below : start < centres w
  pub end_below : end < centres w
  pub bytes : length map ≡ centres w
  pub queue_clear : queue ≡ replicate (centres w) 0
  pub predecessors_clear : predecessors ≡ replicate (centres w) 0
  pub route_clear : route ≡ replicate (centres w) 0

-- a mover with its baseline and the members that may stand in its way
pub record Moving (w : Rect) (m : Bounds) (base : List ℕ) (edges : List ℤ) (set : List ℕ) : Type 0 where
  pub slim : small m ≡ true
  pub bytes : centres w ≤ length base
  pub named : Named edges set

-- what the movers of a query need where no route is left to the blocked one
pub record Shutting (g : Ground) (given : Given) (set : List ℕ) : Type 0 where
  pub moving : Moving g.window given.query.block given.block_base.now g.places.edges.now set
  pub allowed : AllowReady g.window given.query.allow given.allow_base.now
  pub rising : ascends set ≡ true

-- the areas are as they were
pub record AreasKept (queue predecessors route queue' predecessors' route' : List ℕ) : Type 0 where
  pub queue_kept : queue' ≡ queue
  pub predecessors_kept : predecessors' ≡ predecessors
  pub route_kept : route' ≡ route

module _ (w : Rect) (steps : List Step) (start end : ℕ) where
  -- the route that a set leaves a mover
  unfoldable pub passed : Mover → List ℕ → Option (List ℕ)
  passed m s = routes.route (window_edges (width w) (height w) steps) (centres w) (leaves_open m s) start end

  -- lifting any one member gives open ends and a route
  unfoldable pub minimal : Mover → List ℕ → Bool
  minimal m s = all_of (λ (i : ℕ). is_some (passed m (without i s))) s

  -- the route that a set leaves the allowed mover; no points where there is no such mover
  unfoldable pub allowed_past : Option Mover → List ℕ → Option (List ℕ)
  allowed_past none s = some []
  allowed_past (some m) s = passed m s
