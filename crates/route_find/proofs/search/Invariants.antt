-- `route_find::search` meets its contract. Invariant `Looping`: the areas hold the routes found, and the turns left come to the whole search. The measure
-- is the number of centres left without a turn.
use Prim.Native.Nat.{◌-◌, ◌*◌}
use lib.ListN.{set}
use Rattle.rule_routes.specs.Edges.{steps_of, window_edges}
use Rattle.rule_routes.specs.Routes.{neighbours}
use Rattle.route_step.specs.Ground.{open_in}
use Rattle.route_find.proofs.Searching.{Looping}
use Rattle.route_find.proofs.search.Given as goal

abbrev pub invariant-loop-head : goal.invariant-loop-head
invariant-loop-head l =
    Looping (l.grid.width * l.grid.height) l.start l.end (neighbours (window_edges l.grid.width l.grid.height (steps_of l.steps)) (open_in l.grid.map.now))
    (set l.initial.queue 0 0) (set l.initial.predecessors l.start 0)
    (record { queue = l.queue; predecessors = l.predecessors; tail = l.tail }) l.head

abbrev pub decreases-loop-head : goal.decreases-loop-head
decreases-loop-head l = l.grid.width * l.grid.height - l.head
