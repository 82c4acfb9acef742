-- `set_pass::is_minimal_block` meets its contract: each member passed, lifted, gives a route, and the map is laid without the last of them.
use Rattle.rule_routes.specs.Edges.{steps_of}
use Rattle.set_pass.specs.Lent.{mover_at}
use Rattle.set_pass.specs.Same.{SameAreas}
use Rattle.set_pass.proofs.Lifting.{Lifting}
use Rattle.set_pass.proofs.is_minimal_block.Given as goal

abbrev pub invariant-loop-k : goal.invariant-loop-k
invariant-loop-k l = record {
  lifted : Lifting l.ground.window (steps_of l.ground.steps.now) l.ground.start l.ground.end (mover_at l.ground l.mover) l.set
      l.fn.areas.map.now l.fn.areas.queue.now l.fn.areas.predecessors.now l.fn.areas.route.now
      l.areas.map.now l.areas.queue.now l.areas.predecessors.now l.areas.route.now l.k;
  same : SameAreas l.fn.areas l.areas;
}
