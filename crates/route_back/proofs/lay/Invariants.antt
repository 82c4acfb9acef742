-- `route_back::lay` meets its contract. Invariant `Laying`.
use Rattle.route_back.proofs.Walks.{Laying}
use Rattle.route_back.proofs.lay.Given as goal

abbrev pub invariant-loop-i : goal.invariant-loop-i
invariant-loop-i l = Laying l.predecessors l.start l.end l.n l.initial.route l.route l.i l.x
