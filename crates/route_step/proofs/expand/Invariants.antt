-- `route_step::expand` meets its contract. Invariant `Expanding`: the steps left come to the whole table.
use Prim.Native.Nat.{◌*◌, ◌/◌, ◌%◌}
use lib.IntN.{pos}
use Rattle.route_step.proofs.Expanding.{Expanding}
use Rattle.route_step.proofs.expand.Given as goal

abbrev pub invariant-loop-dx : goal.invariant-loop-dx
invariant-loop-dx l =
    Expanding l.grid.map.now l.grid.width l.grid.height l.steps l.u (pos (l.u % l.grid.width)) (pos (l.u / l.grid.width))
    (record { queue = l.initial.queue; predecessors = l.initial.predecessors; tail = l.tail })
    (record { queue = l.queue; predecessors = l.predecessors; tail = l.t }) (2 * l.dx-index)
