-- `route_back::count` meets its contract. Invariant `Counting`; the measure is the room left for the count.
use Prim.Native.Nat.{◌-◌, ◌^◌}
use Rattle.route_back.proofs.Walks.{Counting}
use Rattle.route_back.proofs.count.Given as goal

abbrev pub invariant-loop-x : goal.invariant-loop-x
invariant-loop-x l = Counting l.predecessors l.start l.end l.n l.x

abbrev pub decreases-loop-x : goal.decreases-loop-x
decreases-loop-x l = 2 ^ 32 - l.n
