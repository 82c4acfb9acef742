-- `ground_baseline::blocked_centers` meets its contract. Before the turn at y, the centres of the first y rows are marked.
use Prim.Native.Nat.{◌*◌}
use Rattle.base_laws.specs.Fill.{Filling}
use Rattle.ground_baseline.specs.Lent.{map_of}
use Rattle.ground_baseline.specs.Stamps.{blocked_at}
use Rattle.ground_baseline.proofs.blocked_centers.Given as goal

abbrev pub invariant-loop-y : goal.invariant-loop-y
invariant-loop-y l = Filling (blocked_at (map_of l.map) l.mover l.left l.top l.width l.counts) (l.y-end * l.width) l.initial.baseline l.baseline (l.y * l.width)
