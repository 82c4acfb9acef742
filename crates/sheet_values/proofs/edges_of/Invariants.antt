-- `sheet_values::edges_of`: the first k entries are written.
use Prim.Native.Nat.{◌*◌}
use Rattle.base_laws.specs.Fill.{Filling}
use Rattle.sheet_values.specs.Inner.{edge_at}
use Rattle.sheet_values.proofs.edges_of.Given as goal

abbrev pub invariant-loop-k : goal.invariant-loop-k
invariant-loop-k l = Filling (edge_at l.words) (8 * l.n) l.initial.out l.out l.k
