-- `sheet_values::numbers_of`: the first k entries are written.
use Prim.Native.Nat.{◌*◌}
use Rattle.base_laws.specs.Fill.{Filling}
use Rattle.sheet_values.specs.Inner.{number_at}
use Rattle.sheet_values.proofs.numbers_of.Given as goal

abbrev pub invariant-loop-k : goal.invariant-loop-k
invariant-loop-k l = Filling (number_at l.words) (4 * l.n) l.initial.out l.out l.k
