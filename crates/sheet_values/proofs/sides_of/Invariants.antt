-- `sheet_values::sides_of`: the first k entries are written.
use Rattle.base_laws.specs.Fill.{Filling}
use Rattle.sheet_values.specs.Inner.{side_at}
use Rattle.sheet_values.proofs.sides_of.Given as goal

abbrev pub invariant-loop-k : goal.invariant-loop-k
invariant-loop-k l = Filling (side_at l.words) l.n l.initial.out l.out l.k
