-- `call_checks::groups_fit` meets its contract. Before each count, those before it are from 1 to 6, and have been summed.
use Rattle.call_checks.proofs.Grouped.{Summed}
use Rattle.call_checks.proofs.groups_fit.Given as goal

abbrev pub invariant-loop-slots : goal.invariant-loop-slots
invariant-loop-slots l = Summed l.groups l.sum l.slots-index
