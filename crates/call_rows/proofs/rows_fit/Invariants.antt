-- `call_rows::rows_fit` meets its contract: the rows passed fit.
use mathlib.Core.Path.{◌≡◌}
use mathlib.Core.Bool.{true}
use Rattle.base_laws.specs.Lists.{all_of, below}
use Rattle.rule_calls.specs.RecordCheck.{row_fits}
use Rattle.call_rows.proofs.rows_fit.Given as goal

abbrev pub invariant-loop-k : goal.invariant-loop-k
invariant-loop-k l = all_of (row_fits l.n l.area) (below l.k) ≡ true
