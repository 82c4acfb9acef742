-- `call_rows::rows_fit` meets its contract: a row that does not fit is one of those that are to.
use mathlib.Core.Path.{sym, ◌∙◌}
use Rattle.rule_calls.specs.RecordCheck.{row_fits}
use Rattle.call_rows.proofs.Tests.{below_fails}
use Rattle.call_rows.proofs.rows_fit.Goals as goal

pub returns-then-not-row_fits : goal.returns-then-not-row_fits
returns-then-not-row_fits c =
    let a = c.args in
    sym (below_fails (row_fits a.n a.area.now) c.loop-k.k a.count c.loop-k-test.true (sym c.row_fits.ensures ∙ c.if-not-row_fits.true))
