-- `optional`: a line that stands there is read as one, else there is none.
use native.Mathlib.Omega.{arith}
use Rattle.std.proofs.Common.{sym, ◌∙◌}
use Rattle.text_read.proofs.Runs.{few_wrong, few_full, few_read}
use Rattle.text_read.proofs.optional.Goals as goal

pub returns-then-out-w : goal.returns-then-out-w
returns-then-out-w c = few_full _ _ _ _ (sym c.readable.ensures ∙ c.if-not-readable.false) (omega arith) _ c.in-Ok.ensures (omega (arith, c.width-w.ensures))

pub returns-in-Err : goal.returns-in-Err
returns-in-Err c = few_wrong _ _ _ _ (sym c.readable.ensures ∙ c.if-not-readable.false) (omega arith) _ c.in-Err.ensures

pub returns-else-out-w : goal.returns-else-out-w
returns-else-out-w c = few_read _ _ _ _ (sym c.readable.ensures ∙ c.if-not-readable.false) (omega arith) _ c.in-Ok.ensures _ c.width-w.ensures (omega arith) _
    c.store.ensures
