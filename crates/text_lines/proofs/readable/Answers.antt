-- `readable`, byte by byte.
use Rattle.text_lines.proofs.Pattern.{check_step}
use Rattle.text_forms.proofs.Walks.{check_done}
use Rattle.text_lines.proofs.readable.Goals as goal
use Rattle.text_lines.proofs.readable.Goals.{else-after_number-via-then-after_number+else-not-opens, else-after_number-via-else-after_number}
use Rattle.std.proofs.Common.{sym, ◌∙◌}

pub loop-c-preserved : goal.loop-c-preserved
loop-c-preserved c = check_step c.args.pattern.now c.loop-c.c-index c.loop-c.after_number c.is_number-after_number.result c.loop-c-test.true c.loop-c.invariant
    (λ e. elim c.else-after_number.branch [
      | else-after_number-via-then-after_number+else-not-opens w ↦ sym w.opens.ensures ∙ w.if-not-opens.false
      | else-after_number-via-else-after_number w ↦ absurd (cc (e, w.if-after_number.false))
    ])
    c.is_number-after_number.ensures

pub returns : goal.returns
returns c = check_done _ _ _ c.loop-c.invariant c.loop-c-test.false
