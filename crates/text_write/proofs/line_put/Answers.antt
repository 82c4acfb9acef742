-- `line_put`: after a number or another byte, what is laid down is longer by its spelling.
use mathlib.Core.Path.{sym, ◌∙◌}
use native.Mathlib.Omega.{arith}
use Rattle.std.proofs.lemmas.Grind.{common_steps}
use Rattle.text_write.proofs.Lines.{laid_some, laid_field, laid_byte}
use Rattle.text_write.proofs.line_put.Goals.{then-is_number+in-len1-up, else-is_number}
use Rattle.text_write.proofs.line_put.Goals as goal

pub loop-c-preserved : goal.loop-c-preserved
loop-c-preserved c = elim c.if-is_number.branch [
  | then-is_number+in-len1-up w ↦ rw (w.out-is, w.i-is, w.rest-is) (laid_field _ _ _ _ _ _ _ _ c.loop-c.invariant (omega arith) (sym c.is_number.ensures ∙ w.if-is_number.true)
      _ _ (grind (arith, common_steps)) _ _ w.field_put-i.ensures)
  | else-is_number w ↦ rw (w.out-is, w.i-is, w.rest-is) (laid_byte _ _ _ _ _ _ _ _ c.loop-c.invariant (omega arith) (sym c.is_number.ensures ∙ w.if-is_number.false))
]

pub unreachable-requires : goal.unreachable-requires
unreachable-requires c = omega (arith, laid_some _ _ _ _ _ _ _ _ c.loop-c.invariant (omega arith) (sym c.is_number.ensures ∙ c.if-is_number.true))
