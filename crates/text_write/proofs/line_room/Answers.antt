-- `line_room`: a number or another byte has room in what is left, or the line is too long.
use mathlib.Core.Path.{sym, ◌∙◌}
use native.Mathlib.Omega.{arith}
use Rattle.std.proofs.lemmas.Grind.{common_steps}
use Rattle.text_write.proofs.Lines.{measuring_some, measuring_field, measuring_byte}
use Rattle.text_write.proofs.line_room.Goals.{then-is_number+in-len1-up, else-is_number}
use Rattle.text_write.proofs.line_room.Goals as goal

pub loop-c-preserved : goal.loop-c-preserved
loop-c-preserved c = elim c.if-is_number.branch [
  | then-is_number+in-len1-up w ↦ rw (w.n-is, w.rest-is) (measuring_field _ _ _ _ _ _ c.loop-c.invariant (omega arith) (sym c.is_number.ensures ∙ w.if-is_number.true)
      _ _ (grind (arith, common_steps)) _ w.field_count-n.ensures (omega (arith, w.n-is)))
  | else-is_number w ↦ rw (w.n-is, w.rest-is) (measuring_byte _ _ _ _ _ _ c.loop-c.invariant (omega arith) (sym c.is_number.ensures ∙ w.if-is_number.false) (omega (arith, w.n-is)))
]

pub unreachable-requires : goal.unreachable-requires
unreachable-requires c = omega (arith, measuring_some _ _ _ _ _ _ c.loop-c.invariant (omega arith) (sym c.is_number.ensures ∙ c.if-is_number.true))
