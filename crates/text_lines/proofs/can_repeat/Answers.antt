-- `can_repeat`: the first byte tells.
use native.Mathlib.Omega.{arith}
use Rattle.std.proofs.Common.{sym, ◌∙◌}
use Rattle.text_forms.proofs.Walks.{repeat_none}
use Rattle.text_lines.proofs.Pattern.{repeat_yes, repeat_no}
use Rattle.text_lines.proofs.can_repeat.Goals as goal

pub returns-in-empty : goal.returns-in-empty
returns-in-empty c = repeat_none _ (omega arith)

pub returns-then-opens : goal.returns-then-opens
returns-then-opens c = c.readable.ensures ∙ repeat_yes _ (omega arith) (sym c.opens.ensures ∙ c.if-opens.true)

pub returns-else-opens : goal.returns-else-opens
returns-else-opens c = c.if-opens.false ∙ repeat_no _ (omega arith) (sym c.opens.ensures ∙ c.if-opens.false)
