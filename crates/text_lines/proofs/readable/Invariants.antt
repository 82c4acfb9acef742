-- `readable`: what the rest of the pattern says, after a number or not, is what the whole says.
use Rattle.text_forms.proofs.Walks.{Checking}
use Rattle.text_lines.proofs.readable.Given as goal

abbrev pub invariant-loop-c : goal.invariant-loop-c
invariant-loop-c l = Checking l.pattern l.after_number l.c-index
