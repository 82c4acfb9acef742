-- `in_line`: the values left are those of the rest of the pattern exactly when all are those of the whole.
use Rattle.text_write.proofs.Lines.{Matching}
use Rattle.text_write.proofs.in_line.Given as goal

abbrev pub invariant-loop-c : goal.invariant-loop-c
invariant-loop-c l = Matching l.pattern l.values l.c-index l.rest
