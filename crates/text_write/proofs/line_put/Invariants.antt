-- `line_put`: what is laid down so far and the spelling of the rest are the whole.
use Rattle.text_write.proofs.Lines.{LineLaid}
use Rattle.text_write.proofs.line_put.Given as goal

abbrev pub invariant-loop-c : goal.invariant-loop-c
invariant-loop-c l = LineLaid l.pattern l.values l.initial.out l.at l.out l.i l.c-index l.rest
