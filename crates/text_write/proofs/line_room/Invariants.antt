-- `line_room`: what is laid down so far and the room still left are the room at the start.
use Rattle.text_write.proofs.Lines.{Measuring}
use Rattle.text_write.proofs.line_room.Given as goal

abbrev pub invariant-loop-c : goal.invariant-loop-c
invariant-loop-c l = Measuring l.pattern l.values l.left l.more l.c-index l.rest
