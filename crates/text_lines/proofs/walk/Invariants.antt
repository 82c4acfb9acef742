-- `walk`: what the rest of the pattern comes to from here is what the whole comes to from `at`, and the numbers read so far that the area
-- has room for are its first. A fault means that no line stands there.
use Rattle.text_lines.proofs.Storing.{Storing}
use Rattle.text_lines.proofs.walk.Given as goal

abbrev pub invariant-loop-c : goal.invariant-loop-c
invariant-loop-c l = Storing l.pattern l.s l.at l.initial.out l.out l.i l.c-index l.k
