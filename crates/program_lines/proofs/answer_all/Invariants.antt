-- `answer_all`: the measure is what is left of the text.
use Rattle.std.proofs.Common.{length}
use Rattle.program_lines.proofs.answer_all.Given as goal

abbrev pub decreases-loop-rest : goal.decreases-loop-rest
decreases-loop-rest g l = length l.rest
