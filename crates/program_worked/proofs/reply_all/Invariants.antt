-- `reply_all`: each turn goes on, so that less of the text is left.
use Rattle.std.proofs.Common.{length, ◌-◌}
use Rattle.program_worked.proofs.reply_all.Given as goal

abbrev pub invariant-loop-at : goal.invariant-loop-at
invariant-loop-at g l = Unit {0}

abbrev pub decreases-loop-at : goal.decreases-loop-at
decreases-loop-at g l = length l.all - l.at
