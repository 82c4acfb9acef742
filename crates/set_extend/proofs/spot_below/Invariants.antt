-- `set_extend::spot_below` meets its contract: v stands x centres after the start of the row reached. The measure is x.
use Rattle.set_extend.proofs.Spots.{RowsDown}
use Rattle.set_extend.proofs.spot_below.Given as goal

abbrev pub invariant-loop-x : goal.invariant-loop-x
invariant-loop-x l = RowsDown l.width l.v l.x l.y

abbrev pub decreases-loop-x : goal.decreases-loop-x
decreases-loop-x l = l.x
