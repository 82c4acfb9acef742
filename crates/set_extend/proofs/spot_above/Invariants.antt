-- `set_extend::spot_above` meets its contract: v doesn't stand below the row reached. The measure is that row's number.
use Rattle.set_extend.proofs.Spots.{RowsUp}
use Rattle.set_extend.proofs.spot_above.Given as goal

abbrev pub invariant-loop-spot : goal.invariant-loop-spot
invariant-loop-spot l = RowsUp l.width l.v l.spot.y l.spot.start

abbrev pub decreases-loop-spot : goal.decreases-loop-spot
decreases-loop-spot l = l.spot.y
