-- The answers to the goals of `set_extend::spot_above`.
use Rattle.set_extend.proofs.Spots.{up_more, up_found}
use Rattle.set_extend.proofs.spot_above.Goals as goal

pub loop-spot-preserved : goal.loop-spot-preserved
loop-spot-preserved c = up_more _ _ _ _ c.loop-spot.invariant c.loop-spot-test.true

pub returns : goal.returns
returns c = up_found _ _ _ _ c.loop-spot.invariant c.loop-spot-test.false
