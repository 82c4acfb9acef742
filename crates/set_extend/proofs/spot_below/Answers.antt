-- The answers to the goals of `set_extend::spot_below`.
use Rattle.set_extend.proofs.Spots.{down_found}
use Rattle.set_extend.proofs.spot_below.Goals as goal

pub returns : goal.returns
returns c = down_found _ _ _ _ c.loop-x.invariant c.loop-x-test.false
