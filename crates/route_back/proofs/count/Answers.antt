-- The answers to the goals of `route_back::count`.
use mathlib.Core.Path.{refl}
use Rattle.route_back.proofs.Walks.{counting_begin, counting_next, counting_done}
use Rattle.route_back.proofs.count.Goals as goal

pub loop-x-init : goal.loop-x-init
loop-x-init c = counting_begin _ _ _ c.requires

pub loop-x-preserved : goal.loop-x-preserved
loop-x-preserved c = counting_next _ _ _ _ _ c.loop-x.invariant c.loop-x-test.true _ refl

pub returns : goal.returns
returns c = counting_done _ _ _ _ _ c.loop-x.invariant c.loop-x-test.false
