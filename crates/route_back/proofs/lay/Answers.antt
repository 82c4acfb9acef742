-- The answers to the goals of `route_back::lay`.
use mathlib.Core.Path.{refl}
use Rattle.route_back.proofs.Walks.{laying_begin, laying_next, laying_done}
use Rattle.route_back.proofs.lay.Goals as goal

pub loop-i-init : goal.loop-i-init
loop-i-init c = laying_begin _ _ _ _ _ c.requires.leads c.requires.back_counted

pub loop-i-preserved : goal.loop-i-preserved
loop-i-preserved c = laying_next _ _ _ _ _ _ _ _ c.loop-i.invariant c.loop-i-test.true _ refl

pub returns : goal.returns
returns c = laying_done _ _ _ _ _ _ _ _ c.loop-i.invariant c.loop-i-test.false
