-- The answers to the goals of `walls_flat::lay_all`.
use native.Mathlib.Omega.{arith}
use Rattle.ground_rects.specs.Rects.{rect}
use Rattle.rule_layouts.specs.Inputs.{no_place}
use Rattle.walls_rows.proofs.Turns.{turn_none, turn_more, turn_all}
use Rattle.walls_flat.proofs.lay_all.Goals as goal

pub loop-i-init : goal.loop-i-init
loop-i-init c = turn_none _ _ _

pub loop-i-preserved : goal.loop-i-preserved
unfolding no_place rect
loop-i-preserved c = turn_more _ _ _ c.requires.0 c.requires.1 _ _ _ c.loop-i-test.true c.loop-i.invariant _ _ c.lay.ensures.1

pub returns : goal.returns
returns c = turn_all _ _ _ _ _ _ (omega arith) c.loop-i.invariant
