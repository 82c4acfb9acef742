-- The answers to the goals of `ground_baseline::Layer::stamp_obstacles`.
use native.Mathlib.Omega.{arith}
use Rattle.ground_baseline.proofs.Layer.stamp_obstacles.Invariants.{still, laid_one}
use Rattle.ground_baseline.proofs.Layer.stamp_obstacles.Goals as goal

pub stamp_expanded-requires : goal.stamp_expanded-requires
stamp_expanded-requires c =
    let w = c.args.self.now in
    still c.args.counts.now c.args.obstacles.now w.window w.mover c.requires.0 c.loop-i.counts c.loop-i.i c.loop-i.invariant (omega (arith, c.requires.0, c.loop-i-test.true))
    c.requires.1

pub loop-i-preserved : goal.loop-i-preserved
loop-i-preserved c =
    let w = c.args.self.now in
    laid_one c.args.counts.now c.args.obstacles.now w.window w.mover c.requires.0 c.loop-i.counts c.loop-i.i c.loop-i.invariant (omega (arith, c.requires.0, c.loop-i-test.true))
    c.stamp_expanded.new.counts c.rect_at.result c.rect_at.ensures c.stamp_expanded.auto.counts c.stamp_expanded.ensures
