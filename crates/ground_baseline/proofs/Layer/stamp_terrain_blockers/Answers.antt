-- The answers to the goals of `ground_baseline::Layer::stamp_terrain_blockers`.
use Rattle.ground_baseline.specs.Lent.{map_of}
use Rattle.ground_baseline.proofs.Layer.stamp_terrain_blockers.Invariants.{start, still, passed, laid_one}
use Rattle.ground_baseline.proofs.Layer.stamp_terrain_blockers.Goals as goal
use Rattle.ground_baseline.proofs.Layer.stamp_terrain_blockers.Goals.{then-cell-eq0, else-cell-eq0}

pub loop-i-init : goal.loop-i-init
loop-i-init c = let w = c.args.self.now in start c.args.counts.now (map_of c.args.map.now) w.window w.mover

pub stamp_expanded-requires : goal.stamp_expanded-requires
stamp_expanded-requires c =
    let w = c.args.self.now in
    still c.args.counts.now (map_of c.args.map.now) w.window w.mover c.loop-i.counts c.loop-i.i c.loop-i.invariant c.loop-i-test.true c.requires.1

pub loop-i-preserved : goal.loop-i-preserved
loop-i-preserved c =
    let a = c.args in
    let w = a.self.now in
    elim c.if-cell-eq0.branch [
      | then-cell-eq0 b ↦ rw b.counts-is (laid_one a.counts.now (map_of a.map.now) w.window w.mover c.loop-i.counts c.loop-i.i c.loop-i.invariant c.loop-i-test.true
          b.stamp_expanded.new.counts b.rect.result b.if-cell-eq0.true b.rect.ensures b.stamp_expanded.auto.counts b.stamp_expanded.ensures)
      | else-cell-eq0 b ↦ rw b.counts-is (passed a.counts.now (map_of a.map.now) w.window w.mover c.loop-i.counts c.loop-i.i c.loop-i.invariant c.loop-i-test.true b.if-cell-eq0.false)
    ]
