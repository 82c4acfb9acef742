-- `ground_baseline::mark_baseline` meets its contract: each stage has what it asks, and the bytes read off the counts are the rule's marks.
use mathlib.Core.Path.{◌∙◌}
use native.Mathlib.Omega.{arith}
use lib.ListN.{length}
use Rattle.ground_rects.proofs.Windows.{framed}
use Rattle.ground_baseline.specs.Lent.{map_of}
use Rattle.ground_baseline.proofs.Stages.{room, setting, asks_terrain, asks_obstacles, asks_finish, asks_centres, cleared, marked}
use Rattle.ground_baseline.proofs.mark_baseline.Goals as goal

pub width-stride-requires : goal.width-stride-requires
width-stride-requires c =
    let a = c.args in
    (framed _ _ a.window c.requires.window).filled

pub height-requires : goal.height-requires
height-requires c =
    let a = c.args in
    (framed _ _ a.window c.requires.window).filled

pub overflow_mul-n : goal.overflow_mul-n
overflow_mul-n c =
    let a = c.args in
    omega (
      arith,
      c.well_formed.1.1.0.0,
      room (map_of a.map.now) a.obstacles.now a.window a.mover
          a.counts.now (length a.baseline.now) c.width-stride.result c.height.result c.requires
          c.width-stride.ensures.0 c.height.ensures.0,
    )

pub clear-requires : goal.clear-requires
clear-requires c =
    let a = c.args in
    room (map_of a.map.now) a.obstacles.now a.window a.mover a.counts.now
    (length a.baseline.now) c.width-stride.result c.height.result c.requires c.width-stride.ensures.0
    c.height.ensures.0

pub invariant_of-layer : goal.invariant_of-layer
invariant_of-layer c =
    let a = c.args in record {
      setting = setting (map_of a.map.now) a.obstacles.now a.window a.mover
          a.counts.now (length a.baseline.now) c.width-stride.result c.height.result c.requires c.width-stride.ensures.0
          c.height.ensures.0;
    }

pub stamp_terrain_blockers-requires : goal.stamp_terrain_blockers-requires
stamp_terrain_blockers-requires c =
    let a = c.args in
    asks_terrain (map_of a.map.now) a.obstacles.now a.window a.mover
    a.counts.now (length a.baseline.now) c.width-stride.result c.height.result c.requires c.width-stride.ensures.0
    c.height.ensures.0 c.clear.new.s c.clear.ensures

pub stamp_obstacles-requires : goal.stamp_obstacles-requires
stamp_obstacles-requires c =
    let a = c.args in
    asks_obstacles (map_of a.map.now) a.obstacles.now a.window a.mover
    a.counts.now (length a.baseline.now) c.width-stride.result c.height.result c.requires c.width-stride.ensures.0
    c.height.ensures.0 c.clear.new.s c.clear.ensures c.stamp_terrain_blockers.new.counts
    c.stamp_terrain_blockers.ensures

pub finish-requires : goal.finish-requires
finish-requires c =
    let a = c.args in
    asks_finish (map_of a.map.now) a.obstacles.now a.window a.mover
    a.counts.now (length a.baseline.now) c.width-stride.result c.height.result c.requires c.width-stride.ensures.0
    c.height.ensures.0 c.clear.new.s c.clear.ensures c.stamp_terrain_blockers.new.counts
    c.stamp_terrain_blockers.ensures c.stamp_obstacles.new.counts c.stamp_obstacles.ensures

pub blocked_centers-requires : goal.blocked_centers-requires
blocked_centers-requires c =
    let a = c.args in
    asks_centres (map_of a.map.now) a.obstacles.now a.window a.mover
    a.counts.now (length a.baseline.now) c.width-stride.result c.height.result c.requires c.width-stride.ensures.0
    c.height.ensures.0 c.clear.new.s c.clear.ensures c.stamp_terrain_blockers.new.counts
    c.stamp_terrain_blockers.ensures c.stamp_obstacles.new.counts c.stamp_obstacles.ensures c.finish.new.counts c.finish.ensures
    (c.finish.ensures.size ∙ c.stamp_obstacles.auto.counts ∙ c.stamp_terrain_blockers.auto.counts ∙ c.clear.auto.s)

pub clear-requires-2 : goal.clear-requires-2
clear-requires-2 c =
    let a = c.args in
    omega (
      arith,
      room (map_of a.map.now) a.obstacles.now a.window a.mover
          a.counts.now (length a.baseline.now) c.width-stride.result c.height.result c.requires c.width-stride.ensures.0
          c.height.ensures.0,
      (c.finish.ensures.size ∙ c.stamp_obstacles.auto.counts ∙ c.stamp_terrain_blockers.auto.counts ∙ c.clear.auto.s),
    )

pub returns : goal.returns
returns c =
    let a = c.args in record {
      baseline_after = marked (map_of a.map.now) a.obstacles.now a.window a.mover
          a.counts.now (length a.baseline.now) c.width-stride.result c.height.result c.requires c.width-stride.ensures.0
          c.height.ensures.0 c.clear.new.s c.clear.ensures c.stamp_terrain_blockers.new.counts
          c.stamp_terrain_blockers.ensures c.stamp_obstacles.new.counts c.stamp_obstacles.ensures c.finish.new.counts c.finish.ensures
          a.baseline.now c.blocked_centers.new.baseline c.blocked_centers.ensures;
      counts_after = cleared (map_of a.map.now) a.obstacles.now a.window a.mover
          a.counts.now (length a.baseline.now) c.width-stride.result c.height.result c.requires c.width-stride.ensures.0
          c.height.ensures.0 c.clear.new.s c.clear.ensures c.stamp_terrain_blockers.new.counts
          c.stamp_terrain_blockers.ensures c.stamp_obstacles.new.counts c.stamp_obstacles.ensures c.finish.new.counts c.finish.ensures
          c.clear-2.new.s c.clear-2.ensures;
    }
