-- `route_step::enter` meets its contract: each way out is one case of the step's definition, and a centre that is new finds room in the queue.
use mathlib.Core.Path.{sym}
use native.Mathlib.Omega.{arith}
use mir.Facts.{to_z-of_z}
use Rattle.route_step.proofs.Steps.{centre_below}
use Rattle.route_step.proofs.Marks.{tail_below}
use Rattle.route_step.proofs.Entering.{out_column, out_row, shut, reached, barred, fresh}
use Rattle.route_step.proofs.enter.Goals as goal
use Rattle.route_step.proofs.enter.Goals.{then-predecessors-v-ne0-via-then-predecessors-v-ne0, then-predecessors-v-ne0-via-else-predecessors-v-ne0+then-not-is_open}
use Rattle.route_step.proofs.enter.Goals.{then-predecessors-v-ne0-via-else-predecessors-v-ne0+else-not-is_open+then-not-passes}

pub returns-in_default : goal.returns-in_default
returns-in_default c = out_column _ _ _ _ _ _ _ _ _ (rw (to_z-of_z c.ranges.dx) at (c.in_default.ensures))

pub returns-in_default-moved : goal.returns-in_default-moved
returns-in_default-moved c =
    out_row _ _ _ _ _ _ _ _ _ _ (rw (to_z-of_z c.ranges.dx) at (c.in-Some.ensures)) (rw (to_z-of_z c.ranges.dy) at (c.in_default-moved.ensures))

pub returns-then-predecessors-v-ne0 : goal.returns-then-predecessors-v-ne0
returns-then-predecessors-v-ne0 c =
    let right = rw (to_z-of_z c.ranges.dx) at (c.in-Some.ensures) in
    let down = rw (to_z-of_z c.ranges.dy) at (c.in-Some-moved.ensures) in
    elim c.then-predecessors-v-ne0.branch [
      | then-predecessors-v-ne0-via-then-predecessors-v-ne0 w
          ↦ reached _ _ _ _ _ _ _ _ _ _ right _ down (λ z. let t = w.if-predecessors-v-ne0.true in omega arith)
      | then-predecessors-v-ne0-via-else-predecessors-v-ne0+then-not-is_open w
          ↦ shut _ _ _ _ _ _ _ _ _ _ right _ down (sym (w.if-not-is_open.ensures))
      | then-predecessors-v-ne0-via-else-predecessors-v-ne0+else-not-is_open+then-not-passes w
          ↦ barred _ _ _ _ _ _ _ _ _ _ right _ down (rw (to_z-of_z c.ranges.dx, to_z-of_z c.ranges.dy) at (sym (w.if-not-passes.ensures)))
    ]

pub bounds-queue-tail : goal.bounds-queue-tail
bounds-queue-tail c =
    let h = tail_below _ _ c.requires.search_room _ (centre_below (c.in-Some.ensures).1 (c.in-Some-moved.ensures).1) c.if-predecessors-v-ne0.false in
    omega (arith, c.requires.search_room.queue_room)

pub offset_bounds-queue-tail : goal.offset_bounds-queue-tail
offset_bounds-queue-tail c =
    let h = tail_below _ _ c.requires.search_room _ (centre_below (c.in-Some.ensures).1 (c.in-Some-moved.ensures).1) c.if-predecessors-v-ne0.false in
    omega (arith, c.args.grid.now.whole.small)

pub overflow_add-result : goal.overflow_add-result
overflow_add-result c =
    let h = tail_below _ _ c.requires.search_room _ (centre_below (c.in-Some.ensures).1 (c.in-Some-moved.ensures).1) c.if-predecessors-v-ne0.false in
    omega (arith, c.args.grid.now.whole.small)

pub returns : goal.returns
returns c =
    fresh _ _ _ _ _ _ _ _ _ _ (rw (to_z-of_z c.ranges.dx) at (c.in-Some.ensures)) _ (rw (to_z-of_z c.ranges.dy) at (c.in-Some-moved.ensures))
    (sym (c.if-not-is_open.ensures)) c.if-predecessors-v-ne0.false
    (rw (to_z-of_z c.ranges.dx, to_z-of_z c.ranges.dy) at (sym (c.if-not-passes.ensures)))
