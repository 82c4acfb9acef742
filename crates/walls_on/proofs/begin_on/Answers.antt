-- `walls_on::begin_on` meets its contract: it makes the call and lays what that answers as numbers.
use mathlib.Core.Path.{sym}
use native.Mathlib.Omega.{arith}
use lib.ListN.{length}
use lib.Seq.{length-take-le}
use Rattle.rule_calls.specs.Areas.{work_in}
use Rattle.rule_calls.specs.Calls.{no_record}
use Rattle.set_places.specs.Given.{inputs_in}
use Rattle.walls_numbers.proofs.Fifty.{lent_at_most}
use Rattle.walls_numbers.proofs.Left.{begin_left}
use Rattle.walls_on.proofs.begin_on.Goals as goal

pub slice_bounds-begin_in-end : goal.slice_bounds-begin_in-end
slice_bounds-begin_in-end c =
    omega (arith, c.visited_lent-room.ensures, lent_at_most (length c.args.rec.now) (length c.args.visited.now))

pub slice_bounds-begin_in-end-2 : goal.slice_bounds-begin_in-end-2
slice_bounds-begin_in-end-2 c =
    sym (length-take-le c.visited_lent-room.result c.args.visited.now
    (omega (
      arith,
      c.visited_lent-room.ensures,
      lent_at_most (length c.args.rec.now) (length c.args.visited.now),
    )))

pub returns : goal.returns
returns c =
    let a = c.args in
    begin_left a.steps.now (inputs_in a.given.now) a.limits a.rec.now (work_in a.counts.now a.map.now a.queue.now a.predecessors.now a.route.now)
    a.lists.now a.visited.now a.layouts.now a.points.now c.visited_lent-room.result
    c.visited_lent-room.ensures _ _ _ _
    c.begin_in-reply.ensures c.tell.ensures.number c.tell.ensures.index (c.tell.ensures.record no_record)
