-- `walls_on::step_on` meets its contract: it makes the call and lays what that answers as numbers.
use mathlib.Core.Path.{sym, ◌∙◌, ap}
use native.Mathlib.Omega.{arith}
use lib.ListN.{length, take}
use lib.Seq.{length-take-le}
use Rattle.base_model.specs.declared.Record.{Record}
use Rattle.rule_calls.specs.Areas.{Store, work_in, store_in}
use Rattle.rule_calls.specs.Calls.{step_call}
use Rattle.set_places.specs.Given.{inputs_in}
use Rattle.walls_numbers.proofs.Fifty.{lent_at_most}
use Rattle.walls_numbers.proofs.Left.{step_left}
use Rattle.walls_on.proofs.step_on.Goals as goal

pub slice_bounds-step_in-end : goal.slice_bounds-step_in-end
slice_bounds-step_in-end c =
    omega (arith, c.visited_lent-room.ensures, lent_at_most (length c.args.rec.now) (length c.args.visited.now))

pub slice_bounds-step_in-end-2 : goal.slice_bounds-step_in-end-2
slice_bounds-step_in-end-2 c =
    sym (length-take-le c.visited_lent-room.result c.args.visited.now
    (omega (
      arith,
      c.visited_lent-room.ensures,
      lent_at_most (length c.args.rec.now) (length c.args.visited.now),
    )))

pub returns : goal.returns
returns c =
    let a = c.args in
    let i = inputs_in a.given.now in
    let s : Store = store_in a.lists.now (take c.visited_lent-room.result a.visited.now) a.layouts.now a.points.now in
    step_left a.steps.now i a.limits a.rec.now (work_in a.counts.now a.map.now a.queue.now a.predecessors.now a.route.now) a.lists.now a.visited.now a.layouts.now a.points.now
    c.visited_lent-room.result c.visited_lent-room.ensures a.n _ _ _ _
    (ap (λ (r : Record). step_call a.steps.now i a.limits r a.n (work_in a.counts.now a.map.now a.queue.now a.predecessors.now a.route.now) s) (sym c.record_in-held.ensures) ∙ c.step_in-reply.ensures)
    c.tell.ensures.number c.tell.ensures.index (c.tell.ensures.record c.record_in-held.result)
