-- `walls_step::step` meets its contract: the placements that are laid flat are those of the row, and too many of them are too many either way.
use mathlib.Core.Path.{sym}
use lib.ListN.{length}
use lib.Seq.{length-take-le}
use Rattle.base_model.specs.Answers.{reply_of}
use Rattle.rule_calls.specs.Calls.{record_or}
use Rattle.call_lengths.specs.Lent.{work_of}
use Rattle.walls_lent.proofs.Cut.{joined, part_le}
use Rattle.walls_lent.proofs.Lent.{step_lent}
use Rattle.walls_step.proofs.step.Goals as goal

pub slice_bounds-step_flat-end : goal.slice_bounds-step_flat-end
slice_bounds-step_flat-end c = part_le c.args.store.now.lists.now (length c.args.plan.now.places.now) c.lists_lent-part.ensures

pub slice_bounds-step_flat-end-2 : goal.slice_bounds-step_flat-end-2
slice_bounds-step_flat-end-2 c =
    sym (length-take-le c.lists_lent-part.result c.args.store.now.lists.now (part_le c.args.store.now.lists.now (length c.args.plan.now.places.now) c.lists_lent-part.ensures))

pub returns-in-Ok-clause-call : goal.returns-in-Ok-clause-call
unfolding joined reply_of record_or
returns-in-Ok-clause-call c =
    let p = c.args.plan.now in
    let s = c.args.store.now in
    step_lent p.query p.groups.now p.block_base.now p.allow_base.now p.places.now _ c.flat-given.ensures
    s.lists.now s.visited.now s.layouts.now s.points.now c.lists_lent-part.result c.lists_lent-part.ensures
    c.args.limits c.args.steps.now c.args.rec.now c.args.n (work_of c.args.work.now) _ c.in-Ok.ensures.call

pub returns-in-Err-clause-call : goal.returns-in-Err-clause-call
unfolding joined reply_of record_or
returns-in-Err-clause-call c =
    let p = c.args.plan.now in
    let s = c.args.store.now in
    step_lent p.query p.groups.now p.block_base.now p.allow_base.now p.places.now _ c.flat-given.ensures
    s.lists.now s.visited.now s.layouts.now s.points.now c.lists_lent-part.result c.lists_lent-part.ensures
    c.args.limits c.args.steps.now c.args.rec.now c.args.n (work_of c.args.work.now) _ c.in-Err.ensures.call
