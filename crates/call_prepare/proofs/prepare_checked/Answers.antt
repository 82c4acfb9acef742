-- `call_prepare::prepare_checked` meets its contract: each function that it calls has what it asks, and what they leave is the definition of the call.
use mathlib.Core.Path.{sym, ◌∙◌}
use native.Mathlib.Omega.{arith}
use Rattle.call_lengths.specs.Lent.{work_of}
use Rattle.call_prepare.proofs.Marking.{emptied_is, wide, rooms, asks_marking, base_room, part_length, asks_passage, leaves_zeros, leaves_marks}
use Rattle.call_prepare.proofs.prepare_checked.Goals as goal

pub centres-c-requires : goal.centres-c-requires
centres-c-requires c = wide _ _ _ c.requires

pub clear-requires : goal.clear-requires
clear-requires c = let r = rooms _ _ _ c.requires in omega (arith, r.0, c.centres-c.ensures.0)

pub clear-requires-2 : goal.clear-requires-2
clear-requires-2 c = let r = rooms _ _ _ c.requires in omega (arith, r.1, c.centres-c.ensures.0)

pub clear-requires-3 : goal.clear-requires-3
clear-requires-3 c = let r = rooms _ _ _ c.requires in omega (arith, r.2, c.centres-c.ensures.0)

pub clear-requires-4 : goal.clear-requires-4
clear-requires-4 c = let r = rooms _ _ _ c.requires in omega (arith, r.3, c.centres-c.ensures.0)

pub mark_baseline-requires : goal.mark_baseline-requires
mark_baseline-requires c = asks_marking _ _ _ c.requires

pub slice_bounds-check_passage-end : goal.slice_bounds-check_passage-end
slice_bounds-check_passage-end c = base_room _ _ _ c.requires _ c.centres-c.ensures.0 _ c.mark_baseline.ensures.baseline_after

pub slice_bounds-check_passage-end-2 : goal.slice_bounds-check_passage-end-2
slice_bounds-check_passage-end-2 c = sym (part_length _ _ _ c.requires _ c.centres-c.ensures.0 _ c.mark_baseline.ensures.baseline_after)

pub check_passage-answer-requires : goal.check_passage-answer-requires
check_passage-answer-requires c =
    asks_passage _ _ _ c.requires _ c.centres-c.ensures.0 _ c.mark_baseline.ensures.baseline_after _ (emptied_is _ _ _ c.centres-c.ensures.0 c.mark_baseline.ensures.counts_after
    c.clear.ensures c.clear-2.ensures c.clear-3.ensures c.clear-4.ensures)

pub clear-requires-then-is_err : goal.clear-requires-then-is_err
clear-requires-then-is_err c = base_room _ _ _ c.requires _ c.centres-c.ensures.0 _ c.mark_baseline.ensures.baseline_after

pub returns-then-is_err-clause-call : goal.returns-then-is_err-clause-call
returns-then-is_err-clause-call c =
    leaves_zeros _ _ _ c.requires _ c.centres-c.ensures.0 _ c.mark_baseline.ensures.baseline_after
    (work_of c.check_passage-answer.new.work) (c.check_passage-answer.ensures.work_unchanged ∙ (emptied_is _ _ _ c.centres-c.ensures.0 c.mark_baseline.ensures.counts_after
    c.clear.ensures c.clear-2.ensures c.clear-3.ensures c.clear-4.ensures))
    _ _ c.check_passage-answer.ensures.result_value (sym c.is_err.ensures.value ∙ c.if-is_err.true) _ c.clear-then-is_err.ensures

pub returns-else-is_err-clause-call : goal.returns-else-is_err-clause-call
returns-else-is_err-clause-call c =
    leaves_marks _ _ _ c.requires _ c.centres-c.ensures.0 _ c.mark_baseline.ensures.baseline_after
    (work_of c.check_passage-answer.new.work) (c.check_passage-answer.ensures.work_unchanged ∙ (emptied_is _ _ _ c.centres-c.ensures.0 c.mark_baseline.ensures.counts_after
    c.clear.ensures c.clear-2.ensures c.clear-3.ensures c.clear-4.ensures))
    _ _ c.check_passage-answer.ensures.result_value (sym c.is_err.ensures.value ∙ c.if-is_err.false)
