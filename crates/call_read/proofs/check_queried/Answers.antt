-- `call_read::check_queried` meets its contract: three lists of checks, one after another.
use mathlib.Core.Path.{sym, ◌∙◌}
use mathlib.Core.List.{◌++◌}
use Rattle.std.proofs.lemmas.Result.{err_from_is_err_and}
use Rattle.base_model.specs.Answers.{reply_of}
use Rattle.rule_calls.specs.Checks.{group_checks, limit_checks}
use Rattle.call_checks.specs.Parts.{frame_checks}
use Rattle.call_checks.proofs.Asked.{first_then, first_stops}
use Rattle.call_checks.proofs.Passed.{done_passes, refused_says}
use Rattle.call_read.specs.Parts.{queried}
use Rattle.call_read.proofs.check_queried.Goals as goal

pub returns-in_err-check_groups : goal.returns-in_err-check_groups
unfolding reply_of queried
returns-in_err-check_groups c = λ i e f.
    let l = c.args.limits in
    let p = err_from_is_err_and c.from_residual.result c.from_residual.ensures.1 in
    rw (p.1, p.2) (sym (first_stops (group_checks i ++ limit_checks l) (frame_checks i) _
    (first_stops (group_checks i) (limit_checks l) _ (refused_says (c.check_groups.ensures i f) c.in_err-check_groups.was))))

pub returns-in_err-check_limits : goal.returns-in_err-check_limits
unfolding reply_of queried
returns-in_err-check_limits c = λ i e f.
    let l = c.args.limits in
    let p = err_from_is_err_and c.from_residual-in_err-check_limits.result c.from_residual-in_err-check_limits.ensures.1 in
    rw (p.1, p.2) (sym (first_stops (group_checks i ++ limit_checks l) (frame_checks i) _
    (first_then (group_checks i) (limit_checks l) (done_passes (c.check_groups.ensures i f) c.in_ok-check_groups.was)
    ∙ refused_says c.check_limits.ensures c.in_err-check_limits.was)))

pub returns : goal.returns
unfolding queried
returns c = λ i e f.
    let l = c.args.limits in
    c.check_query.ensures i e
    ∙ sym (first_then (group_checks i ++ limit_checks l) (frame_checks i)
    (first_then (group_checks i) (limit_checks l) (done_passes (c.check_groups.ensures i f) c.in_ok-check_groups.was)
    ∙ done_passes c.check_limits.ensures c.in_ok-check_limits.was))
