-- `call_checks::begin_checks` meets its contract: the first part that refuses answers.
use mathlib.Core.Path.{◌≡◌, refl, sym, ap, ◌∙◌}
use mathlib.Core.Bool.{Bool, ◌&&◌}
use Rattle.std.proofs.lemmas.Result.{err_from_is_err_and}
use Rattle.base_model.specs.Answers.{reply_of, first}
use Rattle.rule_layouts.specs.Flat.{inputs_of}
use Rattle.rule_calls.specs.Areas.{work_fits, store_fits}
use Rattle.set_places.specs.Given.{inputs_in}
use Rattle.call_checks.specs.Parts.{area_checks}
use Rattle.call_checks.proofs.Passed.{done_passes, refused_says, limits_found, frames_found, groups_stop, limits_stop, frames_stop, areas_last}
use Rattle.call_checks.proofs.begin_checks.Goals as goal

pub returns-in_err-check_groups : goal.returns-in_err-check_groups
unfolding reply_of inputs_of
returns-in_err-check_groups c = λ i w s e f p b a h k.
    let r = err_from_is_err_and c.from_residual.result c.from_residual.ensures.1 in
    rw (r.1, r.2) (sym (groups_stop i c.args.limits w s (refused_says (c.check_groups.ensures i f) c.in_err-check_groups.was)))

pub returns-in_err-check_limits : goal.returns-in_err-check_limits
unfolding reply_of inputs_of
returns-in_err-check_limits c = λ i w s e f p b a h k.
    let r = err_from_is_err_and c.from_residual-in_err-check_limits.result c.from_residual-in_err-check_limits.ensures.1 in
    rw (r.1, r.2) (sym (limits_stop i c.args.limits w s (done_passes (c.check_groups.ensures i f) c.in_ok-check_groups.was)
    (refused_says c.check_limits.ensures c.in_err-check_limits.was)))

pub returns-in_err-check_query : goal.returns-in_err-check_query
unfolding reply_of inputs_of
returns-in_err-check_query c = λ i w s e f p b a h k.
    let r = err_from_is_err_and c.from_residual-in_err-check_query.result c.from_residual-in_err-check_query.ensures.1 in
    rw (r.1, r.2) (sym (frames_stop i c.args.limits w s (done_passes (c.check_groups.ensures i f) c.in_ok-check_groups.was)
    (done_passes c.check_limits.ensures c.in_ok-check_limits.was) (refused_says (c.check_query.ensures i e) c.in_err-check_query.was)))

pub room_for-long-requires : goal.room_for-long-requires
unfolding inputs_of
room_for-long-requires c =
    let l = limits_found c.args.limits (done_passes c.check_limits.ensures c.in_ok-check_limits.was) in
    let f = frames_found (inputs_in c.args.given.now) (done_passes (c.check_query.ensures (inputs_in c.args.given.now) refl) c.in_ok-check_query.was) in
    (f.window, (l.states, l.results))

pub check_areas-requires : goal.check_areas-requires
unfolding inputs_of
check_areas-requires c =
    (frames_found (inputs_in c.args.given.now) (done_passes (c.check_query.ensures (inputs_in c.args.given.now) refl) c.in_ok-check_query.was)).window

pub returns : goal.returns
unfolding inputs_of
returns c = λ i w s e f p b a h k.
    let long : c.room_for-long.result ≡ (work_fits i.query.window w && store_fits i c.args.limits s) = c.room_for-long.ensures i w s e p h k in
    c.check_areas.ensures i e b a ∙ ap (λ (x : Bool). first (area_checks i x)) long
    ∙ sym (areas_last i c.args.limits w s (done_passes (c.check_groups.ensures i f) c.in_ok-check_groups.was)
    (done_passes c.check_limits.ensures c.in_ok-check_limits.was)
    (done_passes (c.check_query.ensures i e) c.in_ok-check_query.was))
