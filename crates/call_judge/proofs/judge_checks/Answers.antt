-- `call_judge::judge_checks` meets its contract: the first part that refuses answers.
use mathlib.Core.Path.{refl, sym, ap, ◌∙◌}
use mathlib.Core.Bool.{Bool}
use mathlib.Core.List.{[], ◌∷◌}
use Prim.Native.Nat.{ℕ}
use Rattle.std.proofs.lemmas.Result.{err_from_is_err_and}
use Rattle.base_model.specs.Answers.{ask, first, reply_of}
use Rattle.rule_layouts.specs.Flat.{inputs_of}
use Rattle.rule_calls.specs.Calls.{selection_fits}
use Rattle.set_places.specs.Given.{inputs_in}
use Rattle.call_checks.specs.Parts.{area_checks}
use Rattle.call_checks.proofs.Passed.{done_passes, refused_says, frames_found}
use Rattle.call_judge.proofs.Choosing.{groups_stop, frames_stop, areas_stop, places_stop, selection_last, selection_told}
use Rattle.call_judge.proofs.judge_checks.Goals as goal

pub returns-in_err-check_groups : goal.returns-in_err-check_groups
unfolding reply_of inputs_of
returns-in_err-check_groups c = λ w h.
    let i = inputs_in c.args.given.now in
    let p = err_from_is_err_and c.from_residual.result c.from_residual.ensures.1 in
    rw (p.1, p.2) (sym (groups_stop i c.args.selection.now w (refused_says (c.check_groups.ensures i refl) c.in_err-check_groups.was)))

pub returns-in_err-check_query : goal.returns-in_err-check_query
unfolding reply_of inputs_of
returns-in_err-check_query c = λ w h.
    let i = inputs_in c.args.given.now in
    let p = err_from_is_err_and c.from_residual-in_err-check_query.result c.from_residual-in_err-check_query.ensures.1 in
    rw (p.1, p.2) (sym (frames_stop i c.args.selection.now w (done_passes (c.check_groups.ensures i refl) c.in_ok-check_groups.was)
    (refused_says (c.check_query.ensures i refl) c.in_err-check_query.was)))

pub work_fits-requires : goal.work_fits-requires
unfolding inputs_of
work_fits-requires c =
    (frames_found (inputs_in c.args.given.now) (done_passes (c.check_query.ensures (inputs_in c.args.given.now) refl) c.in_ok-check_query.was)).window

pub check_areas-requires : goal.check_areas-requires
unfolding inputs_of
check_areas-requires c =
    (frames_found (inputs_in c.args.given.now) (done_passes (c.check_query.ensures (inputs_in c.args.given.now) refl) c.in_ok-check_query.was)).window

pub returns-in_err-check_areas : goal.returns-in_err-check_areas
unfolding reply_of inputs_of
returns-in_err-check_areas c = λ w h.
    let i = inputs_in c.args.given.now in
    let p = err_from_is_err_and c.from_residual-in_err-check_areas.result c.from_residual-in_err-check_areas.ensures.1 in
    rw (p.1, p.2) (sym (areas_stop i c.args.selection.now w (done_passes (c.check_groups.ensures i refl) c.in_ok-check_groups.was)
    (done_passes (c.check_query.ensures i refl) c.in_ok-check_query.was)
    (refused_says (c.check_areas.ensures i refl refl refl ∙ ap (λ (x : Bool). first (area_checks i x)) (c.work_fits.ensures w h)) c.in_err-check_areas.was)))

pub returns-in_err-check_places : goal.returns-in_err-check_places
unfolding reply_of inputs_of
returns-in_err-check_places c = λ w h.
    let i = inputs_in c.args.given.now in
    let p = err_from_is_err_and c.from_residual-in_err-check_places.result c.from_residual-in_err-check_places.ensures.1 in
    rw (p.1, p.2) (sym (places_stop i c.args.selection.now w (done_passes (c.check_groups.ensures i refl) c.in_ok-check_groups.was)
    (done_passes (c.check_query.ensures i refl) c.in_ok-check_query.was)
    (done_passes (c.check_areas.ensures i refl refl refl ∙ ap (λ (x : Bool). first (area_checks i x)) (c.work_fits.ensures w h)) c.in_ok-check_areas.was)
    (refused_says (c.check_places.ensures i refl refl refl) c.in_err-check_places.was)))

pub returns : goal.returns
unfolding inputs_of
returns c = λ w h.
    let lent = c.args.given.now.places in
    let many = c.place_count-count.ensures lent.numbers.now lent.edges.now refl refl in
    let i = inputs_in c.args.given.now in
    let s = c.args.selection.now in
    let fits = c.selection_fits.ensures ∙ ap (λ (n : ℕ). selection_fits n s) many in
    ap reply_of c.ask.ensures ∙ selection_told c.selection_fits.result ∙ ap (λ (b : Bool). first (ask 17 b ∷ [])) fits
    ∙ sym (selection_last i s w (done_passes (c.check_groups.ensures i refl) c.in_ok-check_groups.was)
    (done_passes (c.check_query.ensures i refl) c.in_ok-check_query.was)
    (done_passes (c.check_areas.ensures i refl refl refl ∙ ap (λ (x : Bool). first (area_checks i x)) (c.work_fits.ensures w h)) c.in_ok-check_areas.was)
    (done_passes (c.check_places.ensures i refl refl refl) c.in_ok-check_places.was))
