-- `call_begin::begin_checked` meets its contract: what the checks before it found makes the areas long enough to be cleared; then each return is the arm of `begin_over` that the late checks choose.
use mathlib.Core.Path.{refl, sym, ap, subst, ◌∙◌}
use Prim.Native.Nat.{ℕ}
use native.Mathlib.Omega.{arith}
use Rattle.std.proofs.lemmas.Result.{err_from_is_err_and}
use Rattle.rule_calls.proofs.StepLaws.{first_both}
use Rattle.base_model.specs.Answers.{reply_of}
use Rattle.rule_routes.specs.Edges.{steps_of}
use Rattle.rule_layouts.specs.Flat.{inputs_of}
use Rattle.rule_layouts.specs.Inputs.{board_of}
use Rattle.rule_search.specs.Frames.{begun}
use Rattle.rule_calls.specs.Areas.{record_of}
use Rattle.rule_calls.specs.Checks.{place_checks}
use Rattle.rule_calls.specs.Calls.{both_routes, record_or}
use Rattle.set_places.specs.Given.{inputs_in}
use Rattle.call_lengths.specs.Lent.{work_of, store_of_areas}
use Rattle.call_checks.proofs.Passed.{done_passes, refused_says, begun_found}
use Rattle.call_checks.proofs.Placed.{places_whole}
use Rattle.call_clear.specs.Room.{StoreRoom}
use Rattle.call_clear.proofs.Cleared.{store_room}
use Rattle.call_begin.proofs.Beginning.{later_refused, accepts, movable}
use Rattle.call_begin.proofs.begin_checked.Goals as goal

pub clear_work-requires : goal.clear_work-requires
unfolding inputs_of
clear_work-requires c =
    let i = inputs_in c.args.given.now in
    let w = work_of c.args.work.now in
    let s = store_of_areas c.args.store.now in
    let b = begun_found i c.args.limits w s c.requires in
    (b.framing.window, b.work_long)

pub late_checks-requires : goal.late_checks-requires
unfolding inputs_of
late_checks-requires c =
    let i = inputs_in c.args.given.now in
    let w = work_of c.args.work.now in
    let s = store_of_areas c.args.store.now in
    movable i c.args.limits w s (work_of c.clear_work.new.work) (begun_found i c.args.limits w s c.requires) c.clear_work.ensures.cleared

pub returns-in_err-late_checks-clause-call : goal.returns-in_err-late_checks-clause-call
unfolding reply_of record_or inputs_of
returns-in_err-late_checks-clause-call c =
    let i = inputs_in c.args.given.now in
    let w = work_of c.args.work.now in
    let s = store_of_areas c.args.store.now in
    let p = err_from_is_err_and c.from_residual.result c.from_residual.ensures.1 in
    rw (p.1, p.2) (later_refused (steps_of c.args.steps.now) i c.args.limits w s c.requires (c.late_checks.ensures.work_unchanged ∙ c.clear_work.ensures.cleared)
    (refused_says c.late_checks.ensures.result_value c.in_err-late_checks.was))

pub clear_store-requires : goal.clear_store-requires
unfolding inputs_of
clear_store-requires c =
    let lent = c.args.given.now.places in
    let many = c.place_count-places.ensures lent.numbers.now lent.edges.now refl refl in
    let i = inputs_in c.args.given.now in
    let w = work_of c.args.work.now in
    let s = store_of_areas c.args.store.now in
    let b = begun_found i c.args.limits w s c.requires in
    subst (λ (k : ℕ). StoreRoom c.args.given.now.query c.args.limits k s.lists s.visited s.layouts s.points) (sym many)
    (store_room i c.args.limits s b.store_long b.framing.window b.limiting.states b.limiting.results)

pub overflow_cast-places : goal.overflow_cast-places
unfolding inputs_of
overflow_cast-places c =
    let lent = c.args.given.now.places in
    let many = c.place_count-places.ensures lent.numbers.now lent.edges.now refl refl in
    let p = c.args.given.now.places in
    let i = inputs_in c.args.given.now in
    let f = (first_both (both_routes (board_of (steps_of c.args.steps.now) i)) (place_checks i) (done_passes c.late_checks.ensures.result_value c.in_ok-late_checks.was)).1 in
    omega (arith, many, (places_whole i p.numbers.now p.edges.now refl f).few)

pub returns-clause-call : goal.returns-clause-call
unfolding reply_of record_or inputs_of
returns-clause-call c =
    let lent = c.args.given.now.places in
    let many = c.place_count-places.ensures lent.numbers.now lent.edges.now refl refl in
    let i = inputs_in c.args.given.now in
    let w = work_of c.args.work.now in
    let s = store_of_areas c.args.store.now in
    accepts (steps_of c.args.steps.now) i c.args.limits w s c.requires (c.late_checks.ensures.work_unchanged ∙ c.clear_work.ensures.cleared)
    (done_passes c.late_checks.ensures.result_value c.in_ok-late_checks.was)
    (c.begun_record.ensures ∙ ap (λ (k : ℕ). record_of k begun) many) (c.clear_store.ensures.cleared i refl (sym many))
