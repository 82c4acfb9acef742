-- `call_step::step_checks` meets its contract: the first part that refuses answers.
use mathlib.Core.Path.{refl, sym, ◌∙◌}
use Rattle.std.proofs.Common.{arith}
use Rattle.std.proofs.lemmas.Grind.{common_steps}
use Rattle.std.proofs.lemmas.Result.{err_from_is_err_and}
use Rattle.base_model.specs.Answers.{ask, first, reply_of, said_of}
use Rattle.rule_layouts.specs.Flat.{inputs_of}
use Rattle.set_places.specs.Given.{inputs_in}
use Rattle.call_lengths.specs.Lent.{kept_in}
use Rattle.call_checks.proofs.Passed.{done_passes, refused_says}
use Rattle.call_step.proofs.Answered.{some_work_lem, begin_stops, places_stop, last, record_asks}
use Rattle.call_step.proofs.step_checks.Goals as goal

pub returns-in_err-begin_checks : goal.returns-in_err-begin_checks
unfolding reply_of inputs_of
returns-in_err-begin_checks c = λ w h.
    let lent = c.args.given.now.places in
    let many = c.place_count-places.ensures lent.numbers.now lent.edges.now refl refl in
    let a = c.args in
    let p = err_from_is_err_and c.from_residual.result c.from_residual.ensures.1 in
    rw (p.1, p.2) (sym (begin_stops (inputs_in a.given.now) a.limits a.rec w (kept_in a.kept.now)
    (refused_says (c.begin_checks.ensures (inputs_in a.given.now) w (kept_in a.kept.now) refl refl (sym many) refl refl h c.lengths.ensures) c.in_err-begin_checks.was)))

pub returns-in_err-check_places : goal.returns-in_err-check_places
unfolding reply_of inputs_of
returns-in_err-check_places c = λ w h.
    let lent = c.args.given.now.places in
    let many = c.place_count-places.ensures lent.numbers.now lent.edges.now refl refl in
    let a = c.args in
    let i = inputs_in a.given.now in
    let p = err_from_is_err_and c.from_residual-in_err-check_places.result c.from_residual-in_err-check_places.ensures.1 in
    rw (p.1, p.2) (sym (places_stop i a.limits a.rec w (kept_in a.kept.now)
    (done_passes (c.begin_checks.ensures (inputs_in a.given.now) w (kept_in a.kept.now) refl refl (sym many) refl refl h c.lengths.ensures) c.in_ok-begin_checks.was)
    (refused_says (c.check_places.ensures i refl refl refl) c.in_err-check_places.was)))

pub record_fits-requires : goal.record_fits-requires
unfolding inputs_of
record_fits-requires c =
    let lent = c.args.given.now.places in
    let many = c.place_count-places.ensures lent.numbers.now lent.edges.now refl refl in
    let g = c.args.given.now in
    let k = c.args.kept.now in
    record_asks g.query c.args.limits g.places.groups.now g.places.numbers.now g.places.edges.now g.block_base.now g.allow_base.now _
    k.lists.now k.visited.now k.layouts.now k.points.now
    (done_passes (c.begin_checks.ensures (inputs_in g) _ (kept_in k) refl refl (sym many) refl refl (some_work_lem c.args.work) c.lengths.ensures) c.in_ok-begin_checks.was)
    (done_passes (c.check_places.ensures (inputs_in g) refl refl refl) c.in_ok-check_places.was)

pub returns : goal.returns
unfolding reply_of said_of ask first inputs_of
returns c = λ w h.
    let lent = c.args.given.now.places in
    let many = c.place_count-places.ensures lent.numbers.now lent.edges.now refl refl in
    let a = c.args in
    let i = inputs_in a.given.now in
    let l = last i a.limits a.rec w (kept_in a.kept.now)
    (done_passes (c.begin_checks.ensures (inputs_in a.given.now) w (kept_in a.kept.now) refl refl (sym many) refl refl h c.lengths.ensures) c.in_ok-begin_checks.was)
    (done_passes (c.check_places.ensures i refl refl refl) c.in_ok-check_places.was) in
    let fits = c.record_fits.ensures a.given.now.block_base.now a.given.now.allow_base.now a.kept.now.points.now in
    rw l (grind (arith, common_steps, c.ask.ensures, fits))
