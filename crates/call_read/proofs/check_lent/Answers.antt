-- `call_read::check_lent` meets its contract: the areas' checks, with the store's lengths, then those of the placements.
use mathlib.Core.Path.{◌≡◌, refl, sym, ◌∙◌, ap}
use mathlib.Core.Bool.{Bool}
use Rattle.std.proofs.lemmas.Result.{err_from_is_err_and}
use Rattle.base_model.specs.Answers.{first, reply_of}
use Rattle.rule_layouts.specs.Flat.{inputs_of}
use Rattle.rule_calls.specs.Areas.{store_fits}
use Rattle.rule_calls.specs.Checks.{place_checks}
use Rattle.set_places.specs.Given.{inputs_in}
use Rattle.call_checks.specs.Parts.{area_checks}
use Rattle.call_checks.proofs.Asked.{first_then, first_stops}
use Rattle.call_checks.proofs.Passed.{done_passes, refused_says}
use Rattle.call_read.specs.Parts.{lent}
use Rattle.call_read.proofs.check_lent.Goals as goal

pub returns-in_err-check_areas : goal.returns-in_err-check_areas
unfolding reply_of lent inputs_of
returns-in_err-check_areas c = λ s h.
    let lent = c.args.given.now.places in
    let many = c.place_count-count.ensures lent.numbers.now lent.edges.now refl refl in
    let i = inputs_in c.args.given.now in
    let long : c.store_fits-long.result ≡ store_fits i c.args.limits s = c.store_fits-long.ensures i s refl (sym many) h in
    let q = c.check_areas.ensures i refl refl refl ∙ ap (λ (b : Bool). first (area_checks i b)) long in
    let p = err_from_is_err_and c.from_residual.result c.from_residual.ensures.1 in
    rw (p.1, p.2) (sym (first_stops (area_checks i (store_fits i c.args.limits s)) (place_checks i) _ (refused_says q c.in_err-check_areas.was)))

pub returns : goal.returns
unfolding lent inputs_of
returns c = λ s h.
    let lent = c.args.given.now.places in
    let many = c.place_count-count.ensures lent.numbers.now lent.edges.now refl refl in
    let i = inputs_in c.args.given.now in
    let long : c.store_fits-long.result ≡ store_fits i c.args.limits s = c.store_fits-long.ensures i s refl (sym many) h in
    let q = c.check_areas.ensures i refl refl refl ∙ ap (λ (b : Bool). first (area_checks i b)) long in
    c.check_places.ensures i refl refl refl
    ∙ sym (first_then (area_checks i (store_fits i c.args.limits s)) (place_checks i) (done_passes q c.in_ok-check_areas.was))
