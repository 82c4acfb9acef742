-- `call_read::read_checks` meets its contract: the three parts, one after another, are the reading's checks.
use mathlib.Core.Path.{refl, sym, ◌∙◌, ap}
use mathlib.Core.List.{◌++◌}
use Rattle.std.proofs.lemmas.Result.{err_from_is_err_and}
use Rattle.base_model.specs.Answers.{first, reply_of}
use Rattle.rule_layouts.specs.Flat.{inputs_of}
use Rattle.rule_calls.specs.Areas.{store_fits}
use Rattle.set_places.specs.Given.{inputs_in}
use Rattle.call_lengths.specs.Lent.{kept_in}
use Rattle.call_checks.proofs.Asked.{first_then, first_stops}
use Rattle.call_checks.proofs.Passed.{done_passes, refused_says}
use Rattle.call_read.specs.Parts.{queried, lent, recorded}
use Rattle.call_read.proofs.Parts.{read_parts, limited, windowed, lent_found}
use Rattle.call_read.proofs.read_checks.Goals as goal

pub returns-in_err-check_queried : goal.returns-in_err-check_queried
unfolding reply_of inputs_of
returns-in_err-check_queried c =
    let a = c.args in
    let i = inputs_in a.given.now in
    let s = kept_in a.kept.now in
    let p = err_from_is_err_and c.from_residual.result c.from_residual.ensures.1 in
    rw (p.1, p.2) (sym (ap first (read_parts i a.limits a.rec a.k s)
    ∙ first_stops (queried i a.limits) (lent i (store_fits i a.limits s) ++ recorded i a.limits a.rec a.k s) _
    (refused_says (c.check_queried.ensures i refl refl) c.in_err-check_queried.was)))

pub check_lent-requires : goal.check_lent-requires
unfolding inputs_of
check_lent-requires c =
    let i = inputs_in c.args.given.now in
    let e = done_passes (c.check_queried.ensures i refl refl) c.in_ok-check_queried.was in
    (windowed i c.args.limits e, limited i c.args.limits e)

pub returns-in_err-check_lent : goal.returns-in_err-check_lent
unfolding reply_of inputs_of
returns-in_err-check_lent c =
    let a = c.args in
    let i = inputs_in a.given.now in
    let s = kept_in a.kept.now in
    let e = done_passes (c.check_queried.ensures i refl refl) c.in_ok-check_queried.was in
    let p = err_from_is_err_and c.from_residual-in_err-check_lent.result c.from_residual-in_err-check_lent.ensures.1 in
    rw (p.1, p.2) (sym (ap first (read_parts i a.limits a.rec a.k s)
    ∙ first_then (queried i a.limits) (lent i (store_fits i a.limits s) ++ recorded i a.limits a.rec a.k s) e
    ∙ first_stops (lent i (store_fits i a.limits s)) (recorded i a.limits a.rec a.k s) _
    (refused_says (c.check_lent.ensures s c.lengths.ensures) c.in_err-check_lent.was)))

pub check_recorded-requires : goal.check_recorded-requires
unfolding inputs_of
check_recorded-requires c =
    let g = c.args.given.now in
    let k = c.args.kept.now in
    let i = inputs_in g in
    let e = done_passes (c.check_queried.ensures i refl refl) c.in_ok-check_queried.was in
    let f = done_passes (c.check_lent.ensures (kept_in k) c.lengths.ensures) c.in_ok-check_lent.was in
    lent_found g.query c.args.limits g.places.groups.now g.places.numbers.now g.places.edges.now g.block_base.now g.allow_base.now k.lists.now k.visited.now
    k.layouts.now k.points.now e f

pub returns : goal.returns
unfolding inputs_of
returns c =
    let a = c.args in
    let i = inputs_in a.given.now in
    let s = kept_in a.kept.now in
    let e = done_passes (c.check_queried.ensures i refl refl) c.in_ok-check_queried.was in
    let f = done_passes (c.check_lent.ensures s c.lengths.ensures) c.in_ok-check_lent.was in
    c.check_recorded.ensures
    ∙ sym (ap first (read_parts i a.limits a.rec a.k s)
    ∙ first_then (queried i a.limits) (lent i (store_fits i a.limits s) ++ recorded i a.limits a.rec a.k s) e
    ∙ first_then (lent i (store_fits i a.limits s)) (recorded i a.limits a.rec a.k s) f)
