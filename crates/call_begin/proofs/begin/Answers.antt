-- `call_begin::begin` meets its contract: the table or the first checks refuse, or the rest of the call answers.
use mathlib.Core.Path.{◌≡◌, refl, sym, ◌∙◌}
use mathlib.Core.Bool.{true, false}
use Rattle.std.proofs.Common.{Err, arith}
use Rattle.std.proofs.lemmas.Grind.{common_steps}
use Rattle.std.proofs.lemmas.Result.{err_from_is_err_and}
use Rattle.base_model.specs.Answers.{reply_of, said_of}
use Rattle.base_model.specs.declared.Refusal.TheVariants.{StepsInvalid}
use Rattle.rule_routes.specs.Edges.{steps_of, table_fits}
use Rattle.rule_layouts.specs.Flat.{inputs_of}
use Rattle.rule_calls.specs.Calls.{record_or}
use Rattle.rule_calls.proofs.Tables.{begin_over_lem, begin_turned}
use Rattle.set_places.specs.Given.{inputs_in}
use Rattle.call_lengths.specs.Lent.{work_of, store_of_areas}
use Rattle.call_checks.proofs.Passed.{done_passes, refused_says}
use Rattle.call_begin.proofs.Beginning.{first_refused}
use Rattle.call_begin.proofs.begin.Goals as goal

pub returns-in_err-ask-clause-call : goal.returns-in_err-ask-clause-call
unfolding reply_of said_of record_or
returns-in_err-ask-clause-call c =
    let t : table_fits c.args.steps.now ≡ false = grind (arith, common_steps, c.table_fits.ensures, c.ask.ensures, c.in_err-ask.was) in
    let says : c.from_residual.result ≡ Err StepsInvalid = grind (arith, common_steps, c.from_residual.ensures, c.ask.ensures, c.in_err-ask.was) in
    begin_turned c.args.steps.now t _ _ _ _ ∙ rw says refl

pub returns-in_err-begin_checks-clause-call : goal.returns-in_err-begin_checks-clause-call
unfolding reply_of record_or inputs_of
returns-in_err-begin_checks-clause-call c =
    let lent = c.args.given.now.places in
    let many = c.place_count-places.ensures lent.numbers.now lent.edges.now refl refl in
    let i = inputs_in c.args.given.now in
    let w = work_of c.args.work.now in
    let s = store_of_areas c.args.store.now in
    let t : table_fits c.args.steps.now ≡ true = grind (arith, common_steps, c.table_fits.ensures, c.ask.ensures, c.in_ok-ask.was) in
    let p = err_from_is_err_and c.from_residual-in_err-begin_checks.result c.from_residual-in_err-begin_checks.ensures.1 in
    begin_over_lem c.args.steps.now t i c.args.limits w s ∙ rw (p.1, p.2) (first_refused (steps_of c.args.steps.now) i c.args.limits w s
    (refused_says (c.begin_checks.ensures i w s refl refl (sym many) refl refl c.lengths.ensures c.lengths-2.ensures) c.in_err-begin_checks.was))

pub begin_checked-requires : goal.begin_checked-requires
unfolding inputs_of
begin_checked-requires c =
    let lent = c.args.given.now.places in
    let many = c.place_count-places.ensures lent.numbers.now lent.edges.now refl refl in
    let i = inputs_in c.args.given.now in
    let w = work_of c.args.work.now in
    let s = store_of_areas c.args.store.now in
    done_passes (c.begin_checks.ensures i w s refl refl (sym many) refl refl c.lengths.ensures c.lengths-2.ensures) c.in_ok-begin_checks.was

pub returns-clause-call : goal.returns-clause-call
returns-clause-call c =
    let t : table_fits c.args.steps.now ≡ true = grind (arith, common_steps, c.table_fits.ensures, c.ask.ensures, c.in_ok-ask.was) in
    begin_over_lem _ t _ _ _ _ ∙ c.begin_checked.ensures.call
