-- `call_step::step` meets its contract: a refusal writes nothing, and a step whose checks have passed is the definition's.
use mathlib.Core.Path.{◌≡◌, refl, sym, ap, ◌∙◌}
use mathlib.Core.Bool.{true, false}
use Rattle.std.proofs.Common.{Err, arith}
use Rattle.std.proofs.lemmas.Grind.{common_steps}
use Rattle.base_model.specs.Answers.{first, reply_of, said_of}
use Rattle.base_model.specs.declared.Refusal.TheVariants.{StepsInvalid}
use Rattle.rule_routes.specs.Edges.{table_fits}
use Rattle.rule_calls.specs.Areas.{Store}
use Rattle.rule_calls.specs.Calls.{record_or, step_checks}
use Rattle.rule_calls.proofs.Tables.{table_once, step_over_lem, step_turned}
use Rattle.set_places.specs.Given.{inputs_in}
use Rattle.call_lengths.specs.Lent.{work_of, store_of_areas}
use Rattle.call_step.proofs.Answered.{refused}
use Rattle.call_step.proofs.step.Goals as goal

pub returns-in_err-ask-clause-call : goal.returns-in_err-ask-clause-call
unfolding reply_of said_of record_or
returns-in_err-ask-clause-call c =
    let t : table_fits c.args.steps.now ≡ false = grind (arith, common_steps, c.table_fits.ensures, c.ask.ensures, c.in_err-ask.was) in
    let says : c.from_residual.result ≡ Err StepsInvalid = grind (arith, common_steps, c.from_residual.ensures, c.ask.ensures, c.in_err-ask.was) in
    step_turned c.args.steps.now t _ _ _ _ _ _ ∙ rw says refl

pub returns-in-Err-clause-call : goal.returns-in-Err-clause-call
unfolding reply_of record_or
returns-in-Err-clause-call c =
    let a = c.args in
    let t : table_fits a.steps.now ≡ true = grind (arith, common_steps, c.table_fits.ensures, c.ask.ensures, c.in_ok-ask.was) in
    let q = c.in-Err.ensures (work_of a.work.now) c.lengths.ensures
    ∙ ap (λ (s : Store). first (step_checks (inputs_in a.given.now) a.limits a.rec (work_of a.work.now) s)) c.kept.ensures in
    refused a.steps.now (inputs_in a.given.now) a.limits a.rec a.n (work_of a.work.now) (store_of_areas a.store.now) _ t (sym q)

pub step_checked-requires : goal.step_checked-requires
unfolding reply_of
step_checked-requires c =
    let a = c.args in
    let q = c.in_default.ensures (work_of a.work.now) c.lengths.ensures
    ∙ ap (λ (s : Store). first (step_checks (inputs_in a.given.now) a.limits a.rec (work_of a.work.now) s)) c.kept.ensures in
    let t : table_fits c.args.steps.now ≡ true = grind (arith, common_steps, c.table_fits.ensures, c.ask.ensures, c.in_ok-ask.was) in record {
      points_value = sym q;
      steps_value = table_once _ t;
    }

pub returns-clause-call : goal.returns-clause-call
unfolding reply_of record_or
returns-clause-call c =
    let t : table_fits c.args.steps.now ≡ true = grind (arith, common_steps, c.table_fits.ensures, c.ask.ensures, c.in_ok-ask.was) in
    step_over_lem _ t _ _ _ _ _ _ ∙ c.step_checked.ensures.call
