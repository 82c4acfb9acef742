-- `call_judge::judge` meets its contract: the table or the checks refuse and leave all as it was, or the rest of the call answers.
use mathlib.Core.Path.{◌≡◌, refl, ◌∙◌}
use mathlib.Core.Bool.{true, false}
use Rattle.std.proofs.Common.{Err, arith}
use Rattle.std.proofs.lemmas.Grind.{common_steps}
use Rattle.std.proofs.lemmas.Result.{err_from_is_err_and}
use Rattle.base_model.specs.Answers.{said_of}
use Rattle.base_model.specs.declared.Refusal.TheVariants.{StepsInvalid}
use Rattle.rule_routes.specs.Edges.{steps_of, table_fits}
use Rattle.rule_calls.specs.Calls.{judgement_of}
use Rattle.rule_calls.proofs.Tables.{table_once, judge_over_lem, judge_turned}
use Rattle.set_places.specs.Given.{inputs_in}
use Rattle.call_lengths.specs.Lent.{work_of}
use Rattle.call_checks.proofs.Passed.{done_passes, refused_says}
use Rattle.call_judge.proofs.Judgement.{judge_refused}
use Rattle.call_judge.proofs.judge.Goals as goal

pub returns-in_err-ask-clause-call : goal.returns-in_err-ask-clause-call
unfolding judgement_of said_of
returns-in_err-ask-clause-call c =
    let t : table_fits c.args.steps.now ≡ false = grind (arith, common_steps, c.table_fits.ensures, c.ask.ensures, c.in_err-ask.was) in
    let says : c.from_residual.result ≡ Err StepsInvalid = grind (arith, common_steps, c.from_residual.ensures, c.ask.ensures, c.in_err-ask.was) in
    judge_turned c.args.steps.now t _ _ _ ∙ rw says refl

pub returns-in_err-judge_checks-clause-call : goal.returns-in_err-judge_checks-clause-call
unfolding judgement_of
returns-in_err-judge_checks-clause-call c =
    let i = inputs_in c.args.given.now in
    let w = work_of c.args.work.now in
    let t : table_fits c.args.steps.now ≡ true = grind (arith, common_steps, c.table_fits.ensures, c.ask.ensures, c.in_ok-ask.was) in
    let p = err_from_is_err_and c.from_residual-in_err-judge_checks.result c.from_residual-in_err-judge_checks.ensures.1 in
    judge_over_lem c.args.steps.now t i c.args.selection.now w ∙ rw (p.1, p.2) (judge_refused (steps_of c.args.steps.now) i c.args.selection.now w
    (refused_says (c.judge_checks.ensures w c.lengths.ensures) c.in_err-judge_checks.was))

pub judge_checked-requires : goal.judge_checked-requires
judge_checked-requires c =
    let t : table_fits c.args.steps.now ≡ true = grind (arith, common_steps, c.table_fits.ensures, c.ask.ensures, c.in_ok-ask.was) in record {
      route_value = done_passes (c.judge_checks.ensures (work_of c.args.work.now) c.lengths.ensures) c.in_ok-judge_checks.was;
      steps_value = table_once _ t;
    }

pub returns-clause-call : goal.returns-clause-call
unfolding judgement_of
returns-clause-call c =
    let t : table_fits c.args.steps.now ≡ true = grind (arith, common_steps, c.table_fits.ensures, c.ask.ensures, c.in_ok-ask.was) in
    judge_over_lem _ t _ _ _ ∙ c.judge_checked.ensures.call
