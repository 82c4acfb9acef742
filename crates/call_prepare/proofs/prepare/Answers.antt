-- `call_prepare::prepare` meets its contract: refusal 19 and a refusal among 1 to 6 leave all as it was, and what follows is `prepare_checked`.
use mathlib.Core.Path.{◌≡◌, refl, ◌∙◌}
use mathlib.Core.Bool.{true, false}
use mathlib.Core.Option.{some}
use Rattle.std.proofs.Common.{arith}
use Rattle.std.proofs.lemmas.Grind.{common_steps}
use Rattle.std.proofs.lemmas.Result.{err_from_is_err_and}
use Rattle.base_model.specs.Answers.{refusal, said_of, reply_of}
use Rattle.rule_routes.specs.Edges.{steps_of, table_fits}
use Rattle.rule_calls.proofs.Tables.{prepare_over_lem, prepare_turned}
use Rattle.call_lengths.specs.Lent.{work_of}
use Rattle.call_checks.proofs.Passed.{done_passes, refused_says}
use Rattle.call_prepare.specs.Prepare.{preparation_in}
use Rattle.call_prepare.proofs.Apart.{prepare_refused}
use Rattle.call_prepare.proofs.prepare.Goals as goal

pub returns-in_err-ask-clause-call : goal.returns-in_err-ask-clause-call
unfolding reply_of said_of
returns-in_err-ask-clause-call c =
    let t : table_fits c.args.steps.now ≡ false = grind (arith, common_steps, c.table_fits.ensures, c.ask.ensures, c.in_err-ask.was) in
    let says : reply_of c.from_residual.result ≡ some (refusal 19) = grind (arith, common_steps, c.from_residual.ensures, c.ask.ensures, c.in_err-ask.was) in
    prepare_turned _ t _ _ _ ∙ rw says refl

pub returns-in_err-prepare_checks-clause-call : goal.returns-in_err-prepare_checks-clause-call
unfolding reply_of
returns-in_err-prepare_checks-clause-call c =
    let t : table_fits c.args.steps.now ≡ true = grind (arith, common_steps, c.table_fits.ensures, c.ask.ensures, c.in_ok-ask.was) in
    let p = err_from_is_err_and c.from_residual-in_err-prepare_checks.result c.from_residual-in_err-prepare_checks.ensures.1 in
    prepare_over_lem _ t _ _ _ ∙ rw (p.1, p.2) (prepare_refused (steps_of c.args.steps.now) (preparation_in c.args.asked.now) c.args.baseline.now (work_of c.args.work.now)
    (refused_says (c.prepare_checks.ensures c.args.baseline.now (work_of c.args.work.now) refl c.lengths.ensures) c.in_err-prepare_checks.was))

pub prepare_checked-requires : goal.prepare_checked-requires
prepare_checked-requires c = done_passes (c.prepare_checks.ensures c.args.baseline.now (work_of c.args.work.now) refl c.lengths.ensures) c.in_ok-prepare_checks.was

pub returns-clause-call : goal.returns-clause-call
returns-clause-call c =
    let t : table_fits c.args.steps.now ≡ true = grind (arith, common_steps, c.table_fits.ensures, c.ask.ensures, c.in_ok-ask.was) in
    prepare_over_lem _ t _ _ _ ∙ c.prepare_checked.ensures.call
