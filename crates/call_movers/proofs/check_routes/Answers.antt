-- `call_movers::check_routes` meets its contract: the blocked mover's refusal answers, or the allowed mover's checks do.
use mathlib.Core.Path.{sym, ◌∙◌}
use Rattle.std.proofs.lemmas.Result.{err_from_is_err_and}
use Rattle.base_model.specs.Answers.{reply_of, said_of}
use Rattle.rule_routes.specs.Edges.{steps_of}
use Rattle.call_checks.proofs.Passed.{done_passes, refused_says}
use Rattle.call_movers.proofs.Moving.{block_refused, block_passes}
use Rattle.call_movers.proofs.check_routes.Goals as goal

pub returns-in_err-check_passage-clause-result_value : goal.returns-in_err-check_passage-clause-result_value
unfolding reply_of
returns-in_err-check_passage-clause-result_value c = λ i k.
    let g = c.args.given.now in
    let p = err_from_is_err_and c.from_residual.result c.from_residual.ensures.1 in
    rw (p.1, p.2) (sym (block_refused (steps_of c.args.steps.now) i g.query g.block_base.now g.allow_base.now k (said_of c.in_err-check_passage.field-0.0)
    (refused_says c.check_passage.ensures.result_value c.in_err-check_passage.was)))

pub returns-clause-result_value : goal.returns-clause-result_value
returns-clause-result_value c = λ i k.
    let g = c.args.given.now in
    c.check_allowed.ensures.result_value ∙ sym (block_passes (steps_of c.args.steps.now) i g.query g.block_base.now g.allow_base.now k
    (done_passes c.check_passage.ensures.result_value c.in_ok-check_passage.was))
