-- `call_checks::check_query` meets its contract.
use Rattle.std.proofs.Common.{arith}
use Rattle.std.proofs.lemmas.Grind.{common_steps}
use Rattle.base_model.specs.Answers.{reply_of, said_of, ask, first}
use Rattle.call_checks.specs.Parts.{frame_checks, frames_of}
use Rattle.call_checks.proofs.check_query.Goals as goal

pub returns-in_err-ask : goal.returns-in_err-ask
unfolding frame_checks frames_of reply_of said_of ask first
returns-in_err-ask c = λ i e. grind (arith, common_steps, c.from_residual.ensures, c.in_err-ask.was, c.ask.ensures, e)

pub returns-in_err-ask-2 : goal.returns-in_err-ask-2
unfolding frame_checks frames_of reply_of said_of ask first
returns-in_err-ask-2 c = λ i e. grind (arith, common_steps, c.from_residual-in_err-ask-2.ensures, c.in_err-ask-2.was, c.in_ok-ask.was, c.ask.ensures, c.ask-2.ensures, e)

pub returns : goal.returns
unfolding frame_checks frames_of reply_of said_of ask first
returns c = λ i e. grind (arith, common_steps, c.in_ok-ask.was, c.in_ok-ask-2.was, c.ask.ensures, c.ask-2.ensures, c.ask-3.ensures, e)
