-- `call_checks::check_limits` meets its contract.
use Rattle.std.proofs.Common.{arith}
use Rattle.std.proofs.lemmas.Grind.{common_steps}
use Rattle.base_model.specs.Answers.{reply_of, said_of, ask, first}
use Rattle.rule_calls.specs.Checks.{limit_checks}
use Rattle.call_checks.proofs.check_limits.Goals as goal

pub returns-in_err-ask : goal.returns-in_err-ask
unfolding limit_checks reply_of said_of ask first
returns-in_err-ask c = grind (arith, common_steps, c.from_residual.ensures, c.in_err-ask.was, c.ask.ensures)

pub returns : goal.returns
unfolding limit_checks reply_of said_of ask first
returns c = grind (arith, common_steps, c.in_ok-ask.was, c.ask.ensures, c.ask-2.ensures)
