-- `call_checks::check_groups` meets its contract.
use Rattle.std.proofs.Common.{arith}
use Rattle.std.proofs.lemmas.Grind.{common_steps}
use Rattle.base_model.specs.Answers.{reply_of, said_of, ask, first}
use Rattle.rule_calls.specs.Checks.{group_checks}
use Rattle.call_checks.specs.Parts.{groups_fit}
use Rattle.call_checks.proofs.check_groups.Goals as goal

pub returns : goal.returns
unfolding group_checks groups_fit reply_of said_of ask first
returns c = λ i e. grind (arith, common_steps, e, c.ask.ensures)
