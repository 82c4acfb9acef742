-- `call_movers::check_allowed` meets its contract, by whether there is an allowed mover.
use Rattle.std.proofs.Common.{arith}
use Rattle.std.proofs.lemmas.Grind.{common_steps}
use Rattle.base_model.specs.Answers.{reply_of}
use Rattle.call_checks.specs.Parts.{allow_long}
use Rattle.call_movers.specs.Movers.{allow_passage}
use Rattle.call_movers.proofs.Moving.{ready}
use Rattle.call_movers.proofs.check_allowed.Goals as goal

pub returns-then-is_none-clause-result_value : goal.returns-then-is_none-clause-result_value
unfolding allow_passage reply_of
returns-then-is_none-clause-result_value c = grind (arith, common_steps)

pub check_passage-requires : goal.check_passage-requires
unfolding allow_long
check_passage-requires c = ready c.requires.0 (grind (arith, common_steps, c.requires.1))

pub returns-clause-result_value : goal.returns-clause-result_value
unfolding allow_passage
returns-clause-result_value c = grind (arith, common_steps, c.check_passage.ensures.result_value)
