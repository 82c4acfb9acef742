-- `call_checks::check_areas` meets its contract.
use Rattle.std.proofs.Common.{arith}
use Rattle.std.proofs.lemmas.Grind.{common_steps}
use Rattle.base_model.specs.Answers.{reply_of, said_of, ask, first}
use Rattle.call_checks.specs.Parts.{area_checks, areas_of}
use Rattle.call_checks.proofs.check_areas.Goals as goal

pub returns : goal.returns
unfolding area_checks areas_of reply_of said_of ask first
returns c = λ i e f g. grind (arith, common_steps, e, f, g, c.ask.ensures)
