-- `walls_c::hitrovzen_closer` meets its contract: the answer of `closer` as 1 or 0.
use Rattle.std.proofs.Common.{arith}
use Rattle.std.proofs.lemmas.Grind.{common_steps}
use Rattle.walls_numbers.specs.Numbers.{one_where}
use Rattle.walls_numbers.specs.Ranked.{closer_on}
use Rattle.walls_c.proofs.hitrovzen_closer.Goals as goal

pub returns : goal.returns
unfolding closer_on one_where
returns c = grind (arith, common_steps, c.from.ensures, c.closer.ensures)
