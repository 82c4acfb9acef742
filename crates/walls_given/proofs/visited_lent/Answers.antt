-- `walls_given::visited_lent` meets its contract, in both cases.
use mathlib.Core.Path.{sym}
use native.Mathlib.Omega.{arith}
use Rattle.walls_numbers.proofs.Fifty.{lent_short, lent_whole}
use Rattle.walls_given.proofs.visited_lent.Goals as goal

pub returns-then-rec-lt-RECORD_NUMBERS : goal.returns-then-rec-lt-RECORD_NUMBERS
returns-then-rec-lt-RECORD_NUMBERS c = sym (lent_short _ _ (omega arith))

pub returns : goal.returns
returns c = sym (lent_whole _ _ (omega arith))
