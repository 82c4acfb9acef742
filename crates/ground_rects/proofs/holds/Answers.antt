-- `ground_rects::holds` meets its contract: each test of two edges is the test of the numbers.
use native.Mathlib.Omega.{arith}
use Rattle.std.proofs.lemmas.Int.{to_z-of_z}
use Rattle.ground_rects.specs.Rects.{holds}
use Rattle.ground_rects.proofs.holds.Goals as goal

pub returns-then-r-w : goal.returns-then-r-w
unfolding holds
returns-then-r-w c = grind (arith, to_z-of_z)

pub returns-else-r-w : goal.returns-else-r-w
unfolding holds
returns-else-r-w c = grind (arith, to_z-of_z)
