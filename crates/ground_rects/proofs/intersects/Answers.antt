-- `ground_rects::intersects` meets its contract: each test of two edges is the test of the numbers.
use native.Mathlib.Omega.{arith}
use Rattle.std.proofs.lemmas.Int.{to_z-of_z}
use Rattle.ground_rects.specs.Rects.{intersects}
use Rattle.ground_rects.proofs.intersects.Goals as goal

pub returns-then-a-b-2 : goal.returns-then-a-b-2
unfolding intersects
returns-then-a-b-2 c = grind (arith, to_z-of_z)

pub returns-else-a-b-2 : goal.returns-else-a-b-2
unfolding intersects
returns-else-a-b-2 c = grind (arith, to_z-of_z)
