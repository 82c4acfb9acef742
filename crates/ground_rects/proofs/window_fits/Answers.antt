-- `ground_rects::window_fits` meets its contract: each test is the definition's, though axis by axis.
use native.Mathlib.Omega.{arith}
use Rattle.std.proofs.lemmas.Int.{to_z-of_z}
use Rattle.ground_rects.specs.Windows.{window_fits, centres}
use Rattle.ground_rects.proofs.window_fits.Goals as goal

pub returns-then-on_axis-2 : goal.returns-then-on_axis-2
unfolding window_fits centres
returns-then-on_axis-2 c = grind (arith, to_z-of_z)

pub returns-else-on_axis-2 : goal.returns-else-on_axis-2
unfolding window_fits centres
returns-else-on_axis-2 c = grind (arith, to_z-of_z)
