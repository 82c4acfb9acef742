-- `ground_rects::height` meets its contract: the difference is above zero, and fits.
use native.Mathlib.Omega.{arith}
use Rattle.std.proofs.lemmas.Int.{ints}
use Rattle.ground_rects.specs.Windows.{height}
use Rattle.ground_rects.proofs.Windows.{nonempty_both}
use Rattle.ground_rects.proofs.height.Goals as goal

pub overflow_cast-result-3 : goal.overflow_cast-result-3
overflow_cast-result-3 c = grind (arith, ints, nonempty_both c.args.w c.requires)

pub returns : goal.returns
unfolding height
returns c = grind (arith, ints, nonempty_both c.args.w c.requires)
