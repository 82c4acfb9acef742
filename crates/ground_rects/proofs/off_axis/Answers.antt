-- `ground_rects::off_axis` meets its contract: both sides of each test are the numbers of the rule.
use mathlib.Core.Path.{◌≡◌}
use mathlib.Core.Bool.{true}
use native.Mathlib.Omega.{arith}
use lib.IntN.{pos, ◌+ℤ◌, ◌-ℤ◌}
use lib.Signed.{le_z}
use mir.Syntax.{w32, w64}
use mir.Val.{to_z, of_z}
use Rattle.std.proofs.lemmas.Int.{ints}
use Rattle.ground_rects.specs.Spans.{off_axis}
use Rattle.ground_rects.proofs.off_axis.Goals as goal

pub returns-then-low-back : goal.returns-then-low-back
unfolding off_axis
returns-then-low-back c =
    let a = c.args in
    let low : le_z (a.low -ℤ pos a.back) (pos a.x) ≡ true = grind (arith, ints) in
    let x : to_z w64 a.x ≡ pos a.x = omega (arith, ints) in
    let high : to_z w64 (of_z w64 (to_z w64 (of_z w64 (to_z w32 (of_z w32 a.high))) +ℤ to_z w64 a.ahead)) ≡ a.high +ℤ pos a.ahead = omega (arith, ints) in
    rw (low, x, high)
