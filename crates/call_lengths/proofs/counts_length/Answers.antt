-- `call_lengths::counts_length` meets its contract: the product fits, since no window is wider or higher than 8,192.
use Prim.Native.Nat.{◌+◌, ◌≤◌}
use native.Mathlib.Omega.{arith}
use native.Mathlib.Nat.{mul-le-mul}
use Rattle.ground_rects.proofs.Windows.{framed}
use Rattle.rule_calls.specs.Areas.{counts_length}
use Rattle.call_lengths.proofs.counts_length.Goals as goal

pub width-requires : goal.width-requires
width-requires c = (framed 8192 8192 c.args.window c.requires).filled

pub height-requires : goal.height-requires
height-requires c = (framed 8192 8192 c.args.window c.requires).filled

pub overflow_mul-result : goal.overflow_mul-result
overflow_mul-result c =
    let f = framed 8192 8192 c.args.window c.requires in
    let m : c.width.result + 1 ≤ 8193 = omega (arith, f.across_le, c.width.ensures.0) in
    let n : c.height.result + 1 ≤ 8193 = omega (arith, f.down_le, c.height.ensures.0) in
    omega (arith, mul-le-mul m n)

pub returns : goal.returns
unfolding counts_length
returns c = rw (c.width.ensures.0, c.height.ensures.0)
