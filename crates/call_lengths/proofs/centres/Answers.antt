-- `call_lengths::centres` meets its contract: a window that fits has at most 1,048,576 centres.
use mathlib.Core.Path.{refl}
use native.Mathlib.Omega.{arith}
use Rattle.ground_rects.specs.Windows.{centres}
use Rattle.ground_rects.proofs.Windows.{framed}
use Rattle.call_lengths.proofs.centres.Goals as goal

pub width-requires : goal.width-requires
width-requires c = (framed 8192 8192 c.args.window c.requires).filled

pub height-requires : goal.height-requires
height-requires c = (framed 8192 8192 c.args.window c.requires).filled

pub overflow_mul-result : goal.overflow_mul-result
unfolding centres
overflow_mul-result c =
    let few = (framed 8192 8192 c.args.window c.requires).few in
    rw (c.width.ensures.0, c.height.ensures.0) (omega arith)

pub returns : goal.returns
unfolding centres
returns c =
    let few = (framed 8192 8192 c.args.window c.requires).few in
    rw (c.width.ensures.0, c.height.ensures.0) (refl, omega arith)
