-- `ground_rects::clip` meets its contract: a centre lies in the span where its column and its row do.
use mathlib.Core.Path.{sym, ◌∙◌, ap₂}
use mathlib.Core.Bool.{◌&&◌}
use Prim.Native.Nat.{◌/◌, ◌%◌}
use native.Mathlib.Omega.{arith}
use Rattle.std.proofs.lemmas.Int.{ints}
use Rattle.ground_rects.specs.Windows.{width, height, pixel_x, pixel_y}
use Rattle.ground_rects.specs.Spans.{in_span}
use Rattle.ground_rects.proofs.Edges.{edges}
use Rattle.ground_rects.proofs.Axes.{keeps_axes}
use Rattle.ground_rects.proofs.Windows.{nonempty_both, column_lt, row_lt}
use Rattle.ground_rects.proofs.clip.Goals as goal

pub clip_axis-x-requires : goal.clip_axis-x-requires
clip_axis-x-requires c = grind (arith, ints, nonempty_both c.args.window c.requires.0)

pub clip_axis-y-requires : goal.clip_axis-y-requires
clip_axis-y-requires c = grind (arith, ints, nonempty_both c.args.window c.requires.0)

pub returns : goal.returns
unfolding in_span width height pixel_x pixel_y
returns c =
    let a = c.args in
    let r = edges a.r c.struct_told-1.given in
    let w = edges a.window c.struct_told-3-1.given in
    let x = rw (r.left, r.right, w.left, w.right) at c.clip_axis-x.ensures in
    let y = rw (r.top, r.bottom, w.top, w.bottom) at c.clip_axis-y.ensures in
    record {
      right = x.within;
      bottom = y.within;
      law = λ k h.
          ap₂ ◌&&◌ (x.law (k % width a.window) (column_lt a.window c.requires.0 k)) (y.law (k / width a.window) (row_lt a.window c.requires.0 k h))
          ∙ sym (keeps_axes a.r a.mover (pixel_x a.window k) (pixel_y a.window k));
    }
