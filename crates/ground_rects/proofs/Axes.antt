-- The rule by axes: `keeps_off` is `off_axis` across and down, and a mover of one pixel is kept off a rectangle's own pixels.
use mathlib.Core.Path.{◌≡◌}
use mathlib.Core.Bool.{◌&&◌, and_assoc}
use native.Mathlib.Omega.{arith}
use lib.IntN.{ℤ, pos, ◌+ℤ◌, ◌-ℤ◌}
use lib.Signed.{le_z, lt_z}
use Rattle.base_laws.proofs.Ints.{add_parts, minus_parts, eq_parts}
use Rattle.base_model.specs.declared.Rect.{Rect}
use Rattle.base_model.specs.declared.Bounds.{Bounds}
use Rattle.ground_rects.specs.Rects.{has, keeps_off}
use Rattle.ground_rects.specs.Spans.{off_axis}

pub keeps_axes : (r : Rect) (m : Bounds) (x y : ℤ) → keeps_off r m x y ≡ (off_axis r.left r.right m.right m.left x && off_axis r.top r.bottom m.bottom m.top y)
unfolding keeps_off off_axis
keeps_axes r m x y = and_assoc (le_z (r.left -ℤ pos m.right) x && lt_z x (r.right +ℤ pos m.left)) (le_z (r.top -ℤ pos m.bottom) y) (lt_z y (r.bottom +ℤ pos m.top))

less_none : (z : ℤ) → z -ℤ pos 0 ≡ z
less_none z = let e = minus_parts z (pos 0) in eq_parts (z -ℤ pos 0) z (omega arith)

plus_none : (z : ℤ) → z +ℤ pos 0 ≡ z
plus_none z = let e = add_parts z (pos 0) in eq_parts (z +ℤ pos 0) z (omega arith)

pub point_has : (r : Rect) (x y : ℤ) → keeps_off r (record { left = 0; top = 0; right = 0; bottom = 0 }) x y ≡ has r x y
unfolding keeps_off has
point_has r x y = rw (less_none r.left, plus_none r.right, less_none r.top, plus_none r.bottom)
