-- A part of a window, as columns and rows, and what clipping a rectangle to the window gives.
use Rattle.std.specs.Prelude.{◌≡◌, Bool, ◌&&◌, List, ℕ, ◌+◌, ◌*◌, ◌/◌, ◌%◌, ◌≤◌, ◌<◌, leb, ltb, ℤ, pos, nat_abs, ◌+ℤ◌, ◌-ℤ◌, get_or}
use Rattle.std.specs.Int.Signed.{le_z, lt_z}
use Rattle.base_model.specs.declared.Rect.{Rect}
use Rattle.base_model.specs.declared.Bounds.{Bounds}
use Rattle.ground_rects.specs.declared.Span.{Span}
use Rattle.ground_rects.specs.Rects.{rect, keeps_off}
use Rattle.ground_rects.specs.Windows.{width, height, centres, pixel_x, pixel_y}

-- rectangle i of a row of numbers, four edges each
unfoldable pub nth_rect : List ℤ → ℕ → Rect
nth_rect row i = rect (get_or row (i * 4) (pos 0)) (get_or row (i * 4 + 1) (pos 0)) (get_or row (i * 4 + 2) (pos 0)) (get_or row (i * 4 + 3) (pos 0))

-- column x of row y lies in the span
unfoldable pub in_span : Span → ℕ → ℕ → Bool
in_span s x y = (leb s.left x && ltb x s.right) && (leb s.top y && ltb y s.bottom)

-- s lies in the window, and holds the centres off which r keeps the mover
pub record Clipped (r w : Rect) (m : Bounds) (s : Span) : Type 0 where
  pub right : s.right ≤ width w
  pub bottom : s.bottom ≤ height w
  pub law : (c : ℕ) → c < centres w → in_span s (c % width w) (c / width w) ≡ keeps_off r m (pixel_x w c) (pixel_y w c)

-- one axis of the rule: low − back ≤ x < high + ahead
unfoldable pub off_axis : ℤ → ℤ → ℕ → ℕ → ℤ → Bool
off_axis low high back ahead x = le_z (low -ℤ pos back) x && lt_z x (high +ℤ pos ahead)

-- one axis of a span: its columns, counted from `from`, are those that the rule names
pub record ClippedAxis (low high : ℤ) (back ahead : ℕ) (from to : ℤ) (a b : ℕ) : Type 0 where
  pub within : b ≤ nat_abs (to -ℤ from)
  pub law : (x : ℕ) → x < nat_abs (to -ℤ from) → (leb a x && ltb x b) ≡ off_axis low high back ahead (from +ℤ pos x)
