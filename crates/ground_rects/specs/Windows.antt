-- The size of a map; the window, its ends and its centres: a centre is one pixel of the window, numbered row × width + column from the window's corner
-- (RULES 1.1, 1.4, 1.5, 1.6).
use Rattle.std.specs.Prelude.{ℕ, ◌+◌, ◌*◌, ◌/◌, ◌%◌, Bool, ◌&&◌, leb, ℤ, pos, nat_abs, ◌+ℤ◌, ◌-ℤ◌}
use Rattle.std.specs.Int.Signed.{le_z}
use Rattle.base_model.specs.declared.Rect.{Rect}
use Rattle.base_model.specs.declared.Position.{Position}
use Rattle.ground_rects.specs.Rects.{nonempty, has}

-- 1 to 1,024 walk cells each way
unfoldable pub size_fits : (across down : ℕ) → Bool
size_fits across down = leb 1 across && leb across 1024 && leb 1 down && leb down 1024

unfoldable pub width : Rect → ℕ
width w = nat_abs (w.right -ℤ w.left)

unfoldable pub height : Rect → ℕ
height w = nat_abs (w.bottom -ℤ w.top)

-- c of RULES 1.4
unfoldable pub centres : Rect → ℕ
centres w = width w * height w

-- passes 2: the window is not empty, not negative and not beyond a map of so many pixels, and c is not too large
unfoldable pub window_fits : (across down : ℕ) → Rect → Bool
window_fits across down w =
    nonempty w && le_z (pos 0) w.left && le_z (pos 0) w.top
    && le_z w.right (pos across) && le_z w.bottom (pos down) && leb (centres w) 1048576

-- passes 3: the end lies in the window
unfoldable pub in_window : Rect → Position → Bool
in_window w p = has w (pos p.x) (pos p.y)

-- the map pixel of a centre: its column and its row
unfoldable pub pixel_x : Rect → ℕ → ℤ
pixel_x w c = w.left +ℤ pos (c % width w)

unfoldable pub pixel_y : Rect → ℕ → ℤ
pixel_y w c = w.top +ℤ pos (c / width w)

-- the centre at a pixel of the window, and back
unfoldable pub centre_at : Rect → Position → ℕ
centre_at w p = nat_abs (pos p.y -ℤ w.top) * width w + nat_abs (pos p.x -ℤ w.left)

unfoldable pub position_of : Rect → ℕ → Position
position_of w c = record { x = nat_abs (pixel_x w c); y = nat_abs (pixel_y w c) }
