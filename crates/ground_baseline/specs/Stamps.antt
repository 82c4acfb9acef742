-- The counts of a window, laid with rectangles, and what a baseline reads off them.
use Rattle.std.specs.Prelude.{◌≡◌, true, ◌&&◌, ◌||◌, List, [], ◌∷◌, map as mapped, ℕ, ◌+◌, ◌*◌, ◌/◌, ◌%◌, ◌≤◌, ◌<◌, leb, eqb, ℤ, pos, length, get_or, drop}
use Rattle.std.specs.Int.Signed.{lt_z}
use Rattle.base_laws.specs.Lists.{all_of, select, below}
use Rattle.base_model.specs.declared.Rect.{Rect}
use Rattle.base_model.specs.declared.Bounds.{Bounds}
use Rattle.ground_rects.specs.declared.Span.{Span}
use Rattle.ground_rects.specs.Rects.{keeps_off, nonempty, small, rects_of}
use Rattle.ground_rects.specs.Windows.{width, height, centres, window_fits, pixel_x, pixel_y}
use Rattle.ground_baseline.specs.Baseline.{Map, map_fits, cell_rect, off_edge}
use Rattle.ground_counts.specs.Counts.{bit, count_of, Stamped, Inside}

-- how many of the rectangles keep the mover off a pixel
unfoldable pub hits : List Rect → Bounds → ℤ → ℤ → ℕ
hits [] m x y = 0
hits (r ∷ rs) m x y = bit (keeps_off r m x y) + hits rs m x y

-- the unwalkable of the first k cells
unfoldable pub shut_cells : Map → ℕ → List Rect
shut_cells m k = mapped (cell_rect m) (select (λ (j : ℕ). eqb (get_or m.cells j 1) 0) (below k))

-- the entries of a window's counts: a column and a row more than its centres
unfoldable pub entries : Rect → ℕ
entries w = (width w + 1) * (height w + 1)

-- the entries hold what the rectangles' corners add; those past them are `rest`
pub record RectsStamped (w : Rect) (m : Bounds) (rest : List ℤ) (rs : List Rect) (v : List ℤ) : Type 0 where
  pub spans : List Span
  pub stamped : Stamped (width w + 1) (entries w) spans v
  pub inside : Inside (width w + 1) spans
  pub many : length spans ≡ length rs
  pub law : (c : ℕ) → c < centres w → count_of spans (c % width w) (c / width w) ≡ hits rs m (pixel_x w c) (pixel_y w c)
  pub kept : drop (entries w) v ≡ rest

-- laid with so few rectangles that there is room for more
pub record Open (w : Rect) (m : Bounds) (v : List ℤ) (more : ℕ) : Type 0 where
  pub rest : List ℤ
  pub rects : List Rect
  pub laid : RectsStamped w m rest rects v
  pub few : length rects + more ≤ 1052672

-- what laying a rectangle asks of its window and mover
pub record Setting (stride : ℕ) (w : Rect) (m : Bounds) : Type 0 where
  pub window : nonempty w ≡ true
  pub mover : small m ≡ true
  pub stride_is : stride ≡ width w + 1

-- the byte of centre c of a window at (left, top): 1 where its count is above 0, or the mover leaves the map there
unfoldable pub blocked_at : Map → Bounds → (left top width : ℕ) → List ℤ → ℕ → ℕ
blocked_at map m left top width counts c =
    bit (lt_z (pos 0) (get_or counts (c / width * (width + 1) + c % width) (pos 0))
    || off_edge map [] m (pos (left + c % width)) (pos (top + c / width)))

-- what marking row y asks
pub record RowAsked (m : Bounds) (across down left top width y counts baseline : ℕ) : Type 0 where
  pub mover : small m ≡ true
  pub across_le : across ≤ 1024
  pub down_le : down ≤ 1024
  pub right_le : left + width ≤ 8192
  pub bottom_le : top + y < 8192
  pub counts_room_lem : y * (width + 1) + width ≤ counts
  pub baseline_room_lem : y * width + width ≤ baseline

-- what marking all rows asks
pub record Centres (w : Rect) (m : Bounds) (across down counts baseline : ℕ) : Type 0 where
  pub window : window_fits 8192 8192 w ≡ true
  pub mover : small m ≡ true
  pub across_le : across ≤ 1024
  pub down_le : down ≤ 1024
  pub counts_room_lem : entries w ≤ counts
  pub baseline_room_lem : centres w ≤ baseline

-- checks 1, 2, 4, 5 and 6 passed
pub record Checked (m : Map) (obs : List ℤ) (w : Rect) (b : Bounds) (counts baseline : ℕ) : Type 0 where
  pub map_fits_lem : map_fits m ≡ true
  pub window : window_fits (8 * m.across) (8 * m.down) w ≡ true
  pub mover : small b ≡ true
  pub obstacles : (leb (length (rects_of obs)) 4096 && all_of nonempty (rects_of obs)) ≡ true
  pub counts_room_lem : (width w + 1) * (height w + 1) ≤ counts
  pub baseline_room_lem : centres w ≤ baseline
