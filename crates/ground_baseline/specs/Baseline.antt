-- The map, and a mover's baseline: 1 where an unwalkable cell, an obstacle or the map's edge keeps it off, otherwise 0 (RULES 1.1, 1.10).
use Rattle.std.specs.Prelude.{ℕ, ◌+◌, ◌*◌, ◌/◌, ◌%◌, Bool, true, false, ◌&&◌, ◌||◌, List, map, leb, eqb, length, get_or, ℤ, pos, ◌+ℤ◌, ◌-ℤ◌}
use Rattle.std.specs.Int.Signed.{le_z, lt_z}
use Rattle.base_laws.specs.Lists.{any_of, all_of, below}
use Rattle.base_model.specs.declared.Rect.{Rect}
use Rattle.base_model.specs.declared.Bounds.{Bounds}
use Rattle.ground_rects.specs.Rects.{rect, keeps_off}
use Rattle.ground_rects.specs.Windows.{size_fits, centres, pixel_x, pixel_y}

-- The map: so many walk cells each way, and their bytes row by row, 1 walkable and 0 not.
pub record Map : Type 0 where
  pub across : ℕ
  pub down : ℕ
  pub cells : List ℕ

-- passes 1: map size (1 to 1,024 each way), cell count and cell bytes
unfoldable pub map_fits : Map → Bool
map_fits m =
    size_fits m.across m.down && eqb (length m.cells) (m.across * m.down) && all_of (λ (b : ℕ). leb b 1) m.cells

-- the pixels of cell k: 8 pixels a cell
unfoldable pub cell_rect : Map → ℕ → Rect
cell_rect m k = rect (pos (8 * (k % m.across))) (pos (8 * (k / m.across))) (pos (8 * (k % m.across) + 8)) (pos (8 * (k / m.across) + 8))

module _ (m : Map) (obstacles : List Rect) (mover : Bounds) where
  unfoldable pub off_terrain : ℤ → ℤ → Bool
  off_terrain x y = any_of (λ (k : ℕ). eqb (get_or m.cells k 1) 0 && keeps_off (cell_rect m k) mover x y) (below (length m.cells))

  unfoldable pub off_obstacle : ℤ → ℤ → Bool
  off_obstacle x y = any_of (λ (r : Rect). keeps_off r mover x y) obstacles

  -- x − left < 0, y − top < 0, x + right ≥ map width or y + bottom ≥ map height in pixels
  unfoldable pub off_edge : ℤ → ℤ → Bool
  off_edge x y =
      lt_z (x -ℤ pos mover.left) (pos 0) || lt_z (y -ℤ pos mover.top) (pos 0)
      || le_z (pos (8 * m.across)) (x +ℤ pos mover.right) || le_z (pos (8 * m.down)) (y +ℤ pos mover.bottom)

  unfoldable pub mark : ℤ → ℤ → ℕ
  mark x y = elim (off_terrain x y || off_obstacle x y || off_edge x y) [ true ↦ 1 | false ↦ 0 ]

  -- a byte for each centre
  unfoldable pub baseline_of : Rect → List ℕ
  baseline_of w = map (λ (c : ℕ). mark (pixel_x w c) (pixel_y w c)) (below (centres w))
