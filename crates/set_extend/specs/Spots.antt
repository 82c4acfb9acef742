-- Where a centre stands in a window, by column and row.
use Rattle.std.specs.Prelude.{ℕ, ◌*◌, ◌/◌, ◌%◌, ◌<◌, ◌≡◌}
use Rattle.set_extend.specs.declared.Spot.{Spot}

-- where centre v stands in a window so wide: its column, its row, and the centre that its row starts with
unfoldable pub spot_of : (width v : ℕ) → Spot
spot_of width v = record { x = v % width; y = v / width; start = v / width * width }

-- the window has a column, and the spot's row starts at row × width
pub record RowStarts (width : ℕ) (p : Spot) : Type 0 where
  pub some : 0 < width
  pub start : p.start ≡ p.y * width
