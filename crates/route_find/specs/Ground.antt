-- The ground that a search is given: the map's, and a pixel's place in the window.
use Rattle.std.specs.Prelude.{◌≡◌, true, ℕ, ◌+◌, ◌*◌, ◌<◌, ◌^◌, ℤ, pos, nat_abs, ◌-ℤ◌}
use Rattle.std.specs.Int.Signed.{le_z}
-- a centre is open where its byte on the map is zero; the map has a byte for each centre
unfoldable pub use Rattle.route_step.specs.Ground.{open_in}
pub use Rattle.route_step.specs.Ground.{Window}

-- a pixel to the right of `left` and below `top`, whose centre has a number that fits
pub record InWindow (x y : ℕ) (left top : ℤ) (width : ℕ) : Type 0 where
  pub column : le_z left (pos x) ≡ true
  pub row : le_z top (pos y) ≡ true
  pub fits : nat_abs (pos y -ℤ top) * width + nat_abs (pos x -ℤ left) < 2 ^ 64
