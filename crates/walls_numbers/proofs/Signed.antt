-- Signed numbers that are passed on come back as they were.
use Prim.Native.Nat.{ℕ}
use mathlib.Core.Path.{◌≡◌}
use lib.IntN.{ℤ}
use mir.Syntax.{w32}
use mir.Val.{to_z, of_z, SFits}
use mir.Facts.{to_z-of_z}
use Rattle.ground_rects.specs.Rects.{rect}
use Rattle.walls_numbers.specs.Numbers.{query_from}

abbrev pub back : ℤ → ℤ
back z = to_z w32 (of_z w32 z)

module _ (l t r b : ℤ) (fl : SFits w32 l) (ft : SFits w32 t) (fr : SFits w32 r) (fb : SFits w32 b) where
  pub rect_back : record { left = back l; top = back t; right = back r; bottom = back b } ≡ rect l t r b
  unfolding rect
  rect_back = rw (to_z-of_z fl, to_z-of_z ft, to_z-of_z fr, to_z-of_z fb)

  pub query_back : (sx sy ex ey bl bt br bb g al at ar ab : ℕ)
      → query_from (back l) (back t) (back r) (back b) sx sy ex ey bl bt br bb g al at ar ab ≡ query_from l t r b sx sy ex ey bl bt br bb g al at ar ab
  query_back sx sy ex ey bl bt br bb g al at ar ab = rw (to_z-of_z fl, to_z-of_z ft, to_z-of_z fr, to_z-of_z fb)
