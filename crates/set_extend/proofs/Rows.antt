-- Windows one and two centres wide, computed by the checker: there the next centre may stand in the next row.
use Prim.Native.Nat.{ℕ, suc}
use mathlib.Core.Path.{◌≡◌, refl}
use mathlib.Core.Bool.{Bool, true, false}
use mathlib.Core.List.{List, [], ◌∷◌}
use lib.IntN.{pos}
use Rattle.base_laws.specs.Lists.{any_of, flat, first_of, select}
use Rattle.ground_rects.specs.Rects.{rect, keeps_off}
use Rattle.ground_rects.specs.Windows.{width, height, pixel_x, pixel_y}
use Rattle.rule_routes.specs.Edges.{step_by, eight_steps, eq_z, centre, inside, sides_from, edge_by, edges_from, window_edges}
use Rattle.rule_routes.specs.Routes.{sides_of, leans_on}
use Rattle.set_extend.specs.declared.Spot.{Spot}
use Rattle.set_extend.specs.Spots.{spot_of}
use Rattle.set_extend.specs.Touch.{touched}

-- centres 1 and 2: in a window two wide in the first and the second row, in one that is one wide in the second and the third
pub narrow_spots : (◌≡◌ {A = Spot} (spot_of 2 1) (record { x = 1; y = 0; start = 0 }))
    × (◌≡◌ {A = Spot} (spot_of 2 2) (record { x = 0; y = 1; start = 2 }))
    × (◌≡◌ {A = Spot} (spot_of 1 1) (record { x = 0; y = 1; start = 1 }))
    × (◌≡◌ {A = Spot} (spot_of 1 2) (record { x = 0; y = 2; start = 2 }))
unfolding spot_of
narrow_spots = (refl, refl, refl, refl)

-- whether the pixel at column x and row y touches a route, in a window so wide and three rows high, for a mover as small as a pixel
abbrev pixel_touches : (columns x y : ℕ) → List ℕ → Bool
pixel_touches columns x y r =
    touched (rect (pos x) (pos y) (pos (suc x)) (pos (suc y))) (record { left = 0; top = 0; right = 0; bottom = 0 })
    (rect (pos 0) (pos 0) (pos columns) (pos 3)) eight_steps r

-- In a window two wide the step from 0 to 1 is (1, 0) and has no sides; the step from 1 to 2 is (−1, 1), with sides 0 and 3, which the way back has
-- too. In a window one wide the step from 1 to 2 is (0, 1).
pub narrow_sides : (pixel_touches 2 0 1 (0 ∷ 1 ∷ []) ≡ false)
    × (pixel_touches 2 1 1 (0 ∷ 1 ∷ []) ≡ false)
    × (pixel_touches 2 0 0 (1 ∷ 2 ∷ []) ≡ true)
    × (pixel_touches 2 1 1 (1 ∷ 2 ∷ []) ≡ true)
    × (pixel_touches 2 0 2 (1 ∷ 2 ∷ []) ≡ false)
    × (pixel_touches 2 0 0 (2 ∷ 1 ∷ []) ≡ true)
    × (pixel_touches 2 1 1 (2 ∷ 1 ∷ []) ≡ true)
    × (pixel_touches 2 0 2 (2 ∷ 1 ∷ []) ≡ false)
    × (pixel_touches 1 0 0 (1 ∷ 2 ∷ []) ≡ false)
    × (pixel_touches 1 0 2 (1 ∷ 2 ∷ []) ≡ true)
unfolding touched any_of flat first_of select rect keeps_off width height pixel_x pixel_y
    step_by eight_steps eq_z centre inside sides_from edge_by edges_from window_edges sides_of leans_on
narrow_sides = (refl, refl, refl, refl, refl, refl, refl, refl, refl, refl)
