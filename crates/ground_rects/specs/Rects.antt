-- Rectangles with signed edges, half open: right and bottom are exclusive. Movers' bounds, and when a rectangle keeps a mover off (RULES 1.2, 1.3, 1.7, 1.8, 1.9).
use Rattle.std.specs.Prelude.{Bool, ◌&&◌, List, [], ◌∷◌, leb, ℤ, pos, ◌+ℤ◌, ◌-ℤ◌}
use Rattle.std.specs.Int.Signed.{le_z, lt_z}
use Rattle.base_model.specs.declared.Rect.{Rect}
use Rattle.base_model.specs.declared.Bounds.{Bounds}

unfoldable pub rect : ℤ → ℤ → ℤ → ℤ → Rect
rect l t r b = record { left = l; top = t; right = r; bottom = b }

-- an inverted rectangle is empty too
unfoldable pub nonempty : Rect → Bool
nonempty r = lt_z r.left r.right && lt_z r.top r.bottom

-- the pixel (x, y) lies in the rectangle
unfoldable pub has : Rect → ℤ → ℤ → Bool
has r x y = le_z r.left x && lt_z x r.right && le_z r.top y && lt_z y r.bottom

-- r lies wholly inside w
unfoldable pub holds : Rect → Rect → Bool
holds w r = le_z w.left r.left && le_z w.top r.top && le_z r.right w.right && le_z r.bottom w.bottom

-- `intersects`: the half-open rectangles, neither of them empty, share a pixel
unfoldable pub intersects : Rect → Rect → Bool
intersects a b = lt_z a.left b.right && lt_z b.left a.right && lt_z a.top b.bottom && lt_z b.top a.bottom

-- a mover is kept off a centre by a rectangle when left − mover.right ≤ x < right + mover.left and top − mover.bottom ≤ y < bottom + mover.top
unfoldable pub keeps_off : Rect → Bounds → ℤ → ℤ → Bool
keeps_off r m x y =
    le_z (r.left -ℤ pos m.right) x && lt_z x (r.right +ℤ pos m.left)
    && le_z (r.top -ℤ pos m.bottom) y && lt_z y (r.bottom +ℤ pos m.top)

-- four bounds, each 0 to 256
unfoldable pub small : Bounds → Bool
small m = leb m.left 256 && leb m.top 256 && leb m.right 256 && leb m.bottom 256

-- the rectangles of a row of numbers, four edges each; a part left over counts as an empty rectangle
unfoldable pub rects_of : List ℤ → List Rect
rects_of [] = []
rects_of (l ∷ []) = rect l l l l ∷ []
rects_of (l ∷ t ∷ []) = rect l t l t ∷ []
rects_of (l ∷ t ∷ r ∷ []) = rect l t r t ∷ []
rects_of (l ∷ t ∷ r ∷ b ∷ rest) = rect l t r b ∷ rects_of rest
