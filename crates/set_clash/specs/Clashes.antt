-- What is looked at before any map, over placements lent flat.
use Rattle.std.specs.Prelude.{ℕ, ◌*◌, Bool, not, ◌&&◌, List, eqb, ltb, ℤ}
use Rattle.base_laws.specs.Lists.{any_of}
use Rattle.ground_rects.specs.Rects.{intersects}
use Rattle.rule_layouts.specs.Boards.{Places, used}
use Rattle.rule_layouts.specs.Flat.{rect_at}

-- the count of placement i's group is exceeded
unfoldable pub crowded : Places → List ℕ → ℕ → Bool
crowded p s i = ltb (p.slots (p.group i)) (used p (p.group i) s)

-- the footprint of placement i overlaps that of another member
unfoldable pub clashing : List ℤ → List ℕ → ℕ → Bool
clashing edges s i = any_of (λ (j : ℕ). not (eqb i j) && intersects (rect_at edges (8 * i)) (rect_at edges (8 * j))) s
