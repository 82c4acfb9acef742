-- A row of placements as two flat rows: four numbers each in one, eight edges each in the other.
use Rattle.std.specs.Prelude.{ℕ, ◌*◌, ◌-◌, List, [], ◌∷◌, ◌++◌, map, ℤ, pos, length, take, replicate}
use Rattle.base_laws.specs.Lists.{flat}
use Rattle.base_model.specs.declared.Rect.{Rect}
use Rattle.base_model.specs.declared.Placement.{Placement}
use Rattle.walls_rows.specs.declared.Rows.{Rows}

unfoldable pub place_numbers : Placement → List ℕ
place_numbers p = p.spec ∷ p.group ∷ p.tile.x ∷ p.tile.y ∷ []

unfoldable pub rect_edges : Rect → List ℤ
rect_edges r = r.left ∷ r.top ∷ r.right ∷ r.bottom ∷ []

unfoldable pub both_of : Placement → List ℤ
both_of p = rect_edges p.footprint ++ rect_edges p.collision

-- the first 6,145 placements at most, zeros after
unfoldable pub rows_of : List Placement → Rows
rows_of places = record {
  numbers = flat (map place_numbers (take 6145 places)) ++ replicate (4 * (6145 - length places)) 0;
  edges = flat (map both_of (take 6145 places)) ++ replicate (8 * (6145 - length places)) (pos 0);
}
