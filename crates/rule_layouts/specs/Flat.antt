-- Placements lent flat: four numbers each (spec index, group, tile x, tile y) in one row, eight edges each (footprint, collision) in another (RULES 7.9).
use Rattle.std.specs.Prelude.{ℕ, ◌+◌, ◌*◌, ◌/◌, min, true, false, ◌&&◌, List, [], ◌∷◌, ◌++◌, map, eqb, ℤ, pos, length, get_or}
use Rattle.base_laws.specs.Lists.{below}
use Rattle.base_model.specs.declared.Rect.{Rect}
use Rattle.base_model.specs.declared.Placement.{Placement}
use Rattle.base_model.specs.declared.Query.{Query}
use Rattle.ground_rects.specs.Rects.{rect, intersects}
use Rattle.rule_layouts.specs.Boards.{Places}
use Rattle.rule_layouts.specs.Inputs.{Inputs, no_place}

-- the rectangle whose four edges stand from k on
unfoldable pub rect_at : List ℤ → ℕ → Rect
rect_at edges k = rect (get_or edges k (pos 0)) (get_or edges (k + 1) (pos 0)) (get_or edges (k + 2) (pos 0)) (get_or edges (k + 3) (pos 0))

unfoldable pub placement_at : List ℕ → List ℤ → ℕ → Placement
placement_at numbers edges i = record {
  spec = get_or numbers (4 * i) 0;
  group = get_or numbers (4 * i + 1) 0;
  tile = record { x = get_or numbers (4 * i + 2) 0; y = get_or numbers (4 * i + 3) 0 };
  footprint = rect_at edges (8 * i);
  collision = rect_at edges (8 * i + 4);
}

-- how many placements stand whole in both rows
unfoldable pub wholes : List ℕ → List ℤ → ℕ
wholes numbers edges = min (length numbers / 4) (length edges / 8)

-- a part left over in either row counts as one more placement, with empty rectangles
unfoldable pub placements_of : List ℕ → List ℤ → List Placement
placements_of numbers edges =
    map (placement_at numbers edges) (below (wholes numbers edges))
    ++ elim (eqb (length numbers) (4 * wholes numbers edges) && eqb (length edges) (8 * wholes numbers edges)) [ true ↦ [] | false ↦ no_place ∷ [] ]

-- the inputs of a call whose placements are lent flat
unfoldable pub inputs_of : Query → (groups numbers : List ℕ) → List ℤ → (block_base allow_base : List ℕ) → Inputs
inputs_of q groups numbers edges block_base allow_base =
    record { query = q; groups = groups; places = placements_of numbers edges; block_base = block_base; allow_base = allow_base }

-- n placements, read from the rows by index
unfoldable pub places_in : ℕ → (groups numbers : List ℕ) → List ℤ → Places
places_in n groups numbers edges = record {
  count = n;
  group = λ i. get_or numbers (4 * i + 1) 0;
  slots = λ k. get_or groups k 0;
  overlap = λ i j. intersects (rect_at edges (8 * i)) (rect_at edges (8 * j));
}
