-- The ground that a map gives to a search, and where the steps of a table lead on it.
use Rattle.std.specs.Prelude.{◌≡◌, Bool, false, ◌&&◌, Option, None, Some, List, map, ℕ, ◌*◌, ◌≤◌, ◌<◌, ◌^◌, eqb, ℤ, pos, ◌+ℤ◌, length, get_or}
use Rattle.std.specs.Int.Signed.{le_z, lt_z}
use Rattle.base_laws.specs.Lists.{all_of, select}
use Rattle.rule_routes.specs.Edges.{Edge, Step, edges_from}

-- a centre is open where its byte on the map is zero
unfoldable pub open_in : List ℕ → ℕ → Bool
open_in cells c = eqb (get_or cells c 0) 0

-- the map has a byte for each centre of the window, and the centres have numbers of 32 bits
pub record Window (cells : List ℕ) (width height : ℕ) : Type 0 where
  pub bytes : width * height ≤ length cells
  pub small : width * height < 2 ^ 32

-- the open centres to which these steps lead from column x and row y, in order
unfoldable pub leads : (cells : List ℕ) (width height : ℕ) (x y : ℤ) → List Step → List ℕ
leads cells width height x y steps =
    map (λ (e : Edge). e.target)
    (select (λ (e : Edge). open_in cells e.target && all_of (open_in cells) e.sides) (edges_from width height x y steps))

-- the place to which a step goes along one axis, and none where that is not below the limit
abbrev pub Moved : (at : ℕ) (by : ℤ) (limit : ℕ) → Option ℕ → Type 0
Moved at by limit None = le_z (pos 0) (pos at +ℤ by) && lt_z (pos at +ℤ by) (pos limit) ≡ false
Moved at by limit (Some to) = (pos at +ℤ by ≡ pos to) × (to < limit)
