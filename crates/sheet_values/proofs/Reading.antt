-- A sheet that was read, as the flat values that the drive takes. Assumes nothing.
use mathlib.Core.Path.{◌≡◌, ap, ◌∙◌}
use mathlib.Core.List.{List}
use Prim.Native.Nat.{ℕ, ◌*◌}
use native.Mathlib.Omega.{arith}
use lib.IntN.{ℤ}
use lib.ListN.{get_or, take}
use Rattle.base_laws.specs.Fill.{filled}
use Rattle.base_model.specs.declared.Limits.{Limits}
use Rattle.base_model.specs.declared.Query.{Query}
use Rattle.sheet_form.specs.Sheets.{Sheet, sheet}
use Rattle.sheet_read.specs.Answers.{SheetHeld}
use Rattle.sheet_read.specs.declared.Counts.{Counts}
use Rattle.sheet_values.specs.Inner.{query_in, limits_read, number_at, edge_at, side_at, Rooms, FlatIn}
use Rattle.sheet_allowed.specs.Inner.{Flat}
use Rattle.sheet_values.proofs.Values.{across_stands, down_stands, query_stands, limits_stand}
use Rattle.sheet_values.proofs.Rows.{numbers_filled, edges_filled, sides_filled}

-- with the query and the limits as they were read
pub flat_in : (s : Sheet) (k : Counts) (fixed cells : List ℕ) (sides : List ℤ) (groups numbers : List ℕ) (edges : List ℤ) (query : Query) (limits : Limits)
    → query ≡ query_in k.allow fixed → limits ≡ limits_read fixed → FlatIn s k fixed cells sides groups numbers edges
    → Flat s (get_or fixed 0 0) (get_or fixed 1 0) (take k.cells cells) (take (4 * k.obstacles) sides) query limits
    (take k.groups groups) (take (4 * k.places) numbers) (take (8 * k.places) edges)
flat_in s k fixed cells sides groups numbers edges query limits eq el h = record {
  across_is = h.across_is;
  down_is = h.down_is;
  cells_are = h.cells_are;
  obstacles_are = h.obstacles_are;
  query_is = eq ∙ h.query_is;
  limits_are = el ∙ h.limits_are;
  groups_are = h.groups_are;
  numbers_are = h.numbers_are;
  edges_are = h.edges_are;
}

pub flat_held : (s : Sheet) (k : Counts) (fixed cells obstacles groups places : List ℕ) → Rooms k fixed cells obstacles groups places
    → (sides₀ sides : List ℤ) (numbers₀ numbers : List ℕ) (edges₀ edges : List ℤ)
    → sides ≡ filled (side_at obstacles) (4 * k.obstacles) sides₀ → numbers ≡ filled (number_at places) (4 * k.places) numbers₀ → edges ≡ filled (edge_at places) (8 * k.places) edges₀
    → sheet.fits s → SheetHeld s k fixed cells obstacles groups places → FlatIn s k fixed cells sides groups numbers edges
flat_held s k fixed cells obstacles groups places r sides₀ sides numbers₀ numbers edges₀ edges es en ee fit h = record {
  across_is = across_stands s k fixed cells obstacles groups places fit h;
  down_is = down_stands s k fixed cells obstacles groups places fit h;
  cells_are = h.cell_area;
  obstacles_are = ap (take (4 * k.obstacles)) es ∙ sides_filled s.obstacles obstacles (4 * k.obstacles) sides₀ (omega (arith, r.few_obstacles, r.obstacle_room)) h.obstacle_area;
  query_is = query_stands s k fixed cells obstacles groups places fit h;
  limits_are = limits_stand s k fixed cells obstacles groups places fit h;
  groups_are = h.group_area;
  numbers_are = ap (take (4 * k.places)) en ∙ numbers_filled s fit k.places places h.place_count h.place_area numbers₀;
  edges_are = ap (take (8 * k.places)) ee ∙ edges_filled s fit k.places places h.place_count h.place_area edges₀;
}
