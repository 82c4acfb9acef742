-- Vocabulary of private contracts: the sheet's values in the words that were read, and the flat forms that the calls take.
use Rattle.std.specs.Prelude.{Bool, true, false, ℕ, ◌+◌, ◌*◌, ◌/◌, ◌%◌, ◌≤◌, ◌≡◌, List, ℤ, length, get_or, take, drop}
use Rattle.base_model.specs.declared.Position.{Position}
use Rattle.base_model.specs.Allow.{Allow}
use Rattle.std.specs.Prelude.{None, Some}
use Rattle.base_model.specs.declared.Limits.{Limits}
use Rattle.base_model.specs.declared.Query.{Query}
use Rattle.sheet_form.specs.Sheets.{Sheet, signed_of, rect_of}
use Rattle.sheet_read.specs.declared.Counts.{Counts}
use Rattle.sheet_rule.specs.Drive.{bounds_of}
use Rattle.sheet_allowed.specs.Inner.{Flat}

-- ---- the values of the lines that stand once
unfoldable pub position_in : ℕ → List ℕ → Position
position_in at fixed = record { x = get_or fixed at 0; y = get_or fixed (at + 1) 0 }

unfoldable pub allow_read : Bool → List ℕ → Allow
allow_read false fixed = None
allow_read true fixed = Some (bounds_of (drop 14 fixed))

unfoldable pub query_in : (allow : Bool) → List ℕ → Query
query_in allow fixed = record {
  window = rect_of (drop 2 fixed);
  start = position_in 6 fixed;
  end = position_in 8 fixed;
  block = bounds_of (drop 10 fixed);
  allow = allow_read allow fixed;
}

unfoldable pub limits_read : List ℕ → Limits
limits_read fixed = record { states = get_or fixed 18 0; results = get_or fixed 19 0 }

-- ---- rows of words, twelve for each place
-- number k of the places, four to each
unfoldable pub number_at : List ℕ → ℕ → ℕ
number_at words k = get_or words (12 * (k / 4) + k % 4) 0

-- edge k of the places, eight to each
unfoldable pub edge_at : List ℕ → ℕ → ℤ
edge_at words k = signed_of (get_or words (12 * (k / 8) + (4 + k % 8)) 0)

unfoldable pub side_at : List ℕ → ℕ → ℤ
side_at words k = signed_of (get_or words k 0)

-- the counts and the areas of the largest sheet
pub record Rooms (k : Counts) (fixed cells obstacles groups places : List ℕ) : Type 0 where
  pub few_cells : k.cells ≤ 64
  pub few_obstacles : k.obstacles ≤ 32
  pub few_groups : k.groups ≤ 4096
  pub few_places : k.places ≤ 64
  pub fixed_room : length fixed ≡ 20
  pub cell_room : length cells ≡ 64
  pub obstacle_room : length obstacles ≡ 128
  pub group_room : length groups ≡ 4096
  pub place_room : length places ≡ 768

-- areas that have as many entries as the counts say
pub record Fronts (k : Counts) (fixed cells : List ℕ) (sides : List ℤ) (groups numbers : List ℕ) (edges : List ℤ) : Type 0 where
  pub few_obstacles : k.obstacles ≤ 32
  pub few_places : k.places ≤ 64
  pub fixed_room : length fixed ≡ 20
  pub cell_room : k.cells ≤ length cells
  pub side_room : 4 * k.obstacles ≤ length sides
  pub group_room : k.groups ≤ length groups
  pub number_room : 4 * k.places ≤ length numbers
  pub edge_room : 8 * k.places ≤ length edges

-- the sheet's values stand in front of the areas
abbrev pub FlatIn : Sheet → Counts → (fixed cells : List ℕ) (sides : List ℤ) (groups numbers : List ℕ) (edges : List ℤ) → Type 0
FlatIn s k fixed cells sides groups numbers edges =
    Flat s (get_or fixed 0 0) (get_or fixed 1 0) (take k.cells cells) (take (4 * k.obstacles) sides) (query_in k.allow fixed) (limits_read fixed) (take k.groups groups)
    (take (4 * k.places) numbers) (take (8 * k.places) edges)
