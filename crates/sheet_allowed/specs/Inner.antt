-- Vocabulary of the contracts.
use Rattle.std.specs.Prelude.{ℕ, ◌≡◌, List, map, ℤ, get_or, take, drop}
use Rattle.base_laws.specs.Lists.{flat}
use Rattle.base_model.specs.declared.Bounds.{Bounds}
use Rattle.base_model.specs.declared.Limits.{Limits}
use Rattle.base_model.specs.declared.Query.{Query}
use Rattle.rule_calls.specs.Calls.{Preparation}
use Rattle.call_prepare.specs.Prepare.{preparation}
use Rattle.sheet_form.specs.Sheets.{Sheet}
use Rattle.sheet_rule.specs.Drive.{limits_of, query_of, edges_of}
use Rattle.sheet_allowed.specs.declared.FlatSheet.{FlatSheet}

-- the sheet's values as the calls take them
pub record Flat (s : Sheet) (across down : ℕ) (cells : List ℕ) (obstacles : List ℤ) (query : Query) (limits : Limits) (groups numbers : List ℕ) (edges : List ℤ) : Type 0 where
  pub across_is : across ≡ get_or s.size 0 0
  pub down_is : down ≡ get_or s.size 1 0
  pub cells_are : cells ≡ s.cells
  pub obstacles_are : obstacles ≡ edges_of s.obstacles
  pub query_is : query ≡ query_of s
  pub limits_are : limits ≡ limits_of s
  pub groups_are : groups ≡ flat s.groups
  pub numbers_are : numbers ≡ flat (map (take 4) s.places)
  pub edges_are : edges ≡ edges_of (map (drop 4) s.places)

-- the same of a sheet lent flat
abbrev pub FlatAs : Sheet → FlatSheet → Type 0
FlatAs s f = Flat s f.across f.down f.cells.now f.obstacles.now f.query f.limits f.places.groups.now f.places.numbers.now f.places.edges.now

-- what preparing a mover of it is asked
abbrev pub asked_of : FlatSheet → Bounds → Preparation
asked_of f mover = preparation f.across f.down f.cells.now f.obstacles.now f.query.window f.query.start f.query.end mover
