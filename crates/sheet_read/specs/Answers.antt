-- What `read_sheet` answers, case by case, and what the lent areas then hold.
use Rattle.std.specs.Prelude.{◌≡◌, ◌⊎◌, List, [], ℕ, ◌*◌, ◌≤◌, ◌<◌, length, take, get_or, cond, Option, None, Some}
use Rattle.base_laws.specs.Lists.{flat}
use Rattle.sheet_form.specs.Sheets.{Sheet, sheet}
use Rattle.sheet_lines.specs.Answers.{Stands}
use Rattle.sheet_read.specs.declared.Counts.{Counts}

-- the text is short, and the areas are those of the largest sheet
pub record SheetLent (text fixed cells obstacles groups places : List ℕ) : Type 0 where
  pub text_short : length text ≤ 8192
  pub fixed_room : length fixed ≡ 20
  pub cell_room : length cells ≡ 64
  pub obstacle_room : length obstacles ≡ 128
  pub group_room : length groups ≡ 4096
  pub place_room : length places ≡ 768

-- the areas begin with the sheet's numbers
pub record SheetHeld (s : Sheet) (k : Counts) (fixed cells obstacles groups places : List ℕ) : Type 0 where
  pub cell_count : k.cells ≡ length s.cells
  pub obstacle_count : k.obstacles ≡ length s.obstacles
  pub allow_count : cond k.allow 1 0 ≡ length s.allow
  pub group_count : k.groups ≡ length s.groups
  pub place_count : k.places ≡ length s.places
  pub few_cells : k.cells ≤ 64
  pub few_obstacles : k.obstacles ≤ 32
  pub few_groups : k.groups ≤ 4096
  pub few_places : k.places ≤ 64
  pub size_stands : Stands s.size 0 fixed
  pub window_stands : Stands s.window 2 fixed
  pub ends_stands : Stands s.ends 6 fixed
  pub block_stands : Stands s.block 10 fixed
  -- where there is none, the row is empty
  pub allow_stands : Stands (get_or s.allow 0 []) 14 fixed
  pub limits_stands : Stands s.limits 18 fixed
  pub cell_area : take k.cells cells ≡ s.cells
  pub obstacle_area : take (4 * k.obstacles) obstacles ≡ flat s.obstacles
  pub group_area : take k.groups groups ≡ flat s.groups
  pub place_area : take (12 * k.places) places ≡ flat s.places

-- more lines or cells than the program takes
abbrev pub Over : Sheet → Type 0
Over s = (64 < length s.cells) ⊎ ((32 < length s.obstacles) ⊎ (64 < length s.places))

pub record SheetGot (text : List ℕ) (k : Counts) (fixed cells obstacles groups places : List ℕ) : Type 0 where
  pub value : Sheet
  pub fits : sheet.fits value
  pub spelled : sheet.spell value ≡ text
  pub held : SheetHeld value k fixed cells obstacles groups places

pub record SheetNot (text : List ℕ) : Type 0 where
  pub over : (s : Sheet) → sheet.fits s → sheet.spell s ≡ text → Over s

abbrev pub SheetBy : (text fixed cells obstacles groups places : List ℕ) → Option Counts → Type 0
SheetBy text fixed cells obstacles groups places (Some k) = SheetGot text k fixed cells obstacles groups places
SheetBy text fixed cells obstacles groups places None = SheetNot text

pub record SheetRead (text fixed cells obstacles groups places : List ℕ) (r : Option Counts) : Type 0 where
  pub answer : SheetBy text fixed cells obstacles groups places r
