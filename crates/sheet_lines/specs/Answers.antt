-- What the readers of a sheet's lines and parts answer, case by case: where their numbers then stand, and what is left of the text.
use Rattle.std.specs.Prelude.{◌≡◌, true, List, [], ◌∷◌, ◌++◌, ℕ, ◌+◌, ◌*◌, ◌≤◌, ◌<◌, length, take, drop, get_or, cond, Option, None, Some}
use Rattle.base_laws.specs.Lists.{flat}
use Rattle.text_forms.specs.Forms.{digits}
use Rattle.text_forms.specs.Patterns.{line, good, fields}
use Rattle.text_forms.specs.Reading.{Stop, GotAt, Series}
use Rattle.text_forms.specs.Rest.{RestSpelled, Only, Absent}
use Rattle.sheet_form.specs.Tails.{places_on, groups_on, allow_on, lines_on, obstacles_on, whole}
use Rattle.sheet_lines.specs.declared.Part.{Part}
use Rattle.sheet_lines.specs.declared.Limits.{Limits}

-- the row's numbers are the area's, from the slot on
pub record Stands (row : List ℕ) (slot : ℕ) (area : List ℕ) : Type 0 where
  pub at : (k : ℕ) → k < length row → get_or area (slot + k) 0 ≡ get_or row k 0

-- the entries before the slot are as before
pub record FrontKept (slot : ℕ) (before out : List ℕ) : Type 0 where
  pub kept : (k : ℕ) → k < slot → get_or out k 0 ≡ get_or before k 0

-- ---- one line
pub record LineRoom (pattern s : List ℕ) (at slot : ℕ) (before : List ℕ) : Type 0 where
  pub readable : good pattern ≡ true
  pub inside : at ≤ length s
  pub room : slot + fields pattern ≤ length before

pub record PlacedLine (pattern s : List ℕ) (at slot : ℕ) (before out : List ℕ) (n : ℕ) : Type 0 where
  pub values : List ℕ
  pub got : GotAt (line pattern) s at values n
  pub stands : Stands values slot out
  pub kept : FrontKept slot before out

abbrev pub PlacedLineBy : (pattern s : List ℕ) (at slot : ℕ) (before out : List ℕ) → Option ℕ → Type 0
PlacedLineBy pattern s at slot before out (Some n) = PlacedLine pattern s at slot before out n
PlacedLineBy pattern s at slot before out None = Absent (line pattern) s at

pub record LineAt (pattern s : List ℕ) (at slot : ℕ) (before out : List ℕ) (r : Option ℕ) : Type 0 where
  pub answer : PlacedLineBy pattern s at slot before out r

-- ---- lines by one pattern
pub record PlacedRows (pattern s : List ℕ) (at : ℕ) (before out : List ℕ) (count next : ℕ) : Type 0 where
  pub rows : List (List ℕ)
  pub chain : Series (line pattern) s at rows next
  pub inside : next ≤ length s
  pub stops : Absent (line pattern) s next
  pub counted : count ≡ length rows
  pub room : fields pattern * count ≤ length before
  pub area : take (fields pattern * count) out ≡ flat rows

-- more than the area holds
pub record RowsOver (pattern s : List ℕ) (at : ℕ) (before : List ℕ) : Type 0 where
  pub rows : List (List ℕ)
  pub further : List ℕ
  pub end : ℕ
  pub next : ℕ
  pub chain : Series (line pattern) s at rows end
  pub one_more_lem : GotAt (line pattern) s end further next
  pub short : length before < fields pattern * length rows + fields pattern

abbrev pub RowsBy : (pattern s : List ℕ) (at : ℕ) (before out : List ℕ) → Option Part → Type 0
RowsBy pattern s at before out (Some p) = PlacedRows pattern s at before out p.count p.next
RowsBy pattern s at before out None = RowsOver pattern s at before

pub record RowsAt (pattern s : List ℕ) (at : ℕ) (before out : List ℕ) (r : Option Part) : Type 0 where
  pub answer : RowsBy pattern s at before out r

-- ---- the cells
pub record CellsGot (s : List ℕ) (at : ℕ) (out : List ℕ) (count next : ℕ) : Type 0 where
  pub values : List ℕ
  pub got : GotAt digits s at values next
  pub counted : count ≡ length values
  pub few : count ≤ 64
  pub area : take count out ≡ values

-- no digit stands there, or more than 64 do
pub record NoCells (s : List ℕ) (at : ℕ) : Type 0 where
  pub over : (v x : List ℕ) → digits.fits v → Stop (x ++ (256 ∷ [])) → digits.spell v ++ x ≡ drop at s → 64 < length v

abbrev pub CellsBy : (s : List ℕ) (at : ℕ) (out : List ℕ) → Option Part → Type 0
CellsBy s at out (Some p) = CellsGot s at out p.count p.next
CellsBy s at out None = NoCells s at

pub record CellsAt (s : List ℕ) (at : ℕ) (out : List ℕ) (r : Option Part) : Type 0 where
  pub answer : CellsBy s at out r

-- ---- the map
pub record MapGot (s fixed cells : List ℕ) (count next : ℕ) : Type 0 where
  pub size : List ℕ
  pub values : List ℕ
  pub left : RestSpelled s whole 0 obstacles_on next (λ b. (size, (values, ([], b))))
  pub wide : length size ≡ 2
  pub stands : Stands size 0 fixed
  pub counted : count ≡ length values
  pub few : count ≤ 64
  pub area : take count cells ≡ values

abbrev pub MapBy : (s fixed cells : List ℕ) → Option Part → Type 0
MapBy s fixed cells (Some p) = MapGot s fixed cells p.count p.next
MapBy s fixed cells None = Only s whole 0 (λ w. 64 < length w.1.0)

pub record MapRead (s fixed cells : List ℕ) (r : Option Part) : Type 0 where
  pub answer : MapBy s fixed cells r

-- ---- window, ends and block
pub record LinesGot (s : List ℕ) (at : ℕ) (before out : List ℕ) (next : ℕ) : Type 0 where
  pub window : List ℕ
  pub ends : List ℕ
  pub block : List ℕ
  pub left : RestSpelled s lines_on at allow_on next (λ b. (window, (ends, (block, b))))
  pub window_wide : length window ≡ 4
  pub ends_wide : length ends ≡ 4
  pub block_wide : length block ≡ 4
  pub window_stands : Stands window 2 out
  pub ends_stands : Stands ends 6 out
  pub block_stands : Stands block 10 out
  pub kept : FrontKept 2 before out

abbrev pub LinesBy : (s : List ℕ) (at : ℕ) (before out : List ℕ) → Option ℕ → Type 0
LinesBy s at before out (Some next) = LinesGot s at before out next
LinesBy s at before out None = Only s lines_on at (λ w. ⊥)

pub record LinesRead (s : List ℕ) (at : ℕ) (before out : List ℕ) (r : Option ℕ) : Type 0 where
  pub answer : LinesBy s at before out r

-- ---- allow and limits
pub record LimitsGot (s : List ℕ) (at : ℕ) (before out : List ℕ) (count next : ℕ) : Type 0 where
  pub allow : List (List ℕ)
  pub limits : List ℕ
  pub left : RestSpelled s allow_on at groups_on next (λ b. (allow, (limits, b)))
  pub counted : count ≡ length allow
  pub allow_short : length (get_or allow 0 []) ≤ 4
  pub allow_stands : Stands (get_or allow 0 []) 14 out
  pub limits_stands : Stands limits 18 out
  pub limits_wide : length limits ≡ 2
  pub kept : FrontKept 14 before out

abbrev pub LimitsBy : (s : List ℕ) (at : ℕ) (before out : List ℕ) → Option Limits → Type 0
LimitsBy s at before out (Some l) = LimitsGot s at before out (cond l.allow 1 0) l.next
LimitsBy s at before out None = Only s allow_on at (λ w. ⊥)

pub record LimitsRead (s : List ℕ) (at : ℕ) (before out : List ℕ) (r : Option Limits) : Type 0 where
  pub answer : LimitsBy s at before out r

-- ---- the groups
pub record GroupsGot (s : List ℕ) (at : ℕ) (before after out : List ℕ) (count next : ℕ) : Type 0 where
  pub rows : List (List ℕ)
  pub left : RestSpelled s groups_on at places_on next (λ b. ([], (rows, ([], b))))
  pub counted : count ≡ length rows
  pub few : count ≤ 4096
  pub area : take count out ≡ flat rows
  pub kept : FrontKept 20 before after

abbrev pub GroupsBy : (s : List ℕ) (at : ℕ) (before after out : List ℕ) → Option Part → Type 0
GroupsBy s at before after out (Some p) = GroupsGot s at before after out p.count p.next
GroupsBy s at before after out None = Only s groups_on at (λ w. ⊥)

pub record GroupsRead (s : List ℕ) (at : ℕ) (before after out : List ℕ) (r : Option Part) : Type 0 where
  pub answer : GroupsBy s at before after out r
