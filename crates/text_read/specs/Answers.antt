-- What the readers' answers mean, case by case, and what the lent area then holds. On every answer but a reading the area is as before.
use Rattle.std.specs.Prelude.{◌≡◌, Bool, true, false, List, ◌++◌, ℕ, ◌+◌, ◌≤◌, ◌<◌, length, drop, Result, Ok, Err}
use Rattle.base_laws.specs.Lists.{flat}
use Rattle.text_forms.specs.Patterns.{line, good, fields, repeats}
use Rattle.text_forms.specs.Reading.{GotAt, BadAt, Series, Run, Few, Beyond}
use Rattle.text_read.specs.declared.LineError.{LineError}
use Rattle.text_read.specs.declared.LineError.TheVariants as line_error
use Rattle.text_read.specs.declared.RowsError.{RowsError}
use Rattle.text_read.specs.declared.RowsError.TheVariants as rows_error
use Rattle.text_read.specs.declared.Several.{Several}

-- ---- a line by its pattern
-- the pattern can be read, the place is inside and the area has an entry for each number
pub record LineReady (pattern s : List ℕ) (at : ℕ) (before : List ℕ) : Type 0 where
  pub readable : good pattern ≡ true
  pub inside : at ≤ length s
  pub room : fields pattern ≤ length before

-- the line's numbers are the first of the area, the others are as before
pub record LineGot (pattern s : List ℕ) (at : ℕ) (before out : List ℕ) (n : ℕ) : Type 0 where
  pub ready : LineReady pattern s at before
  pub values : List ℕ
  pub got : GotAt (line pattern) s at values n
  pub area : out ≡ values ++ drop (length values) before

pub record LineBad (pattern s : List ℕ) (at : ℕ) (before out : List ℕ) (p : ℕ) : Type 0 where
  pub ready : LineReady pattern s at before
  pub bad : BadAt (line pattern) s at p
  pub area : out ≡ before

pub record Unreadable (ok : Bool) (before out : List ℕ) : Type 0 where
  pub unreadable : ok ≡ false
  pub area : out ≡ before

pub record Short (pattern s : List ℕ) (at : ℕ) (before out : List ℕ) : Type 0 where
  pub readable : good pattern ≡ true
  pub inside : at ≤ length s
  pub short : length before < fields pattern
  pub area : out ≡ before

abbrev pub LineBy : List ℕ → List ℕ → ℕ → List ℕ → List ℕ → Result ℕ LineError → Type 0
LineBy pattern s at before out (Ok n) = LineGot pattern s at before out n
LineBy pattern s at before out (Err (line_error.Wrong p)) = LineBad pattern s at before out p
LineBy pattern s at before out (Err line_error.Beyond) = Beyond (good pattern) s at before out
LineBy pattern s at before out (Err line_error.Pattern) = Unreadable (good pattern) before out
LineBy pattern s at before out (Err line_error.Short) = Short pattern s at before out

pub record LineRead (pattern s : List ℕ) (at : ℕ) (before out : List ℕ) (r : Result ℕ LineError) : Type 0 where
  pub answer : LineBy pattern s at before out r

-- ---- lines by one pattern, as many as the relation R allows
abbrev pub Extent : Type 1
Extent = List (List ℕ) → ℕ → ℕ → Type 0

-- the numbers of the rows are the first of the area, the others are as before
pub record RowsGot (R : Extent) (ok : Bool) (before out : List ℕ) (count used next fault : ℕ) : Type 0 where
  pub readable : ok ≡ true
  pub rows : List (List ℕ)
  pub read : R rows next fault
  pub counted : count ≡ length rows
  pub flat_used : used ≡ length (flat rows)
  pub room : used ≤ length before
  pub area : out ≡ flat rows ++ drop used before

-- the rows that fit stand in the area, and there is one more
pub record RowsFull (ok : Bool) (pattern s : List ℕ) (at : ℕ) (before out : List ℕ) : Type 0 where
  pub readable : ok ≡ true
  pub rows : List (List ℕ)
  pub further : List ℕ
  pub end : ℕ
  pub next : ℕ
  pub chain : Series (line pattern) s at rows end
  pub one_more_lem : GotAt (line pattern) s end further next
  pub room : length (flat rows) ≤ length before
  pub short : length before < length (flat rows) + fields pattern
  pub area : out ≡ flat rows ++ drop (length (flat rows)) before

abbrev pub SeveralBy : Extent → Bool → List ℕ → List ℕ → ℕ → List ℕ → List ℕ → Result Several RowsError → Type 0
SeveralBy R ok pattern s at before out (Ok r) = RowsGot R ok before out r.count r.used r.next r.fault
SeveralBy R ok pattern s at before out (Err rows_error.Full) = RowsFull ok pattern s at before out
SeveralBy R ok pattern s at before out (Err rows_error.Beyond) = Beyond ok s at before out
SeveralBy R ok pattern s at before out (Err rows_error.Pattern) = Unreadable ok before out

-- any number of lines: a longest run
pub record RowsRead (pattern s : List ℕ) (at : ℕ) (before out : List ℕ) (r : Result Several RowsError) : Type 0 where
  pub answer : SeveralBy (Run (line pattern) s at) (repeats pattern) pattern s at before out r

-- one line or none
pub record OptionalRead (pattern s : List ℕ) (at : ℕ) (before out : List ℕ) (r : Result Several RowsError) : Type 0 where
  pub answer : SeveralBy (Few (line pattern) s at) (good pattern) pattern s at before out r
