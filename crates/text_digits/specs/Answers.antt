-- What `digits` answers, case by case, and what the lent area then holds. On every answer but a reading the area is as before.
use Rattle.std.specs.Prelude.{◌≡◌, true, List, ◌++◌, ℕ, ◌≤◌, ◌<◌, length, drop, Result, Ok, Err}
use Rattle.text_forms.specs.Forms.{digits}
use Rattle.text_forms.specs.Reading.{GotAt, BadAt, Beyond}
use Rattle.text_digits.specs.declared.Row.{Row}
use Rattle.text_digits.specs.declared.RowError.{RowError}
use Rattle.text_digits.specs.declared.RowError.TheVariants as error

pub record DigitsGot (s : List ℕ) (at : ℕ) (before out : List ℕ) (count next : ℕ) : Type 0 where
  pub values : List ℕ
  pub got : GotAt digits s at values next
  pub counted : count ≡ length values
  pub room : count ≤ length before
  pub area : out ≡ values ++ drop count before

pub record DigitsBad (s : List ℕ) (at : ℕ) (before out : List ℕ) (p : ℕ) : Type 0 where
  pub bad : BadAt digits s at p
  pub area : out ≡ before

pub record DigitsFull (s : List ℕ) (at : ℕ) (before out : List ℕ) : Type 0 where
  pub values : List ℕ
  pub next : ℕ
  pub got : GotAt digits s at values next
  pub short : length before < length values
  pub area : out ≡ before

abbrev pub DigitsBy : List ℕ → ℕ → List ℕ → List ℕ → Result Row RowError → Type 0
DigitsBy s at before out (Ok d) = DigitsGot s at before out d.count d.next
DigitsBy s at before out (Err (error.Wrong p)) = DigitsBad s at before out p
DigitsBy s at before out (Err error.Full) = DigitsFull s at before out
DigitsBy s at before out (Err error.Beyond) = Beyond true s at before out

pub record DigitsRead (s : List ℕ) (at : ℕ) (before out : List ℕ) (r : Result Row RowError) : Type 0 where
  pub answer : DigitsBy s at before out r
