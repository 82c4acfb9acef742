-- What walking a line finds: that it stands there or where it is at fault, and its numbers in the lent area.
use Rattle.std.specs.Prelude.{◌≡◌, List, ◌++◌, ℕ, length, drop, Result, Ok, Err}
use Rattle.text_forms.specs.Patterns.{line}
use Rattle.text_forms.specs.Reading.{GotAt, BadAt}

-- a line that stands there, or the fault
pub record LinePass (pattern s : List ℕ) (at n : ℕ) : Type 0 where
  pub values : List ℕ
  pub got : GotAt (line pattern) s at values n

abbrev pub PassBy : List ℕ → List ℕ → ℕ → Result ℕ ℕ → Type 0
PassBy pattern s at (Ok n) = LinePass pattern s at n
PassBy pattern s at (Err p) = BadAt (line pattern) s at p

pub record PassRead (pattern s : List ℕ) (at : ℕ) (r : Result ℕ ℕ) : Type 0 where
  pub answer : PassBy pattern s at r

-- where a line stands, its numbers go to the front of the area
pub record Stored (pattern s : List ℕ) (at : ℕ) (before out : List ℕ) : Type 0 where
  pub long : length out ≡ length before
  pub area : (values : List ℕ) (n : ℕ) → GotAt (line pattern) s at values n → out ≡ values ++ drop (length values) before
