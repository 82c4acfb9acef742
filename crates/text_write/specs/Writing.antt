-- What writing leaves: the spelling of a value in range stands in the area from a place on and all else is as before; or nothing was
-- written, because it has no room or the value is not in range.
use Rattle.std.specs.Prelude.{◌≡◌, List, ℕ, ◌+◌, ◌≤◌, ◌<◌, length, Result, Ok, Err}
use Rattle.text_forms.specs.Forms.{Form}
use Rattle.text_forms.specs.Writing.{Put}
use Rattle.text_write.specs.declared.Unwritten.{Unwritten}
use Rattle.text_write.specs.declared.Unwritten.TheVariants.{NoRoom, Values}

pub record Fitted {A : Type 0} (f : Form A) (a : A) (before : List ℕ) (at : ℕ) (out : List ℕ) (n : ℕ) : Type 0 where
  pub fits : f.fits a
  pub room : at + length (f.spell a) ≤ length before
  pub put : Put (f.spell a) before at out n

pub record Crowded {A : Type 0} (f : Form A) (a : A) (before : List ℕ) (at : ℕ) (out : List ℕ) : Type 0 where
  pub fits : f.fits a
  pub long : length before < at + length (f.spell a)
  pub area : out ≡ before

pub record Refused {A : Type 0} (f : Form A) (a : A) (before out : List ℕ) : Type 0 where
  pub wrong : f.fits a → ⊥
  pub area : out ≡ before

abbrev pub WrittenBy : {A : Type 0} → Form A → A → List ℕ → ℕ → List ℕ → Result ℕ Unwritten → Type 0
WrittenBy f a before at out (Ok n) = Fitted f a before at out n
WrittenBy f a before at out (Err NoRoom) = Crowded f a before at out
WrittenBy f a before at out (Err Values) = Refused f a before out

-- writing the value a of the form f
pub record Writes {A : Type 0} (f : Form A) (a : A) (before : List ℕ) (at : ℕ) (out : List ℕ) (r : Result ℕ Unwritten) : Type 0 where
  pub answer : WrittenBy f a before at out r
