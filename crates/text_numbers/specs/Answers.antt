-- What the readers of numbers answer, case by case.
use Rattle.std.specs.Prelude.{ℕ, ◌<◌, List, length, Result, Ok, Err}
use Rattle.text_forms.specs.Forms.{Form}
use Rattle.text_forms.specs.Reading.{GotAt, BadAt, Out, got, bad}
use Rattle.text_numbers.specs.declared.Taken.{Taken}
use Rattle.text_numbers.specs.declared.Fault.{Fault}
use Rattle.text_numbers.specs.declared.Fault.TheVariants as fault

-- a number by its form
abbrev pub NumberBy : Form ℕ → List ℕ → ℕ → Result Taken Fault → Type 0
NumberBy f s at (Ok t) = GotAt f s at t.value t.next
NumberBy f s at (Err (fault.Wrong p)) = BadAt f s at p
NumberBy f s at (Err fault.Beyond) = length s < at

pub record NumberRead (f : Form ℕ) (s : List ℕ) (at : ℕ) (r : Result Taken Fault) : Type 0 where
  pub answer : NumberBy f s at r

-- a place inside the text
abbrev pub step_of : Result Taken ℕ → Out ℕ
step_of (Ok t) = got t.value t.next
step_of (Err p) = bad p
