-- What is written for what has arrived of an input: a text that did not arrive whole is no sheet (RULES 9.5, 9.6).
use Rattle.std.specs.Prelude.{ℕ, ◌≡◌, true, false, List, ◌++◌, leb, length, take, drop}
use Rattle.std.proofs.Math.Option.{Option, none, some}
use Rattle.base_model.specs.Answers.{refusal}
use Rattle.input_arrival.specs.declared.Arrival.{Arrival}
use Rattle.input_arrival.specs.declared.Arrival.TheVariants.{Going, Whole, Cut}
use Rattle.sheet_texts.specs.Texts.{refusal_text}
use Rattle.sheet_rule.specs.Drive.{AnswerOf}

-- the text that arrived whole and stands in front of the area
unfoldable pub text_in : Arrival → (area : List ℕ) → Option (List ℕ)
text_in (Whole n) area = elim (leb n (length area)) [ true ↦ some (take n area) | false ↦ none ]
text_in (Going n) area = none
text_in Cut area = none

-- the answer to a text, and 18 where there is none
unfoldable pub AnswerTo : Option (List ℕ) → List ℕ → Type 0
AnswerTo none bytes = bytes ≡ refusal_text (refusal 18)
AnswerTo (some text) bytes = AnswerOf text bytes

-- the answer stands in front of `out`, up to n, and past it all is as before
pub record Replies (input : Arrival) (area before out : List ℕ) (n : ℕ) : Type 0 where
  pub bytes : List ℕ
  pub is : AnswerTo (text_in input area) bytes
  pub out_is : out ≡ bytes ++ drop (length bytes) before
  pub ends : n ≡ length bytes
