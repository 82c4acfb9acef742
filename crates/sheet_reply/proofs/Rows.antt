-- Which text stands in an area of four bytes, by what has arrived, and what is written where none does, byte by byte.
use Prim.Native.Nat.{ℕ}
use mathlib.Core.Path.{◌≡◌, refl}
use mathlib.Core.Option.{none, some}
use mathlib.Core.List.{List, [], ◌∷◌}
use Rattle.base_model.specs.Answers.{refusal}
use Rattle.input_arrival.specs.declared.Arrival.TheVariants.{Going, Whole, Cut}
use Rattle.text_forms.specs.Forms.{decimal, decimal_by}
use Rattle.text_forms.specs.Patterns.{bytes}
use Rattle.sheet_texts.specs.Texts.{refusal_text}
use Rattle.sheet_reply.specs.Replies.{text_in, AnswerTo}

area : List ℕ
area = 40 ∷ 41 ∷ 10 ∷ 0 ∷ []

texts : text_in (Whole 3) area ∷ text_in (Whole 0) area ∷ text_in (Whole 4) area ∷ text_in (Whole 5) area ∷ text_in (Going 3) area ∷ text_in Cut area ∷ []
    ≡ some (40 ∷ 41 ∷ 10 ∷ []) ∷ some [] ∷ some area ∷ none ∷ none ∷ none ∷ []
unfolding text_in area
texts = refl

refused : AnswerTo none (bytes "(refused 18)\n")
unfolding AnswerTo refusal_text refusal decimal decimal_by
refused = refl
