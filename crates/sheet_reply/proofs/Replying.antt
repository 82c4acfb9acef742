-- What was written is the answer to what arrived: 18 where no whole text stands in the area, otherwise what `sheet_answer::answer` wrote.
use Prim.Native.Nat.{ℕ, ◌≤◌, ◌<◌}
use mathlib.Core.Path.{◌≡◌, refl, sym, ◌∙◌, ap, subst}
use mathlib.Core.Option.{none, some}
use mathlib.Core.List.{List, ◌++◌}
use native.Mathlib.Omega.{arith}
use lib.ListN.{length, length-append, take, drop}
use lib.Seq.{length-take-le}
use borrow.Author.Tests.{le-leb, lt-leb}
use Rattle.input_arrival.specs.declared.Arrival.{Arrival}
use Rattle.input_arrival.specs.declared.Arrival.TheVariants.{Going, Whole, Cut}
use Rattle.base_model.specs.Answers.{refusal}
use Rattle.text_forms.specs.Writing.{Put}
use Rattle.sheet_texts.specs.Parts.{enough}
use Rattle.sheet_texts.specs.Texts.{refusal_text}
use Rattle.sheet_answer.specs.Answers.{WrittenOut, AnsweredBy, Answers}
use Rattle.std.specs.Prelude.{Option, Some}
use Rattle.sheet_texts.proofs.Fronts.{front_18}
use Rattle.sheet_reply.specs.Inner.{InFront}
use Rattle.sheet_reply.specs.Replies.{text_in, AnswerTo, Replies}

-- ---- whether a text stands there
pub no_text : (input : Arrival) (area : List ℕ) → ((n : ℕ) → input ≡ Whole n → ⊥) → text_in input area ≡ none
unfolding text_in
no_text (Going n) area o = refl
no_text Cut area o = refl
no_text (Whole n) area o = absurd (o n refl)

pub beyond : (input : Arrival) (n : ℕ) (area : List ℕ) → input ≡ Whole n → length area < n → text_in input area ≡ none
unfolding text_in
beyond input n area e h = ap (λ (a : Arrival). text_in a area) e ∙ rw (text_in, lt-leb n (length area) h)

there : (input : Arrival) (n : ℕ) (area : List ℕ) → input ≡ Whole n → n ≤ length area → text_in input area ≡ some (take n area)
unfolding text_in
there input n area e h = ap (λ (a : Arrival). text_in a area) e ∙ rw (text_in, le-leb n (length area) h)

-- ---- what was written
in_front : (bytes before out : List ℕ) (n : ℕ) → out ≡ bytes ++ drop (length bytes) before → n ≡ length bytes → InFront n out
in_front bytes before out n e h =
    let l : n ≤ length out = omega (arith, ap length e, length-append bytes (drop (length bytes) before)) in (l, sym (length-take-le n out l))

module _ (input : Arrival) (area before out : List ℕ) (n : ℕ) where
  pub refused : text_in input area ≡ none → enough ≤ length before → Put (refusal_text (refusal 18)) before 0 out n
      → Replies input area before out n × InFront n out
  unfolding AnswerTo
  refused e room p =
      let f = front_18 before out n room p in (
        record { bytes = refusal_text (refusal 18); is = rw e refl; out_is = f.text; ends = f.ends },
        in_front (refusal_text (refusal 18)) before out n f.text f.ends,
      )

  pub answered_whole : (k : ℕ) (r : Option ℕ) → input ≡ Whole k → k ≤ length area → r ≡ Some n → Answers (take k area) before out r
      → Replies input area before out n × InFront n out
  unfolding AnswerTo
  answered_whole k r e h w a =
      let x : WrittenOut (take k area) before out n = subst (λ (y : Option ℕ). AnsweredBy (take k area) before out y) w a.answer in (
        record { bytes = x.bytes; is = rw (there input k area e h) x.is; out_is = x.out_is; ends = x.long },
        in_front x.bytes before out n x.out_is x.long,
      )
