-- What is written from the first byte on stands in front of the area; a refusal's text has at most 64 bytes, so it fits. Assumes nothing.
use mathlib.Core.Path.{◌≡◌, ap, ◌∙◌}
use mathlib.Core.List.{List, ◌++◌}
use Prim.Native.Nat.{ℕ, ◌+◌, ◌≤◌, ◌<◌}
use native.Mathlib.Omega.{arith}
use lib.ListN.{length, length-append, drop}
use lib.Seq.{sets-eq}
use Rattle.base_model.specs.Answers.{Said, refusal, said_of}
use Rattle.base_model.specs.declared.Refusal.{Refusal}
use Rattle.base_model.specs.declared.Refusal.TheVariants.{MapInvalid, WindowInvalid, EndOutside, BoundTooLarge, ObstacleInvalid, AreaTooShort, StartBlocked, EndBlocked, NoRoute}
use Rattle.base_model.specs.declared.Refusal.TheVariants.{GroupsInvalid, StateLimitInvalid, ResultLimitInvalid, TooManyPlacements, PlacementInvalid}
use Rattle.base_model.specs.declared.Refusal.TheVariants.{RectangleEmpty, FootprintInvalid, RecordInvalid, SelectionInvalid, StepsInvalid, CountOutOfRange, SiteInvalid}
use Rattle.text_forms.specs.Forms.{decimal}
use Rattle.text_forms.specs.Patterns.{bytes}
use Rattle.text_forms.specs.Writing.{Put}
use Rattle.sheet_texts.specs.Texts.{refusal_text}
use Rattle.sheet_texts.specs.Parts.{enough, Front}
use Rattle.sheet_texts.proofs.Lengths.{word_digits}

pub in_front : (w before out : List ℕ) (n : ℕ) → length w ≤ length before → Put w before 0 out n → Front w before out n
in_front w before out n room h = record {
  text = (let z : 0 + length w ≡ length w = omega arith in h.text ∙ sets-eq w before 0 (omega arith) ∙ ap (λ (k : ℕ). w ++ drop k before) z);
  ends = (let e : n ≡ 0 + length w = h.ends in omega arith);
}

pub said_short : (r : Said) → r.number < 4294967296 → length (refusal_text r) ≤ 64
unfolding refusal_text
said_short r le =
    let d : List ℕ = decimal r.number in
    omega (arith, length-append (bytes "(refused ") (d ++ bytes ")\n"), length-append d (bytes ")\n"), word_digits r.number le)

said_small : (r : Refusal) → (said_of r).number < 4294967296
unfolding said_of refusal
said_small MapInvalid = omega arith
said_small WindowInvalid = omega arith
said_small EndOutside = omega arith
said_small BoundTooLarge = omega arith
said_small ObstacleInvalid = omega arith
said_small AreaTooShort = omega arith
said_small StartBlocked = omega arith
said_small EndBlocked = omega arith
said_small NoRoute = omega arith
said_small GroupsInvalid = omega arith
said_small StateLimitInvalid = omega arith
said_small ResultLimitInvalid = omega arith
said_small TooManyPlacements = omega arith
said_small (PlacementInvalid i) = omega arith
said_small RectangleEmpty = omega arith
said_small FootprintInvalid = omega arith
said_small RecordInvalid = omega arith
said_small SelectionInvalid = omega arith
said_small StepsInvalid = omega arith
said_small CountOutOfRange = omega arith
said_small SiteInvalid = omega arith

pub refusal_short : (r : Refusal) → length (refusal_text (said_of r)) ≤ 64
refusal_short r = said_short (said_of r) (said_small r)

pub front_18 : (before out : List ℕ) (n : ℕ) → enough ≤ length before → Put (refusal_text (refusal 18)) before 0 out n → Front (refusal_text (refusal 18)) before out n
unfolding refusal
front_18 before out n room = in_front (refusal_text (refusal 18)) before out n (omega (arith, said_short (refusal 18) (omega arith)))
