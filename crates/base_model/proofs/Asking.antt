-- What it means that every check passes, and that the first that fails answers.
use mathlib.Core.Path.{◌≡◌, refl, sym}
use mathlib.Core.Bool.{Bool, true, false, true≢false}
use mathlib.Core.Option.{Option, none, some, none-ne-some}
use mathlib.Core.List.{List, ◌∷◌}
use Prim.Native.Nat.{ℕ}
use Rattle.base_model.specs.Answers.{Said, refusal, ask, first}

-- a check passes where its condition holds
pub ask_passes : (n : ℕ) (b : Bool) → ask n b ≡ none → b ≡ true
unfolding ask
ask_passes n true e = refl
ask_passes n false e = absurd (none-ne-some (refusal n) (sym e))

-- all checks pass: the first one, and the others
pub first_passes : (c : Option Said) (cs : List (Option Said)) → first (c ∷ cs) ≡ none → (c ≡ none) × (first cs ≡ none)
unfolding first
first_passes none cs e = (refl, e)
first_passes (some r) cs e = absurd (none-ne-some r (sym e))

-- the condition holds: the others decide; it does not: the check answers
pub first_holds : (n : ℕ) (b : Bool) (cs : List (Option Said)) → b ≡ true → first (ask n b ∷ cs) ≡ first cs
unfolding first ask
first_holds n true cs e = refl
first_holds n false cs e = absurd (true≢false (sym e))

pub first_fails : (n : ℕ) (b : Bool) (cs : List (Option Said)) → b ≡ false → first (ask n b ∷ cs) ≡ some (refusal n)
unfolding first ask
first_fails n true cs e = absurd (true≢false e)
first_fails n false cs e = refl
