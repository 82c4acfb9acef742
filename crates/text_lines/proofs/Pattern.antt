-- A pattern byte by byte: whether it can be read, whether its lines can repeat, and how many numbers it has. Assumes nothing.
use mathlib.Core.Path.{◌≡◌, refl, sym, ap, ◌∙◌}
use mathlib.Core.Bool.{Bool, true, false, ◌&&◌, and-false, and-true}
use mathlib.Core.List.{List, [], ◌∷◌}
use Prim.Native.Nat.{ℕ, ◌+◌, ◌<◌}
use native.Mathlib.Omega.{arith}
use lib.ListN.{length, drop, get_or}
use Rattle.std.proofs.lemmas.List.Recursion.{is_count_by}
use Rattle.std.specs.Prelude.{cond}
use Rattle.std.specs.List.{count_by}
use Rattle.text_forms.specs.Patterns.{Piece, byte, plain, minus, piece, is_number, opens, opens_by, good, good_by, fields, fields_by, repeats}
use Rattle.text_forms.proofs.Walks.{Checking, good_after, next_piece}

-- what a pattern says is what its rest says, after a number or not
good_here : (q : Piece) (p : List ℕ) → good_by q (opens p) (good p) ≡ good_after (is_number q) p
good_here (byte c) p = refl
good_here (plain m) p = refl
good_here minus p = refl

pub check_step : (p : List ℕ) (j : ℕ) (after b : Bool) → j < length p → Checking p after j → (after ≡ true → opens_by (piece (get_or p j 0)) ≡ true) → b ≡ is_number (piece (get_or p j 0))
    → Checking p b (j + 1)
unfolding good
check_step p j after b more w f e = record {
  short = omega arith;
  same = w.same ∙ ap (good_after after) (next_piece p j more) ∙ past after f ∙ good_here (piece (get_or p j 0)) (drop (j + 1) p) ∙ ap (λ (t : Bool). good_after t (drop (j + 1) p)) (sym e);
}
  where
    past : (after : Bool) → (after ≡ true → opens_by (piece (get_or p j 0)) ≡ true) → good_after after (get_or p j 0 ∷ drop (j + 1) p) ≡ good (get_or p j 0 ∷ drop (j + 1) p)
    past false f = refl
    past true f = ap (λ (t : Bool). t && good (get_or p j 0 ∷ drop (j + 1) p)) (f refl)

pub repeat_yes : (p : List ℕ) → 0 < length p → opens_by (piece (get_or p 0 0)) ≡ true → good p ≡ repeats p
unfolding repeats
repeat_yes [] h e = absurd (omega arith)
repeat_yes (c ∷ p) h e = sym (ap (λ (b : Bool). good (c ∷ p) && b) e ∙ and-true (good (c ∷ p)))

pub repeat_no : (p : List ℕ) → 0 < length p → opens_by (piece (get_or p 0 0)) ≡ false → false ≡ repeats p
unfolding repeats
repeat_no [] h e = absurd (omega arith)
repeat_no (c ∷ p) h e = sym (ap (λ (b : Bool). good (c ∷ p) && b) e ∙ and-false (good (c ∷ p)))

-- the numbers counted
count_here : (q : Piece) (n : ℕ) → fields_by q n ≡ cond (is_number q) (1 + n) n
count_here (byte c) n = refl
count_here (plain m) n = omega arith
count_here minus n = omega arith

count_rest : (c : ℕ) (p : List ℕ) → fields (c ∷ p) ≡ cond (is_number (piece c)) (1 + fields p) (fields p)
unfolding fields
count_rest c p = count_here (piece c) (fields p)

count_none : fields [] ≡ 0
unfolding fields
count_none = refl

pub count_fields : (p : List ℕ) → fields p ≡ count_by (λ c. is_number (piece c)) p
count_fields p = is_count_by fields (λ c. is_number (piece c)) count_none count_rest p
