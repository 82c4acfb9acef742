-- The steps of a table counted as its pairs, and whether each step of the original order stands in a table once.
use Prim.Native.Nat.{ℕ, zero, suc, ◌+◌, ◌/◌, ◌≤◌, ◌<◌}
use mathlib.Core.Path.{◌≡◌, refl, sym, ap}
use mathlib.Core.Bool.{Bool, true, false}
use mathlib.Core.List.{List, [], ◌∷◌}
use native.Mathlib.Omega.{arith}
use lib.Dec.{eqb}
use mir.Syntax.{w32}
use mir.Val.{to_z, of_z}
use lib.IntN.{ℤ, pos}
use lib.ListN.{length, get_or}
use Rattle.std.specs.Bool.{one_answer, MatchBool}
use Rattle.std.specs.Cmp.Lexicographic.{pointwise}
use Rattle.std.specs.List.{filter, list_all, AllWithin, HoldsAt}
use Rattle.std.proofs.lemmas.List.Folds.{list_all_at}
use Rattle.std.specs.Ordering.{int_eq}
use Rattle.std.specs.Simd.{first_chunks}
use Rattle.std.proofs.lemmas.Bool.Decides.{Decides-int_eq}
use Rattle.std.proofs.lemmas.Slice.Eq.{slice_eq-Decides}
use borrow.Author.Tests.{eq-eqb, ne_eqb}
use Rattle.base_laws.specs.Lists.{all_of, select}
use Rattle.base_laws.proofs.Ints.{fact_le_z}
use Rattle.base_laws.proofs.Members.{either, both_true}
use Rattle.rule_routes.specs.Edges.{Step, step_by, steps_of, eq_z, same_step, eight_steps, each_once, table_fits, original_steps}
use Rattle.rule_routes.proofs.StepLaws.{same_step_true}

-- ---- two steps are the same where both their parts are
same_self : (a : ℤ) → eq_z a a ≡ true
unfolding eq_z
same_self a = both_true (fact_le_z a a (omega arith)) (fact_le_z a a (omega arith))

pub met : (x y a b : ℤ) → a ≡ x → b ≡ y → same_step (step_by x y) (step_by a b) ≡ true
unfolding same_step step_by
met x y a b e k = rw (e, k) (both_true (same_self x) (same_self y))

-- ---- the test of a pair, as the code writes it
unfoldable pub is_step : (x y : ℤ) → List ℤ → Bool
is_step x y pair = pointwise int_eq pair (x ∷ y ∷ [])

is_step_same : (x y a b : ℤ) → is_step x y (a ∷ b ∷ []) ≡ same_step (step_by x y) (step_by a b)
unfolding is_step step_by
is_step_same x y a b =
    one_answer {P = (a ∷ b ∷ []) ≡ (x ∷ y ∷ [])} _ _
    (slice_eq-Decides Decides-int_eq (a ∷ b ∷ []) (x ∷ y ∷ []) _ refl) (
      (λ t. ap (λ (s : Step). s.dx ∷ s.dy ∷ []) (sym (same_step_true _ _ t))),
      (λ q. met x y a b (ap (λ (l : List ℤ). get_or l 0 (pos 0)) q) (ap (λ (l : List ℤ). get_or l 1 (pos 0)) q)),
    )

pub pairs_counted : (x y : ℤ) (n : ℕ) (l : List ℤ) → n + n ≤ length l → length l ≤ n + n + 1
    → length (filter (is_step x y) (first_chunks 2 n l)) ≡ length (select (same_step (step_by x y)) (steps_of l))
unfolding select steps_of
pairs_counted x y zero [] h k = refl
pairs_counted x y zero (a ∷ []) h k = refl
pairs_counted x y zero (a ∷ b ∷ l) h k = absurd (omega arith)
pairs_counted x y (suc n) [] h k = absurd (omega arith)
pairs_counted x y (suc n) (a ∷ []) h k = absurd (omega arith)
pairs_counted x y (suc n) (a ∷ b ∷ l) h k =
    let rest = pairs_counted x y n l (omega arith) (omega arith) in
    either (same_step (step_by x y) (step_by a b))
    (λ t. rw (is_step_same x y a b, select, t) (ap suc rest))
    (λ f. rw (is_step_same x y a b, select, f) rest)

-- ---- how many steps there are
steps_half : (l : List ℤ) (n : ℕ) → length l ≡ n + n → length (steps_of l) ≡ n
unfolding steps_of
steps_half [] zero e = refl
steps_half [] (suc n) e = absurd (omega arith)
steps_half (x ∷ []) zero e = absurd (omega arith)
steps_half (x ∷ []) (suc n) e = absurd (omega arith)
steps_half (x ∷ y ∷ l) zero e = absurd (omega arith)
steps_half (x ∷ y ∷ l) (suc n) e = ap suc (steps_half l n (omega arith))

-- ---- whether each step of the original order stands in a table once
-- the test of a pair, as the code makes it
unfoldable pub once : (table : List ℤ) → List ℤ → Bool
once table pair =
    eqb (length (select (same_step (step_by (to_z w32 (of_z w32 (get_or pair 0 (pos 0)))) (to_z w32 (of_z w32 (get_or pair 1 (pos 0)))))) (steps_of table))) 1

all_true : {A : Type 0} (test : A → Bool) (xs : List A) → ((k : ℕ) (d : A) → k < length xs → test (get_or xs k d) ≡ true) → list_all test xs ≡ true
all_true test [] h = refl
all_true test (x ∷ xs) h = both_true (h 0 x (omega arith)) (all_true test xs (λ k d j. h (suc k) d (omega arith)))

-- what `all` answers is the test of the list
pub all_is : {A : Type 0} (test : A → Bool) (d : A) (r : Bool) (xs : List A)
    → MatchBool r (AllWithin (λ x. test x ≡ true) xs 0 (length xs)) ((k : ℕ) × (k < length xs) × HoldsAt (λ x. test x ≡ false) xs k) → r ≡ list_all test xs
all_is test d true xs h = sym (all_true test xs (λ k e j. h k e (omega arith) j))
all_is test d false xs h = sym (list_all_at test xs h.0 d h.1 (h.2 d))

module _ (table : List ℤ) where
  -- a row of another length is no table, and one of sixteen is, where each step stands in it once
  pub fits_long : (length table ≡ 16 → ⊥) → table_fits table ≡ false
  unfolding table_fits
  fits_long n = rw (ne_eqb (length table) 16 n)

  pub fits_once : length table ≡ 16 → table_fits table ≡ list_all (once table) (first_chunks 2 (length original_steps / 2) original_steps)
  unfolding table_fits each_once once all_of eight_steps original_steps
  fits_once e = rw (eq-eqb (length table) 16 e, eq-eqb (length (steps_of table)) 8 (steps_half table 8 e))
