-- Tests over lists, read as facts about their members.
use Prim.Native.Nat.{ℕ, zero, suc, ◌+◌, ◌≤◌, ◌<◌}
use mathlib.Core.Path.{◌≡◌, refl, sym, ◌∙◌, ap}
use mathlib.Core.Bool.{Bool, true, false, ◌&&◌, ◌||◌, true≢false, false≢true}
use mathlib.Core.Logic.{⊎_elim}
use mathlib.Core.Option.{Option, none, some}
use mathlib.Core.List.{
  List,
  [],
  ◌∷◌,
  reverse,
  reverse-cons,
  Memᴰ,
}
use native.Mathlib.Nat.{not-suc-le-zero, le_of_suc-le-suc}
use native.Mathlib.Decide.{ℕ_discrete}
use native.Mathlib.Omega.{arith}
use lib.ListN.{length, get_or}
use Rattle.base_laws.specs.Lists.{any_of, all_of, select, flat, is_some, span, below}

-- either way a test goes
pub either {ℓ} : {G : Type ℓ} (b : Bool) → (b ≡ true → G) → (b ≡ false → G) → G
either true f g = f refl
either false f g = g refl

pub both : (a b : Bool) → a && b ≡ true → (a ≡ true) × (b ≡ true)
both true b e = (refl, e)
both false b e = absurd (false≢true e)

pub both_true : {a b : Bool} → a ≡ true → b ≡ true → a && b ≡ true
both_true {a} {b} p q = ap (λ (x : Bool). x && b) p ∙ q

pub neither : (a b : Bool) → a || b ≡ false → (a ≡ false) × (b ≡ false)
neither true b e = absurd (true≢false e)
neither false b e = (refl, e)

-- two tests of which each passes where the other does
pub same_truth : (a b : Bool) → (a ≡ true → b ≡ true) → (b ≡ true → a ≡ true) → a ≡ b
same_truth true b there back = sym (there refl)
same_truth false true there back = back refl
same_truth false false there back = refl

module _ {A : Type 0} (f : A → Bool) where
  pub any_member : (xs : List A) → any_of f xs ≡ true → (x : A) × Memᴰ x xs × (f x ≡ true)
  unfolding any_of
  any_member [] e = absurd (false≢true e)
  any_member (x ∷ xs) e =
      either (f x)
      (λ t. (x, mathlib.Core.List.Memᴰ.head refl, t))
      (λ n. let r = any_member xs (rw n at e) in (r.0, mathlib.Core.List.Memᴰ.tail r.1, r.2))

  pub none_member : (xs : List A) → any_of f xs ≡ false → (x : A) → Memᴰ x xs → f x ≡ false
  unfolding any_of
  none_member [] e x m = absurd (mathlib.Core.List.Memᴰ.not-nil m)
  none_member (y ∷ xs) e x m =
      let h = neither (f y) (any_of f xs) e in
      ⊎_elim (λ (q : x ≡ y). ap f q ∙ h.0) (λ (n : Memᴰ x xs). none_member xs h.1 x n) (mathlib.Core.List.Memᴰ.cases_cons m)

  pub all_member : (xs : List A) → all_of f xs ≡ true → (x : A) → Memᴰ x xs → f x ≡ true
  unfolding all_of
  all_member [] e x m = absurd (mathlib.Core.List.Memᴰ.not-nil m)
  all_member (y ∷ xs) e x m =
      let h = both (f y) (all_of f xs) e in
      ⊎_elim (λ (q : x ≡ y). ap f q ∙ h.0) (λ (n : Memᴰ x xs). all_member xs h.1 x n) (mathlib.Core.List.Memᴰ.cases_cons m)

  pub all_true : (xs : List A) → ((x : A) → Memᴰ x xs → f x ≡ true) → all_of f xs ≡ true
  unfolding all_of
  all_true [] h = refl
  all_true (x ∷ xs) h = both_true (h x (mathlib.Core.List.Memᴰ.head refl)) (all_true xs (λ y m. h y (mathlib.Core.List.Memᴰ.tail m)))

  pub filter_in : (xs : List A) (x : A) → Memᴰ x xs → f x ≡ true → Memᴰ x (select f xs)
  unfolding select
  filter_in [] x m e = absurd (mathlib.Core.List.Memᴰ.not-nil m)
  filter_in (y ∷ xs) x m e =
      either (f y)
      (λ t. rw (select, t) (⊎_elim (λ (q : x ≡ y). mathlib.Core.List.Memᴰ.head q) (λ (n : Memᴰ x xs). mathlib.Core.List.Memᴰ.tail (filter_in xs x n e)) (mathlib.Core.List.Memᴰ.cases_cons m)))
      (λ n. rw (select, n) (⊎_elim (λ (q : x ≡ y). absurd (true≢false (sym e ∙ ap f q ∙ n))) (λ (k : Memᴰ x xs). filter_in xs x k e) (mathlib.Core.List.Memᴰ.cases_cons m)))

  pub filter_out : (xs : List A) (x : A) → Memᴰ x (select f xs) → Memᴰ x xs × (f x ≡ true)
  unfolding select
  filter_out [] x m = absurd (mathlib.Core.List.Memᴰ.not-nil m)
  filter_out (y ∷ xs) x m =
      let later : Memᴰ x (select f xs) → Memᴰ x (y ∷ xs) × (f x ≡ true) =
      λ n. let r = filter_out xs x n in (mathlib.Core.List.Memᴰ.tail r.0, r.1)
      in
      either (f y)
      (λ t. ⊎_elim (λ (q : x ≡ y). (mathlib.Core.List.Memᴰ.head q, ap f q ∙ t)) later (mathlib.Core.List.Memᴰ.cases_cons (rw (select, t) at m)))
      (λ n. later (rw (select, n) at m))

module _ {A : Type 0} where
  pub concat_in : (ls : List (List A)) (l : List A) (x : A) → Memᴰ l ls → Memᴰ x l → Memᴰ x (flat ls)
  unfolding flat
  concat_in [] l x m n = absurd (mathlib.Core.List.Memᴰ.not-nil m)
  concat_in (k ∷ ls) l x m n =
      ⊎_elim
      (λ (q : l ≡ k). mathlib.Core.List.Memᴰ.append_left (flat ls) (rw q at n))
      (λ (m' : Memᴰ l ls). mathlib.Core.List.Memᴰ.append_right k (concat_in ls l x m' n))
      (mathlib.Core.List.Memᴰ.cases_cons m)

  pub concat_out : (ls : List (List A)) (x : A) → Memᴰ x (flat ls) → (l : List A) × Memᴰ l ls × Memᴰ x l
  unfolding flat
  concat_out [] x m = absurd (mathlib.Core.List.Memᴰ.not-nil m)
  concat_out (k ∷ ls) x m =
      ⊎_elim
      (λ (n : Memᴰ x k). (k, mathlib.Core.List.Memᴰ.head refl, n))
      (λ (n : Memᴰ x (flat ls)). let r = concat_out ls x n in (r.0, mathlib.Core.List.Memᴰ.tail r.1, r.2))
      (mathlib.Core.List.Memᴰ.append_cases k m)

  pub reverse_member : (l : List A) {x : A} → Memᴰ x (reverse l) → Memᴰ x l
  reverse_member [] m = m
  reverse_member (y ∷ l) {x} m =
      ⊎_elim
      (λ (n : Memᴰ x (reverse l)). mathlib.Core.List.Memᴰ.tail (reverse_member l n))
      (λ (n : Memᴰ x (y ∷ [])). mathlib.Core.List.Memᴰ.head (mathlib.Core.List.Memᴰ.eq_of_singleton n))
      (mathlib.Core.List.Memᴰ.append_cases (reverse l) (rw reverse-cons at m))

  pub is_some_true : (o : Option A) → is_some o ≡ true → (a : A) × (o ≡ some a)
  unfolding is_some
  is_some_true none e = absurd (false≢true e)
  is_some_true (some a) e = (a, refl)

  pub get_d_member : (l : List A) (k : ℕ) (d : A) → k < length l → Memᴰ (get_or l k d) l
  get_d_member [] k d h = absurd (not-suc-le-zero h)
  get_d_member (x ∷ l) zero d h = mathlib.Core.List.Memᴰ.head refl
  get_d_member (x ∷ l) (suc k) d h = mathlib.Core.List.Memᴰ.tail (get_d_member l k d (le_of_suc-le-suc h))

pub length_span : (k n : ℕ) → length (span k n) ≡ n
unfolding span
length_span k zero = refl
length_span k (suc n) = ap suc (length_span (suc k) n)

pub span_in : (k n i : ℕ) → k ≤ i → i < k + n → Memᴰ i (span k n)
unfolding span
span_in k zero i h l = absurd (omega arith)
span_in k (suc n) i h l = go (ℕ_discrete i k) (span_in (suc k) n i)
  where
    go : Dec (i ≡ k) → (suc k ≤ i → i < suc k + n → Memᴰ i (span (suc k) n)) → Memᴰ i (k ∷ span (suc k) n)
    go (yes e) later = mathlib.Core.List.Memᴰ.head e
    go (no n) later = let ne : i ≡ k → ⊥ = n in mathlib.Core.List.Memᴰ.tail (later (omega arith) (omega arith))

pub below_in : (n i : ℕ) → i < n → Memᴰ i (below n)
unfolding below
below_in n i h = span_in 0 n i (omega arith) (omega arith)
