-- Tests over lists, taken one element at a time, as loops do; and tests that agree on a list's members.
use Prim.Native.Nat.{ℕ, zero, suc, ◌<◌}
use mathlib.Core.Path.{◌≡◌, refl, ap, ap₂, ◌∙◌}
use mathlib.Core.Bool.{Bool, true, false, ◌&&◌, ◌||◌, or-false}
use mathlib.Core.List.{List, [], ◌∷◌, ◌++◌, append-nil, Memᴰ}
use native.Mathlib.Nat.{not-suc-le-zero, le_of_suc-le-suc}
use lib.ListN.{length, get_or, take}
use lib.Seq.{take-suc}
use Rattle.base_laws.specs.Lists.{any_of, all_of, select}
use Rattle.base_laws.proofs.Tests.{any_append, filter_append}

module _ {A : Type 0} (f : A → Bool) where
  -- ---- any
  pub any_snoc : (s : List A) (x : A) → any_of f (s ++ (x ∷ [])) ≡ (any_of f s || f x)
  unfolding any_of
  any_snoc s x = any_append f s (x ∷ []) ∙ ap (λ (b : Bool). any_of f s || b) (or-false (f x))

  pub any_more : (s : List A) (j : ℕ) (d : A) → j < length s → f (get_or s j d) ≡ false → any_of f (take j s) ≡ false → any_of f (take (suc j) s) ≡ false
  any_more s j d h e k = ap (any_of f) (take-suc s j d h) ∙ any_snoc (take j s) (get_or s j d) ∙ ap₂ ◌||◌ k e

  pub any_hit : (s : List A) (j : ℕ) (d : A) → j < length s → f (get_or s j d) ≡ true → any_of f s ≡ true
  unfolding any_of
  any_hit [] j d l e = absurd (not-suc-le-zero l)
  any_hit (x ∷ s) zero d l e = rw e
  any_hit (x ∷ s) (suc j) d l e = either_true (f x) (any_hit s j d (le_of_suc-le-suc l) e)
    where
      either_true : (a : Bool) {b : Bool} → b ≡ true → (a || b) ≡ true
      either_true true h = refl
      either_true false h = h

  -- ---- filter
  pub filter_hit : (s : List A) (x : A) → f x ≡ true → select f (s ++ (x ∷ [])) ≡ select f s ++ (x ∷ [])
  unfolding select
  filter_hit s x e = filter_append f s (x ∷ []) ∙ rw (select, e)

  pub filter_miss : (s : List A) (x : A) → f x ≡ false → select f (s ++ (x ∷ [])) ≡ select f s
  unfolding select
  filter_miss s x e = filter_append f s (x ∷ []) ∙ rw (select, e) (append-nil (select f s))

  pub take_hit : (s : List A) (j : ℕ) (d : A) → j < length s → f (get_or s j d) ≡ true → select f (take (suc j) s) ≡ select f (take j s) ++ (get_or s j d ∷ [])
  take_hit s j d h e = ap (select f) (take-suc s j d h) ∙ filter_hit (take j s) (get_or s j d) e

  pub take_miss : (s : List A) (j : ℕ) (d : A) → j < length s → f (get_or s j d) ≡ false → select f (take (suc j) s) ≡ select f (take j s)
  take_miss s j d h e = ap (select f) (take-suc s j d h) ∙ filter_miss (take j s) (get_or s j d) e

-- ---- tests that agree
module _ {A : Type 0} (f g : A → Bool) where
  pub all_same : (l : List A) → ((x : A) → Memᴰ x l → f x ≡ g x) → all_of f l ≡ all_of g l
  unfolding all_of
  all_same [] h = refl
  all_same (x ∷ l) h = ap₂ ◌&&◌ (h x (Memᴰ.head refl)) (all_same l (λ y m. h y (Memᴰ.tail m)))

  pub filter_same : (l : List A) → ((x : A) → Memᴰ x l → f x ≡ g x) → select f l ≡ select g l
  unfolding select
  filter_same [] h = refl
  filter_same (x ∷ l) h =
      ap₂ (λ (b : Bool) (r : List A). elim b [ true ↦ x ∷ r | false ↦ r ]) (h x (Memᴰ.head refl)) (filter_same l (λ y m. h y (Memᴰ.tail m)))
