-- Further laws of tests over lists, of rows of numbers and of sums.
use Prim.Native.Nat.{ℕ, zero, suc, ◌+◌, ◌≤◌, ◌<◌}
use mathlib.Core.Path.{◌≡◌, refl, sym, ◌∙◌, ap}
use mathlib.Core.Bool.{Bool, true, false, true≢false}
use mathlib.Core.Logic.{⊎_elim}
use mathlib.Core.List.Memᴰ
use mathlib.Core.List.{List, [], ◌∷◌, ◌++◌, map, Memᴰ}
use native.Mathlib.Omega.{arith}
use lib.Dec.{ltb}
use lib.ListN.{length, length-append, get_or}
use borrow.Author.Tests.{lt-ltb}
use Rattle.base_laws.specs.Lists.{any_of, select, span, below, total, ascends}
use Rattle.base_laws.proofs.Members.{either, both_true, none_member, all_true, length_span}

module _ {A : Type 0} (f : A → Bool) where
  pub any_true : (xs : List A) (x : A) → Memᴰ x xs → f x ≡ true → any_of f xs ≡ true
  any_true xs x m t = either (any_of f xs) (λ e. e) (λ e. absurd (true≢false (sym t ∙ none_member f xs e x m)))

  pub any_false : (xs : List A) → ((x : A) → Memᴰ x xs → f x ≡ false) → any_of f xs ≡ false
  unfolding any_of
  any_false [] h = refl
  any_false (x ∷ xs) h = rw (h x (Memᴰ.head refl)) (any_false xs (λ y m. h y (Memᴰ.tail m)))

  pub length_filter : (xs : List A) → length (select f xs) ≤ length xs
  unfolding select
  length_filter [] = omega arith
  length_filter (x ∷ xs) =
      let h = length_filter xs in
      either (f x) (λ t. rw (select, t) (omega arith)) (λ e. rw (select, e) (omega arith))

pub length_snoc : {A : Type 0} (xs : List A) (x : A) → length (xs ++ x ∷ []) ≡ suc (length xs)
length_snoc xs x = omega (arith, length-append xs (x ∷ []))

pub length_below : (n : ℕ) → length (below n) ≡ n
unfolding below
length_below n = length_span 0 n

pub span_out : (k n i : ℕ) → Memᴰ i (span k n) → (k ≤ i) × (i < k + n)
unfolding span
span_out k zero i m = absurd (Memᴰ.not-nil m)
span_out k (suc n) i m =
    ⊎_elim (λ (e : i ≡ k). (omega arith, omega arith)) (λ (h : Memᴰ i (span (suc k) n)). let r = span_out (suc k) n i h in (omega arith, omega arith)) (Memᴰ.cases_cons m)

pub below_out : (n i : ℕ) → Memᴰ i (below n) → i < n
unfolding below
below_out n i m = let r = span_out 0 n i m in omega arith

pub span_ascends : (k n : ℕ) → ascends (span k n) ≡ true
unfolding span ascends
span_ascends k zero = refl
span_ascends k (suc n) = both_true (all_true (λ (y : ℕ). ltb k y) (span (suc k) n) (λ j m. lt-ltb k j (span_out (suc k) n j m).0)) (span_ascends (suc k) n)

pub map_span : {A : Type 0} (f : ℕ → A) (k n : ℕ) → map f (span (suc k) n) ≡ map (λ i. f (suc i)) (span k n)
unfolding span
map_span f k zero = refl
map_span f k (suc n) = ap (λ (xs : List _). f (suc k) ∷ xs) (map_span f (suc k) n)

-- a list is its entries, by their places
pub map_get_d : {A : Type 0} (d : A) (xs : List A) → map (λ k. get_or xs k d) (below (length xs)) ≡ xs
unfolding below span
map_get_d d [] = refl
map_get_d d (x ∷ xs) = ap (λ (ys : List _). x ∷ ys) (map_span (λ k. get_or (x ∷ xs) k d) 0 (length xs) ∙ map_get_d d xs)

pub sum_append : (xs ys : List ℕ) → total (xs ++ ys) ≡ total xs + total ys
unfolding total
sum_append [] ys = omega arith
sum_append (x ∷ xs) ys = omega (arith, sum_append xs ys)

pub sum_le : {A : Type 0} (f h : A → ℕ) (xs : List A) → ((x : A) → Memᴰ x xs → f x ≤ h x) → total (map f xs) ≤ total (map h xs)
unfolding total
sum_le f h [] l = omega arith
sum_le f h (x ∷ xs) l = omega (arith, l x (Memᴰ.head refl), sum_le f h xs (λ y m. l y (Memᴰ.tail m)))

pub sum_plus : {A : Type 0} (f h : A → ℕ) (xs : List A) → total (map (λ x. f x + h x) xs) ≡ total (map f xs) + total (map h xs)
unfolding total
sum_plus f h [] = refl
sum_plus f h (x ∷ xs) = omega (arith, sum_plus f h xs)

pub sum_same : {A : Type 0} (f h : A → ℕ) (xs : List A) → ((x : A) → Memᴰ x xs → f x ≡ h x) → total (map f xs) ≡ total (map h xs)
unfolding total
sum_same f h [] e = refl
sum_same f h (x ∷ xs) e = omega (arith, e x (Memᴰ.head refl), sum_same f h xs (λ y m. e y (Memᴰ.tail m)))

pub sum_zero : {A : Type 0} (f : A → ℕ) (xs : List A) → ((x : A) → Memᴰ x xs → f x ≡ 0) → total (map f xs) ≡ 0
unfolding total
sum_zero f [] e = refl
sum_zero f (x ∷ xs) e = omega (arith, e x (Memᴰ.head refl), sum_zero f xs (λ y m. e y (Memᴰ.tail m)))
