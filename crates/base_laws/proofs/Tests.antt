-- Laws of `any`, `all`, `filter` and `below`.
use mathlib.Core.Path.{◌≡◌, refl, sym, ap, ap₂, ◌∙◌}
use mathlib.Core.Bool.{Bool, true, false, ◌&&◌, ◌||◌, or_assoc, and-false}
use mathlib.Core.List.{List, [], ◌∷◌, ◌++◌, map}
use Prim.Native.Nat.{ℕ, zero, suc, ◌+◌, ◌<◌}
use native.Mathlib.Omega.{arith}
use lib.ListN.{length, get_or}
use Rattle.base_laws.specs.Lists.{any_of, all_of, select, span, below}

span_last : (k n : ℕ) → span k (suc n) ≡ span k n ++ ((k + n) ∷ [])
unfolding span
span_last k zero = let e : k ≡ k + 0 = omega arith in ap (λ (j : ℕ). j ∷ []) e
span_last k (suc n) = let e : suc k + n ≡ k + suc n = omega arith in ap (λ (l : List ℕ). k ∷ l) (rw (← e) (span_last (suc k) n))

pub below_last : (n : ℕ) → below (suc n) ≡ below n ++ (n ∷ [])
unfolding below
below_last n = let e : 0 + n ≡ n = omega arith in span_last 0 n ∙ ap (λ (j : ℕ). span 0 n ++ (j ∷ [])) e

module _ {A : Type 0} where
  pub any_append : (f : A → Bool) (xs ys : List A) → any_of f (xs ++ ys) ≡ (any_of f xs || any_of f ys)
  unfolding any_of
  any_append f [] ys = refl
  any_append f (x ∷ xs) ys = ap (λ (t : Bool). f x || t) (any_append f xs ys) ∙ sym (or_assoc (f x) (any_of f xs) (any_of f ys))

  filter_by : (f : A → Bool) (x : A) (xs ys : List A) (t : Bool) → select f (xs ++ ys) ≡ select f xs ++ select f ys
      → (elim t [ true ↦ x ∷ select f (xs ++ ys) | false ↦ select f (xs ++ ys) ]) ≡ (elim t [ true ↦ x ∷ select f xs | false ↦ select f xs ]) ++ select f ys
  filter_by f x xs ys true e = ap (λ (l : List A). x ∷ l) e
  filter_by f x xs ys false e = e

  pub filter_append : (f : A → Bool) (xs ys : List A) → select f (xs ++ ys) ≡ select f xs ++ select f ys
  unfolding select
  filter_append f [] ys = refl
  filter_append f (x ∷ xs) ys = filter_by f x xs ys (f x) (filter_append f xs ys)

  pub filter_one : (f : A → Bool) (x : A) → select f (x ∷ []) ≡ elim (f x) [ true ↦ x ∷ [] | false ↦ [] ]
  unfolding select
  filter_one f x = refl

  pub all_true : (f : A → Bool) (d : A) (xs : List A) → ((i : ℕ) → i < length xs → f (get_or xs i d) ≡ true) → all_of f xs ≡ true
  unfolding all_of
  all_true f d [] h = refl
  all_true f d (x ∷ xs) h = ap₂ ◌&&◌ (h 0 (omega arith)) (all_true f d xs (λ i k. h (suc i) (omega arith)))

  pub all_false : (f : A → Bool) (d : A) (xs : List A) (i : ℕ) → i < length xs → f (get_or xs i d) ≡ false → all_of f xs ≡ false
  unfolding all_of
  all_false f d [] i h e = absurd (omega arith)
  all_false f d (x ∷ xs) zero h e = ap (λ (t : Bool). t && all_of f xs) e
  all_false f d (x ∷ xs) (suc i) h e = ap (λ (t : Bool). f x && t) (all_false f d xs i (omega arith) e) ∙ and-false (f x)

module _ {A B : Type 0} where
  any_by : (g : A → B) (f : B → Bool) (x : A) (l : List A) (t u : Bool) → any_of f (map g l) ≡ u → any_of f (map g (elim t [ true ↦ x ∷ l | false ↦ l ])) ≡ (t && f (g x) || u)
  unfolding any_of
  any_by g f x l true u e = ap (λ (s : Bool). f (g x) || s) e
  any_by g f x l false u e = e

  -- some element that passes one test has an image that passes another
  pub any_map_filter : (p : A → Bool) (g : A → B) (f : B → Bool) (xs : List A) → any_of f (map g (select p xs)) ≡ any_of (λ (x : A). p x && f (g x)) xs
  unfolding any_of select
  any_map_filter p g f [] = refl
  any_map_filter p g f (x ∷ xs) = any_by g f x (select p xs) (p x) (any_of (λ (y : A). p y && f (g y)) xs) (any_map_filter p g f xs)
