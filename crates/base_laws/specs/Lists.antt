-- Words for lists. A set of placements is a strictly ascending list of indexes (RULES 3.2).
use Rattle.std.specs.Prelude.{ℕ, zero, suc, ◌+◌, ◌-◌, ◌≡◌, Bool, true, false, not, ◌&&◌, ◌||◌, ◌↔◌, eqb, ltb, length, replicate}
use Rattle.std.proofs.Math.Option.{Option, none, some}
use mathlib.Core.List.{List, [], ◌∷◌, ◌++◌, Memᴰ}

module _ {A : Type 0} where
  -- some element passes the test
  unfoldable pub any_of : (A → Bool) → List A → Bool
  any_of f [] = false
  any_of f (x ∷ xs) = f x || any_of f xs

  -- every element passes the test
  unfoldable pub all_of : (A → Bool) → List A → Bool
  all_of f [] = true
  all_of f (x ∷ xs) = f x && all_of f xs

  -- the elements that pass the test, in their order
  unfoldable pub select : (A → Bool) → List A → List A
  select f [] = []
  select f (x ∷ xs) = elim (f x) [ true ↦ x ∷ select f xs | false ↦ select f xs ]

  unfoldable pub flat : List (List A) → List A
  flat [] = []
  flat (xs ∷ rest) = xs ++ flat rest

  -- what stands beside the first test that holds, and `other` where none does
  unfoldable pub first_of : List (Bool × A) → A → A
  first_of [] other = other
  first_of (c ∷ cs) other = elim c.0 [ true ↦ c.1 | false ↦ first_of cs other ]

  unfoldable pub is_some : Option A → Bool
  is_some none = false
  is_some (some a) = true

-- nothing stands twice in the list
pub data Distinct {A : Type 0} : List A → Type 0 where
  empty : Distinct []
  fresh : {x : A} {l : List A} → (Memᴰ x l → ⊥) → Distinct l → Distinct (x ∷ l)

-- as many have P as n says: a list of n of them holds each once and nothing else
pub record HowMany {A : Type 0} (P : A → Type 0) (n : ℕ) : Type 0 where
  pub these : List A
  pub once : Distinct these
  pub exactly : (x : A) → Memᴰ x these ↔ P x
  pub many : length these ≡ n

-- the n numbers from k on
unfoldable pub span : ℕ → ℕ → List ℕ
span k zero = []
span k (suc n) = k ∷ span (suc k) n

-- the numbers below n
unfoldable pub below : ℕ → List ℕ
below n = span 0 n

unfoldable pub total : List ℕ → ℕ
total [] = 0
total (x ∷ xs) = x + total xs

unfoldable pub member : ℕ → List ℕ → Bool
member i s = any_of (λ (j : ℕ). eqb i j) s

-- the two lists are equal
unfoldable pub same : List ℕ → List ℕ → Bool
same [] [] = true
same [] (y ∷ ys) = false
same (x ∷ xs) [] = false
same (x ∷ xs) (y ∷ ys) = eqb x y && same xs ys

-- each number is below all that follow it
unfoldable pub ascends : List ℕ → Bool
ascends [] = true
ascends (x ∷ xs) = all_of (λ (y : ℕ). ltb x y) xs && ascends xs

-- the set with i, which is not in it, put into it
unfoldable pub put_in : ℕ → List ℕ → List ℕ
put_in i [] = i ∷ []
put_in i (x ∷ xs) = elim (ltb i x) [ true ↦ i ∷ x ∷ xs | false ↦ x ∷ put_in i xs ]

-- the set with i lifted out of it
unfoldable pub without : ℕ → List ℕ → List ℕ
without i s = select (λ (j : ℕ). not (eqb j i)) s

-- at most n entries, followed by zeros so that there are n
unfoldable pub padded : ℕ → List ℕ → List ℕ
padded n xs = xs ++ replicate (n - length xs) 0
