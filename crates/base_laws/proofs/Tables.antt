-- Lists by their entries: a list that holds f i at each i is f mapped over the numbers below its length.
use Prim.Native.Nat.{ℕ, zero, suc, ◌+◌, ◌<◌}
use mathlib.Core.Path.{◌≡◌, refl, sym, ap, ap₂, ◌∙◌}
use mathlib.Core.List.{List, ◌∷◌, map}
use native.Mathlib.Omega.{arith}
use lib.ListN.{length, get_or, length-map}
use lib.Seq.{ext_get_or}
use Rattle.base_laws.specs.Lists.{span, below}
use Rattle.base_laws.proofs.Members.{length_span}

module _ {A : Type 0} where
  at_from : (f : ℕ → A) (k n i j : ℕ) (d : A) → i < n → j ≡ k + i → get_or (map f (span k n)) i d ≡ f j
  unfolding span
  at_from f k zero i j d h e = absurd (omega arith)
  at_from f k (suc n) zero j d h e = let q : k ≡ j = omega arith in ap f q
  at_from f k (suc n) (suc i) j d h e = at_from f (suc k) n i j d (omega arith) (omega arith)

  pub table_at : (f : ℕ → A) (n i : ℕ) (d : A) → i < n → get_or (map f (below n)) i d ≡ f i
  unfolding below
  table_at f n i d h = at_from f 0 n i i d h (omega arith)

  pub length_table : (f : ℕ → A) (n : ℕ) → length (map f (below n)) ≡ n
  unfolding below
  length_table f n = length-map (span 0 n) f ∙ length_span 0 n

  pub table_is : (f : ℕ → A) (n : ℕ) (d : A) (l : List A) → length l ≡ n → ((i : ℕ) → i < n → get_or l i d ≡ f i) → l ≡ map f (below n)
  table_is f n d l e h =
      ext_get_or d l (map f (below n)) (e ∙ sym (length_table f n)) (λ i q. h i (omega arith) ∙ sym (table_at f n i d (omega arith)))

  same_from : (f g : ℕ → A) (k n : ℕ) → ((i : ℕ) → i < k + n → f i ≡ g i) → map f (span k n) ≡ map g (span k n)
  unfolding span
  same_from f g k zero h = refl
  same_from f g k (suc n) h = ap₂ ◌∷◌ (h k (omega arith)) (same_from f g (suc k) n (λ i q. h i (omega arith)))

  pub table_same : (f g : ℕ → A) (n : ℕ) → ((i : ℕ) → i < n → f i ≡ g i) → map f (below n) ≡ map g (below n)
  unfolding below
  table_same f g n h = same_from f g 0 n (λ i q. h i (omega arith))
