-- A set without its member number k: by members taken in turn, and as the set from which that member is lifted.
use Prim.Native.Nat.{ℕ, zero, suc, ◌<◌}
use mathlib.Core.Path.{◌≡◌, refl, sym, ap}
use mathlib.Core.Bool.{true, false}
use mathlib.Core.List.{List, [], ◌∷◌, ◌++◌, Memᴰ}
use native.Mathlib.Omega.{arith}
use native.Mathlib.Nat.{not-suc-le-zero, le_of_suc-le-suc}
use lib.Dec.{eqb, ltb}
use lib.ListN.{length, get_or, take}
use lib.Seq.{take-suc}
use borrow.Author.Tests.{ltb-true, eqb-true, eqb-false, eq-eqb, ne_eqb}
use Rattle.base_laws.specs.Lists.{all_of, select, ascends, without}
use Rattle.base_laws.proofs.Members.{both, all_member, get_d_member}
use Rattle.std.specs.Prelude.{None, Some}
use Rattle.std.specs.Prelude as std
use Rattle.std.specs.Option.{option_eq}
use Rattle.set_blocked.specs.Blocked.{without_at, left_by}

pub without_at_none : (k : ℕ) → without_at k [] ≡ []
unfolding without_at
without_at_none k = refl

-- member number k taken, the rest stays
pub without_at_skip : (k : ℕ) (s : List ℕ) → without_at k (take (suc k) s) ≡ without_at k (take k s)
unfolding without_at
without_at_skip zero [] = refl
without_at_skip (suc k) [] = refl
without_at_skip zero (x ∷ s) = refl
without_at_skip (suc k) (x ∷ s) = ap (λ (l : List ℕ). x ∷ l) (without_at_skip k s)

-- any other member joins
pub without_at_more : (k j : ℕ) (s : List ℕ) → (j ≡ k → ⊥) → j < length s → without_at k (take (suc j) s) ≡ without_at k (take j s) ++ (get_or s j 0 ∷ [])
unfolding without_at
without_at_more k j [] n h = absurd (not-suc-le-zero h)
without_at_more zero zero (x ∷ s) n h = absurd (n refl)
without_at_more zero (suc j) (x ∷ s) n h = take-suc s j 0 (le_of_suc-le-suc h)
without_at_more (suc k) zero (x ∷ s) n h = refl
without_at_more (suc k) (suc j) (x ∷ s) n h = ap (λ (l : List ℕ). x ∷ l) (without_at_more k j s (λ e. n (ap suc e)) (le_of_suc-le-suc h))

-- the same by a member lifted or none
pub left_none : (o : std.Option ℕ) → left_by o [] ≡ []
left_none None = refl
left_none (Some k) = without_at_none k

pub left_skip : (o : std.Option ℕ) (j : ℕ) (s : List ℕ) → option_eq eqb o (Some j) ≡ true → left_by o (take (suc j) s) ≡ left_by o (take j s)
left_skip None j s e = cc
left_skip (Some k) j s e = let q = eqb-true k j e in rw q (without_at_skip j s)

pub left_more : (o : std.Option ℕ) (j : ℕ) (s : List ℕ) → option_eq eqb o (Some j) ≡ false → j < length s → left_by o (take (suc j) s) ≡ left_by o (take j s) ++ (get_or s j 0 ∷ [])
left_more None j s e h = take-suc s j 0 h
left_more (Some k) j s e h = without_at_more k j s (λ q. eqb-false k j e (sym q)) h

-- nothing is lifted out of a list that lacks it
without_none : (i : ℕ) (s : List ℕ) → ((j : ℕ) → Memᴰ j s → j ≡ i → ⊥) → without i s ≡ s
unfolding without select
without_none i [] h = refl
without_none i (x ∷ s) h =
    rw (select, ne_eqb x i (h x (Memᴰ.head refl))) (ap (λ (l : List ℕ). x ∷ l) (without_none i s (λ j m. h j (Memᴰ.tail m))))

-- in an ascending set member number k is found by its index
pub without_at_without : (k : ℕ) (s : List ℕ) → ascends s ≡ true → k < length s → without_at k s ≡ without (get_or s k 0) s
unfolding without_at without select ascends
without_at_without k [] a h = absurd (not-suc-le-zero h)
without_at_without zero (x ∷ s) a h =
    let b = both (all_of (λ (y : ℕ). ltb x y) s) (ascends s) a in
    rw (select, eq-eqb x x refl)
    (sym (without_none x s (λ j m e. let q = ltb-true x j (all_member (λ (y : ℕ). ltb x y) s b.0 j m) in absurd (omega arith))))
without_at_without (suc k) (x ∷ s) a h =
    let b = both (all_of (λ (y : ℕ). ltb x y) s) (ascends s) a in
    let q = ltb-true x (get_or s k 0) (all_member (λ (y : ℕ). ltb x y) s b.0 (get_or s k 0) (get_d_member s k 0 (le_of_suc-le-suc h))) in
    rw (select, ne_eqb x (get_or s k 0) (λ e. absurd (omega arith)))
    (ap (λ (l : List ℕ). x ∷ l) (without_at_without k s b.1 (le_of_suc-le-suc h)))
