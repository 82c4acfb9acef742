-- Tests over lists, looked at from the front: a loop's invariant says what the rest comes to, and that it is what the whole comes to.
use Prim.Native.Nat.{ℕ, suc, ◌+◌, ◌≤◌, ◌<◌}
use mathlib.Core.Path.{◌≡◌, refl, sym, ◌∙◌, ap}
use mathlib.Core.Bool.{Bool, true, false, ◌&&◌, true≢false, and_assoc}
use mathlib.Core.Logic.{⊎_elim}
use mathlib.Core.List.Memᴰ
use mathlib.Core.List.{List, [], ◌∷◌, ◌++◌, Memᴰ}
use native.Mathlib.Numerals.{add-one}
use native.Mathlib.Omega.{arith}
use lib.Dec.{leb, ltb}
use lib.ListN.{length, get_or, drop, drop_of_length-le}
use lib.Seq.{drop-cons}
use borrow.Author.Tests.{le-leb, leb-true, lt-leb, lt-ltb, le-ltb}
use Rattle.base_laws.specs.Lists.{all_of, span, below, total, ascends}
use Rattle.base_laws.proofs.Members.{either, both, both_true, same_truth, all_member, below_in}
use Rattle.base_laws.proofs.Sets.{ascends_head, ascends_tail, ascends_cons}
use Rattle.base_laws.proofs.Tests.{below_last}
use Rattle.call_rows.specs.Figures.{routes_pass}

-- ---- a test of each number below n
all_append : {A : Type 0} (f : A → Bool) (xs ys : List A) → all_of f (xs ++ ys) ≡ (all_of f xs && all_of f ys)
unfolding all_of
all_append f [] ys = refl
all_append f (x ∷ xs) ys = ap (λ (t : Bool). f x && t) (all_append f xs ys) ∙ sym (and_assoc (f x) (all_of f xs) (all_of f ys))

module _ (f : ℕ → Bool) where
  pub below_none : all_of f (below 0) ≡ true
  unfolding all_of below span
  below_none = refl

  pub below_more : (k : ℕ) → all_of f (below k) ≡ true → f k ≡ true → all_of f (below (k + 1)) ≡ true
  unfolding all_of
  below_more k a e = rw (add-one k, below_last k) (all_append f (below k) (k ∷ []) ∙ both_true a (both_true e refl))

  pub below_fails : (k n : ℕ) → k < n → f k ≡ false → all_of f (below n) ≡ false
  below_fails k n h e = either (all_of f (below n)) (λ t. absurd (true≢false (sym (all_member f (below n) t k (below_in n k h)) ∙ e))) (λ t. t)

-- ---- kept routes: those left, with a sum in hand
unfoldable pub adds : ℕ → ℕ → List ℕ → Bool
adds cap sum xs = all_of (λ (n : ℕ). leb n cap) xs && leb (sum + total xs) 1000000

module _ (cap sum : ℕ) (xs : List ℕ) (i : ℕ) where
  pub adds_fails : i < length xs → cap < get_or xs i 0 → adds cap sum (drop i xs) ≡ false
  unfolding adds all_of
  adds_fails h l = rw (drop-cons xs i 0 h, all_of, lt-leb (get_or xs i 0) cap l)

  pub adds_on : i < length xs → get_or xs i 0 ≤ cap → adds cap sum (drop i xs) ≡ adds cap (sum + get_or xs i 0) (drop (i + 1) xs)
  unfolding adds all_of total
  adds_on h l =
      let e : sum + (get_or xs i 0 + total (drop (suc i) xs)) ≡ sum + get_or xs i 0 + total (drop (suc i) xs) = omega arith in
      rw (drop-cons xs i 0 h, all_of, total, le-leb (get_or xs i 0) cap l, add-one i, e)

  pub adds_end : length xs ≤ i → adds cap sum (drop i xs) ≡ leb sum 1000000
  unfolding adds all_of total
  adds_end h = let e : sum + 0 ≡ sum = omega arith in rw (drop_of_length-le xs h, e)

pub adds_none : (cap : ℕ) (xs : List ℕ) → adds cap 0 xs ≡ routes_pass cap xs
unfolding adds routes_pass
adds_none cap xs = let e : 0 + total xs ≡ total xs = omega arith in rw e

pub ruleset adding = (adds_none, adds_fails, adds_on, adds_end)

-- ---- a row: each member at least `low` and one above the member before, and one of n placements
unfoldable pub climbs : ℕ → ℕ → List ℕ → Bool
climbs low n [] = true
climbs low n (x ∷ xs) = leb low x && ltb x n && climbs (suc x) n xs

climbs_true : (low n : ℕ) (xs : List ℕ) → climbs low n xs ≡ true → ((x : ℕ) → Memᴰ x xs → low ≤ x) × (ascends xs && all_of (λ (x : ℕ). ltb x n) xs ≡ true)
unfolding climbs ascends all_of
climbs_true low n [] e = (λ x m. absurd (Memᴰ.not-nil m), refl)
climbs_true low n (x ∷ xs) e =
    let a = both (leb low x && ltb x n) (climbs (suc x) n xs) e in
    let b = both (leb low x) (ltb x n) a.0 in
    let l = leb-true low x b.0 in
    let r = climbs_true (suc x) n xs a.1 in
    let t = both (ascends xs) (all_of (λ (x : ℕ). ltb x n) xs) r.1 in (
      λ y m. ⊎_elim (λ (q : y ≡ x). let z : low ≤ y = omega arith in z) (λ (k : Memᴰ y xs). omega (arith, r.0 y k)) (Memᴰ.cases_cons m),
      both_true (ascends_cons x xs (λ y k. r.0 y k) t.0) (both_true b.1 t.1),
    )

true_climbs : (low n : ℕ) (xs : List ℕ) → ((x : ℕ) → Memᴰ x xs → low ≤ x) → ascends xs && all_of (λ (x : ℕ). ltb x n) xs ≡ true → climbs low n xs ≡ true
unfolding climbs all_of
true_climbs low n [] h e = refl
true_climbs low n (x ∷ xs) h e =
    let a = both (ascends (x ∷ xs)) (all_of (λ (x : ℕ). ltb x n) (x ∷ xs)) e in
    let b = both (ltb x n) (all_of (λ (x : ℕ). ltb x n) xs) a.1 in
    both_true (both_true (le-leb low x (h x (Memᴰ.head refl))) b.0)
    (true_climbs (suc x) n xs (λ y m. ascends_head x xs a.0 y m) (both_true (ascends_tail x xs a.0) b.1))

pub climbs_is : (n : ℕ) (xs : List ℕ) → climbs 0 n xs ≡ (ascends xs && all_of (λ (x : ℕ). ltb x n) xs)
climbs_is n xs =
    same_truth (climbs 0 n xs) (ascends xs && all_of (λ (x : ℕ). ltb x n) xs)
    (λ t. (climbs_true 0 n xs t).1) (true_climbs 0 n xs (λ x m. omega arith))

module _ (low n : ℕ) (xs : List ℕ) (i : ℕ) (h : i < length xs) where
  pub climbs_low : get_or xs i 0 < low → climbs low n (drop i xs) ≡ false
  unfolding climbs
  climbs_low l = rw (drop-cons xs i 0 h, climbs, lt-leb low (get_or xs i 0) l)

  pub climbs_high : low ≤ get_or xs i 0 → n ≤ get_or xs i 0 → climbs low n (drop i xs) ≡ false
  unfolding climbs
  climbs_high l k = rw (drop-cons xs i 0 h, climbs, le-leb low (get_or xs i 0) l, le-ltb (get_or xs i 0) n k)

  pub climbs_on : low ≤ get_or xs i 0 → get_or xs i 0 < n → climbs low n (drop i xs) ≡ climbs (get_or xs i 0 + 1) n (drop (i + 1) xs)
  unfolding climbs
  climbs_on l k = rw (drop-cons xs i 0 h, climbs, le-leb low (get_or xs i 0) l, lt-ltb (get_or xs i 0) n k, add-one (get_or xs i 0), add-one i)

pub climbs_end : (low n : ℕ) (xs : List ℕ) (i : ℕ) → length xs ≤ i → climbs low n (drop i xs) ≡ true
unfolding climbs
climbs_end low n xs i h = rw (drop_of_length-le xs h)

pub ruleset climbing = (climbs_is, climbs_low, climbs_high, climbs_on, climbs_end)
