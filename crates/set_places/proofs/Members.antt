-- A set's members looked at by an iterator, or counted from the front: each stands in the row, and what the iterator finds is what the definitions say.
use Prim.Native.Nat.{ℕ, suc, ◌+◌, ◌*◌, ◌≤◌, ◌<◌}
use mathlib.Core.Path.{◌≡◌, refl, sym, ap, ◌∙◌}
use mathlib.Core.Bool.{Bool, true, false, ◌&&◌, ◌||◌, cond}
use mathlib.Core.List.{List, [], ◌∷◌}
use native.Mathlib.Numerals.{add-one}
use native.Mathlib.Omega.{arith}
use lib.Dec.{eqb, ltb}
use lib.ListN.{length, get_or, drop, drop_of_length-le}
use lib.Seq.{drop-cons}
use mir.Val.{bool_byte}
use Rattle.std.specs.List.{count_by, filter, list_any, list_all}
use Rattle.std.specs.Ordering.{is_lt, is_gt, nat_cmp}
use Rattle.std.proofs.lemmas.Grind.{get_or_default_zero, common_steps}
use Rattle.std.proofs.lemmas.List.Sums.{length-filter}
use Rattle.base_laws.specs.Lists.{any_of, all_of, select}
use Rattle.set_places.specs.Groups.{InRow, of_group}

pub in_row_at : {numbers s : List ℕ} → InRow numbers s → (k x : ℕ) → k < length s → x ≡ get_or s k x → 4 * x + 4 ≤ length numbers
in_row_at {numbers} {s} r k x h e =
    let q = e ∙ get_or_default_zero s k x h in omega (arith, r.whole k h, q)

-- ---- the iterator's words and the definitions'
module _ (f : ℕ → Bool) where
  pub any_is : (s : List ℕ) → list_any f s ≡ any_of f s
  unfolding any_of
  any_is [] = refl
  any_is (x ∷ s) = ap (λ (b : Bool). f x || b) (any_is s)

  pub all_is : (s : List ℕ) → list_all f s ≡ all_of f s
  unfolding all_of
  all_is [] = refl
  all_is (x ∷ s) = ap (λ (b : Bool). f x && b) (all_is s)

  select_is : (s : List ℕ) → filter f s ≡ select f s
  unfolding select
  select_is [] = refl
  select_is (x ∷ s) = go (f x) (select_is s)
    where
      go : (b : Bool) → filter f s ≡ select f s → cond b (x ∷ filter f s) (filter f s) ≡ elim b [ true ↦ x ∷ select f s | false ↦ select f s ]
      go true e = ap (λ (l : List ℕ). x ∷ l) e
      go false e = e

pub group_counted : (numbers s : List ℕ) (group : ℕ) → count_by (λ (x : ℕ). eqb (get_or numbers (4 * x + 1) 0) group) s ≡ of_group numbers group s
unfolding of_group
group_counted numbers s group =
    let f : ℕ → Bool = λ x. eqb (get_or numbers (4 * x + 1) 0) group in
    sym (length-filter f s) ∙ ap (λ (l : List ℕ). length l) (select_is f s)

-- ---- a group's members counted from the front, those from place i on
pub group_none : (numbers s : List ℕ) (group i : ℕ) → length s ≤ i → of_group numbers group (drop i s) ≡ 0
unfolding of_group select
group_none numbers s group i h = ap (λ (l : List ℕ). length (select (λ (x : ℕ). eqb (get_or numbers (4 * x + 1) 0) group) l)) (drop_of_length-le s h)

pub group_more : (numbers s : List ℕ) (group i : ℕ) → i < length s
    → of_group numbers group (drop i s) ≡ bool_byte (eqb (get_or numbers (4 * get_or s i 0 + 1) 0) group) + of_group numbers group (drop (i + 1) s)
unfolding of_group select
group_more numbers s group i h =
    ap (λ (l : List ℕ). length (select f l)) (drop-cons s i 0 h) ∙ go (f (get_or s i 0)) (get_or s i 0) (drop (suc i) s)
    ∙ ap (λ (k : ℕ). bool_byte (f (get_or s i 0)) + length (select f (drop k s))) (sym (add-one i))
  where
    f : ℕ → Bool
    f x = eqb (get_or numbers (4 * x + 1) 0) group

    go : (b : Bool) (x : ℕ) (xs : List ℕ) → length {A = ℕ} (elim b [ true ↦ x ∷ select f xs | false ↦ select f xs ]) ≡ bool_byte b + length (select f xs)
    go true x xs = let e : suc (length (select f xs)) ≡ 1 + length (select f xs) = omega arith in e
    go false x xs = let e : length (select f xs) ≡ 0 + length (select f xs) = omega arith in e

pub at_most_one : (b : Bool) → bool_byte b ≤ 1
at_most_one true = omega arith
at_most_one false = omega arith

pub fewer_is : (a b : ℕ) → is_lt (nat_cmp a b) ≡ ltb a b
fewer_is a b = grind (arith, common_steps)

pub more_is : (a b : ℕ) → is_gt (nat_cmp a b) ≡ ltb b a
more_is a b = grind (arith, common_steps)
