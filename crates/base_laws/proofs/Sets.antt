-- Laws of sets as ascending lists. A set is told by its members: two ascending lists with the same members are equal. A member put in and a member
-- lifted out do to the members what their names say; a set within another is no larger, nor are the parts of both that pass a test.
use Prim.Native.Nat.{ℕ, suc, ◌+◌, ◌≤◌, ◌<◌}
use mathlib.Core.Path.{◌≡◌, refl, sym, ◌∙◌, ap}
use mathlib.Core.Bool.{Bool, true, false, not, true≢false, false≢true}
use mathlib.Core.Logic.{◌⊎◌, inl, inr, ⊎_elim, ◌≢◌}
use mathlib.Core.List.Memᴰ
use mathlib.Core.List.{List, [], ◌∷◌, Memᴰ}
use native.Mathlib.Omega.{arith}
use lib.Dec.{eqb, ltb}
use lib.ListN.{length}
use borrow.Author.Tests.{ltb-true, ltb-false, lt-ltb, eqb-true, eqb-false, eq-eqb, ne_eqb, not-true, not-false}
use Rattle.base_laws.specs.Lists.{any_of, all_of, select, member, same, ascends, put_in, without, Distinct, empty, fresh}
use Rattle.base_laws.proofs.Members.{either, both, both_true, any_member, none_member, all_member, all_true, filter_in, filter_out}
use Rattle.base_laws.proofs.Lists.{any_true, any_false}
use Rattle.base_laws.proofs.Distinct.{distinct_filter, sub_length}

-- ---- the tests
pub member_true : (i : ℕ) (s : List ℕ) → member i s ≡ true → Memᴰ i s
unfolding member
member_true i s e = let r = any_member (λ (j : ℕ). eqb i j) s e in Memᴰ.cast (eqb-true i r.0 r.2) r.1

pub member_false : (i : ℕ) (s : List ℕ) → member i s ≡ false → Memᴰ i s → ⊥
unfolding member
member_false i s e m = eqb-false i i (none_member (λ (j : ℕ). eqb i j) s e i m) refl

pub no_member : (i : ℕ) (s : List ℕ) → (Memᴰ i s → ⊥) → member i s ≡ false
unfolding member
no_member i s out = any_false (λ (j : ℕ). eqb i j) s (λ j m. ne_eqb i j (λ e. out (Memᴰ.cast e m)))

pub is_member : (i : ℕ) (s : List ℕ) → Memᴰ i s → member i s ≡ true
unfolding member
is_member i s m = any_true (λ (j : ℕ). eqb i j) s i m (eq-eqb i i refl)

pub same_true : (s t : List ℕ) → same s t ≡ true → s ≡ t
unfolding same
same_true [] [] e = refl
same_true [] (y ∷ t) e = absurd (false≢true e)
same_true (x ∷ s) [] e = absurd (false≢true e)
same_true (x ∷ s) (y ∷ t) e =
    let h = both (eqb x y) (same s t) e in
    λ i. eqb-true x y h.0 i ∷ same_true s t h.1 i

pub same_refl : (s : List ℕ) → same s s ≡ true
unfolding same
same_refl [] = refl
same_refl (x ∷ s) = both_true (eq-eqb x x refl) (same_refl s)

-- a list stands among others
pub among_true : (s : List ℕ) (v : List (List ℕ)) → any_of (same s) v ≡ true → Memᴰ s v
among_true s v e = let r = any_member (same s) v e in Memᴰ.cast (same_true s r.0 r.2) r.1

pub among_false : (s : List ℕ) (v : List (List ℕ)) → any_of (same s) v ≡ false → Memᴰ s v → ⊥
among_false s v e m = true≢false (sym (same_refl s) ∙ none_member (same s) v e s m)

pub is_among : (s : List ℕ) (v : List (List ℕ)) → Memᴰ s v → any_of (same s) v ≡ true
is_among s v m = any_true (same s) v s m (same_refl s)

pub not_among : (s : List ℕ) (v : List (List ℕ)) → (Memᴰ s v → ⊥) → any_of (same s) v ≡ false
not_among s v out = either (any_of (same s) v) (λ e. absurd (out (among_true s v e))) (λ e. e)

-- ---- ascending lists
pub ascends_head : (x : ℕ) (s : List ℕ) → ascends (x ∷ s) ≡ true → (j : ℕ) → Memᴰ j s → x < j
unfolding ascends
ascends_head x s a j m = ltb-true x j (all_member (λ (y : ℕ). ltb x y) s (both (all_of (λ (y : ℕ). ltb x y) s) (ascends s) a).0 j m)

pub ascends_tail : (x : ℕ) (s : List ℕ) → ascends (x ∷ s) ≡ true → ascends s ≡ true
unfolding ascends
ascends_tail x s a = (both (all_of (λ (y : ℕ). ltb x y) s) (ascends s) a).1

pub ascends_cons : (x : ℕ) (s : List ℕ) → ((j : ℕ) → Memᴰ j s → x < j) → ascends s ≡ true → ascends (x ∷ s) ≡ true
unfolding ascends
ascends_cons x s h a = both_true (all_true (λ (y : ℕ). ltb x y) s (λ j m. lt-ltb x j (h j m))) a

pub ascends_distinct : (s : List ℕ) → ascends s ≡ true → Distinct s
ascends_distinct [] a = empty
ascends_distinct (x ∷ s) a = fresh (λ m. let l : x < x = ascends_head x s a x m in omega arith) (ascends_distinct s (ascends_tail x s a))

-- two sets with the same members are equal
pub sets_equal : (s t : List ℕ) → ascends s ≡ true → ascends t ≡ true → ((j : ℕ) → Memᴰ j s → Memᴰ j t) → ((j : ℕ) → Memᴰ j t → Memᴰ j s) → s ≡ t
sets_equal [] [] a b f g = refl
sets_equal [] (y ∷ t) a b f g = absurd (Memᴰ.not-nil (g y (Memᴰ.head refl)))
sets_equal (x ∷ s) [] a b f g = absurd (Memᴰ.not-nil (f x (Memᴰ.head refl)))
sets_equal (x ∷ s) (y ∷ t) a b f g =
    let e : x ≡ y = heads (Memᴰ.cases_cons (f x (Memᴰ.head refl))) (Memᴰ.cases_cons (g y (Memᴰ.head refl))) in
    let r : s ≡ t = sets_equal s t (ascends_tail x s a) (ascends_tail y t b)
    (λ j m. later j y t (let l : x < j = ascends_head x s a j m in omega arith) (Memᴰ.cases_cons (f j (Memᴰ.tail m))))
    (λ j m. later j x s (let l : y < j = ascends_head y t b j m in omega arith) (Memᴰ.cases_cons (g j (Memᴰ.tail m)))) in
    λ i. e i ∷ r i
  where
    heads : (x ≡ y) ⊎ Memᴰ x t → (y ≡ x) ⊎ Memᴰ y s → x ≡ y
    heads (inl e) q = e
    heads (inr m) (inl e) = sym e
    heads (inr m) (inr n) = let l : y < x = ascends_head y t b x m in let k : x < y = ascends_head x s a y n in omega arith

    later : (j z : ℕ) (u : List ℕ) → z < j → (j ≡ z) ⊎ Memᴰ j u → Memᴰ j u
    later j z u l (inl e) = absurd (omega arith)
    later j z u l (inr m) = m

-- a set within another: its part that passes a test is no larger
pub within_count : (f : ℕ → Bool) (s t : List ℕ) → ascends s ≡ true → ((j : ℕ) → Memᴰ j s → Memᴰ j t) → length (select f s) ≤ length (select f t)
within_count f s t a sub =
    sub_length (select f t) (distinct_filter f (ascends_distinct s a)) (λ j m. let o = filter_out f s j m in filter_in f t j (sub j o.0) o.1)

-- the first of some numbers that a set lacks, or it has them all
pub lacks : (t s : List ℕ) → ((m : ℕ) × Memᴰ m t × (Memᴰ m s → ⊥)) ⊎ ((j : ℕ) → Memᴰ j t → Memᴰ j s)
lacks t s =
    either (any_of (λ (j : ℕ). not (member j s)) t)
    (λ e. let r = any_member (λ (j : ℕ). not (member j s)) t e in inl (r.0, r.1, member_false r.0 s (not-true (member r.0 s) r.2)))
    (λ e. inr (λ j m. member_true j s (not-false (member j s) (none_member (λ (j : ℕ). not (member j s)) t e j m))))

-- ---- a member put in
pub insert_cases : (i j : ℕ) (s : List ℕ) → Memᴰ j (put_in i s) → (j ≡ i) ⊎ Memᴰ j s
unfolding put_in
insert_cases i j [] m = Memᴰ.cases_cons m
insert_cases i j (x ∷ s) m =
    either (ltb i x)
    (λ t. Memᴰ.cases_cons (rw (put_in, t) at m))
    (λ e.
    ⊎_elim
    (λ (q : j ≡ x). inr (Memᴰ.head q))
    (λ (k : Memᴰ j (put_in i s)). ⊎_elim inl (λ (n : Memᴰ j s). inr (Memᴰ.tail n)) (insert_cases i j s k))
    (Memᴰ.cases_cons (rw (put_in, e) at m)))

pub length_insert : (i : ℕ) (s : List ℕ) → length (put_in i s) ≡ suc (length s)
unfolding put_in
length_insert i [] = refl
length_insert i (x ∷ s) = either (ltb i x) (λ t. rw (put_in, t)) (λ e. rw (put_in, e) (ap suc (length_insert i s)))

pub insert_ascends : (i : ℕ) (s : List ℕ) → ascends s ≡ true → (Memᴰ i s → ⊥) → ascends (put_in i s) ≡ true
unfolding put_in
insert_ascends i [] a out = ascends_cons i [] (λ j m. absurd (Memᴰ.not-nil m)) a
insert_ascends i (x ∷ s) a out =
    let d : i ≡ x → ⊥ = λ e. out (Memᴰ.head e) in
    either (ltb i x)
    (λ t.
    let l : i < x = ltb-true i x t in
    rw (put_in, t)
    (ascends_cons i (x ∷ s)
    (λ j m. ⊎_elim (λ (q : j ≡ x). let z : i < j = omega arith in z) (λ (k : Memᴰ j s). let h : x < j = ascends_head x s a j k in omega arith) (Memᴰ.cases_cons m)) a))
    (λ e.
    let l : x ≤ i = ltb-false i x e in
    rw (put_in, e)
    (ascends_cons x (put_in i s)
    (λ j m. ⊎_elim (λ (q : j ≡ i). let z : x < j = omega arith in z) (λ (k : Memᴰ j s). ascends_head x s a j k) (insert_cases i j s m))
    (insert_ascends i s (ascends_tail x s a) (λ m. out (Memᴰ.tail m)))))

-- how many pass a test
pub count_cons : (f : ℕ → Bool) (x : ℕ) (s : List ℕ) → length (select f (x ∷ s)) ≡ length (select f (x ∷ [])) + length (select f s)
unfolding select
count_cons f x s = either (f x) (λ t. rw (select, t) (omega arith)) (λ e. rw (select, e) (omega arith))

pub count_insert : (f : ℕ → Bool) (i : ℕ) (s : List ℕ) → length (select f (put_in i s)) ≡ length (select f (i ∷ s))
unfolding put_in
count_insert f i [] = refl
count_insert f i (x ∷ s) =
    either (ltb i x)
    (λ t. rw (put_in, t))
    (λ e. rw (put_in, e) (omega (arith, count_insert f i s, count_cons f x (put_in i s), count_cons f i (x ∷ s), count_cons f x s, count_cons f i s)))

-- ---- a member lifted out
pub without_in : (i j : ℕ) (s : List ℕ) → Memᴰ j s → j ≢ i → Memᴰ j (without i s)
unfolding without
without_in i j s m d = filter_in (λ (j : ℕ). not (eqb j i)) s j m (ap not (ne_eqb j i d))
