-- Lists without repeats. The pigeonhole: a list without repeats whose members all stand in another is no longer than it; and where it is no shorter
-- either, the other has no repeats and no further member. By taking each member in turn out of the other list.
use Prim.Native.Nat.{ℕ, suc, ◌≤◌, ◌<◌, zero-le}
use mathlib.Core.Path.{◌≡◌, refl, sym, ◌∙◌, ap}
use mathlib.Core.Bool.{Bool, false}
use mathlib.Core.Logic.{◌⊎◌, inl, inr, ⊎_elim}
use mathlib.Core.List.Memᴰ
use mathlib.Core.List.{
  List,
  [],
  ◌∷◌,
  ◌++◌,
  append-nil,
  map,
  reverse,
  reverse-cons,
  Memᴰ,
}
use native.Mathlib.Nat.{not-suc-le-zero}
use native.Mathlib.Omega.{arith}
use lib.Dec.{eqb}
use borrow.Author.Tests.{eq-eqb, ne_eqb}
use lib.ListN.{length, length-append}
use Rattle.base_laws.specs.Lists.{select, Distinct, empty, fresh, below}
use Rattle.base_laws.proofs.Members.{either, filter_out, reverse_member, length_span, below_in}

module _ {A : Type 0} where
  -- a member of a list is the one put into it, or was there before
  pub insert_cases : (s t : List A) (x : A) {y : A} → Memᴰ y (s ++ x ∷ t) → (y ≡ x) ⊎ Memᴰ y (s ++ t)
  insert_cases s t x {y} m =
      ⊎_elim
      (λ (k : Memᴰ y s). inr (Memᴰ.append_left t k))
      (λ (k : Memᴰ y (x ∷ t)). ⊎_elim inl (λ (j : Memᴰ y t). inr (Memᴰ.append_right s j)) (Memᴰ.cases_cons k))
      (Memᴰ.append_cases s m)

  pub distinct_insert : (s t : List A) (x : A) → Distinct (s ++ t) → (Memᴰ x (s ++ t) → ⊥) → Distinct (s ++ x ∷ t)
  distinct_insert [] t x d new = fresh new d
  distinct_insert (y ∷ s) t x (fresh n d) new =
      fresh (λ m. ⊎_elim (λ (e : y ≡ x). new (Memᴰ.head (sym e))) n (insert_cases s t x m)) (distinct_insert s t x d (λ m. new (Memᴰ.tail m)))

  pub distinct_snoc : {l : List A} (x : A) → Distinct l → (Memᴰ x l → ⊥) → Distinct (l ++ x ∷ [])
  distinct_snoc {l} x d new = distinct_insert l [] x (rw append-nil d) (λ m. new (rw append-nil at m))

  pub distinct_reverse : {l : List A} → Distinct l → Distinct (reverse l)
  distinct_reverse empty = empty
  distinct_reverse (fresh {x = x} {l = l} n d) = rw reverse-cons (distinct_snoc x (distinct_reverse d) (λ m. n (reverse_member l m)))

  pub distinct_filter : (f : A → Bool) {l : List A} → Distinct l → Distinct (select f l)
  unfolding select
  distinct_filter f empty = empty
  distinct_filter f (fresh {x = x} {l = l} n d) =
      either (f x)
      (λ t. rw (select, t) (fresh (λ m. n (filter_out f l x m).0) (distinct_filter f d)))
      (λ e. rw (select, e) (distinct_filter f d))

  pub distinct_map : {B : Type 0} (f : A → B) {l : List A} → ((x y : A) → Memᴰ x l → Memᴰ y l → f x ≡ f y → x ≡ y) → Distinct l → Distinct (map f l)
  distinct_map f inj empty = empty
  distinct_map f inj (fresh {x = x} {l = l} n d) =
      fresh
      (λ m. let a = Memᴰ.of_map f l m in n (Memᴰ.cast (inj x a.0 (Memᴰ.head refl) (Memᴰ.tail a.1) (sym a.2)) a.1))
      (distinct_map f (λ a b p q. inj a b (Memᴰ.tail p) (Memᴰ.tail q)) d)

  -- no value of a part of the list stands twice where none of the list does
  pub distinct_map_filter : {B : Type 0} (f : A → B) (p : A → Bool) (l : List A) → Distinct (map f l) → Distinct (map f (select p l))
  unfolding select
  distinct_map_filter f p [] d = d
  distinct_map_filter f p (x ∷ l) (fresh n d) =
      either (p x)
      (λ t.
      rw (select, t)
      (fresh
      (λ m. let o = Memᴰ.of_map f (select p l) m in n (Memᴰ.cast (sym o.2) (Memᴰ.map f (filter_out p l o.0 o.1).0)))
      (distinct_map_filter f p l d)))
      (λ e. rw (select, e) (distinct_map_filter f p l d))

  -- where no value stands twice, the values tell the members apart
  pub map_apart : {B : Type 0} (f : A → B) (l : List A) → Distinct (map f l) → (x y : A) → Memᴰ x l → Memᴰ y l → f x ≡ f y → x ≡ y
  map_apart f [] d x y p q e = absurd (Memᴰ.not-nil p)
  map_apart f (z ∷ l) (fresh n d) x y p q e =
      ⊎_elim
      (λ (a : x ≡ z).
      ⊎_elim
      (λ (b : y ≡ z). a ∙ sym b)
      (λ (j : Memᴰ y l). absurd (n (Memᴰ.cast (ap f (sym a) ∙ e) (Memᴰ.map f j))))
      (Memᴰ.cases_cons q))
      (λ (i : Memᴰ x l).
      ⊎_elim
      (λ (b : y ≡ z). absurd (n (Memᴰ.cast (ap f (sym b) ∙ sym e) (Memᴰ.map f i))))
      (λ (j : Memᴰ y l). map_apart f l d x y i j e)
      (Memᴰ.cases_cons q))
      (Memᴰ.cases_cons p)

  filter_none : (f : A → Bool) (l : List A) → ((x : A) → Memᴰ x l → f x ≡ false) → select f l ≡ []
  unfolding select
  filter_none f [] h = refl
  filter_none f (x ∷ l) h = rw (select, h x (Memᴰ.head refl)) (filter_none f l (λ y m. h y (Memᴰ.tail m)))

  -- and a value picks out its member
  pub filter_one : (f : A → ℕ) (l : List A) → Distinct (map f l) → (x : A) → Memᴰ x l → select (λ (y : A). eqb (f y) (f x)) l ≡ x ∷ []
  unfolding select
  filter_one f [] d x m = absurd (Memᴰ.not-nil m)
  filter_one f (z ∷ l) (fresh n d) x m =
      ⊎_elim
      (λ (a : x ≡ z).
      rw (select, eq-eqb (f z) (f x) (ap f (sym a)), filter_none (λ (y : A). eqb (f y) (f x)) l (λ y k. ne_eqb (f y) (f x) (λ e. n (Memᴰ.cast (ap f (sym a) ∙ sym e) (Memᴰ.map f k)))))
      (ap (λ (w : A). w ∷ []) (sym a)))
      (λ (k : Memᴰ x l). rw (select, ne_eqb (f z) (f x) (λ e. n (Memᴰ.cast e (Memᴰ.map f k)))) (filter_one f l d x k))
      (Memᴰ.cases_cons m)

  -- what stands before and after a member
  split_at : {x : A} {l : List A} → Memᴰ x l → (s : List A) × (t : List A) × (l ≡ s ++ x ∷ t)
  split_at (Memᴰ.head {xs = xs} e) = ([], xs, ap (λ (a : A). a ∷ xs) (sym e))
  split_at (Memᴰ.tail {x = y} m) = let r = split_at m in (y ∷ r.0, r.1, ap (λ (k : List A). y ∷ k) r.2)

  -- a list of other members is a list of members without this one
  others : (l s t : List A) (x : A) → (Memᴰ x l → ⊥) → ((y : A) → Memᴰ y l → Memᴰ y (s ++ x ∷ t)) → (y : A) → Memᴰ y l → Memᴰ y (s ++ t)
  others l s t x n sub y m = ⊎_elim (λ (e : y ≡ x). absurd (n (Memᴰ.cast (sym e) m))) (λ (k : Memᴰ y (s ++ t)). k) (insert_cases s t x (sub y m))

  one_more_lem : (s t : List A) (x : A) → length (s ++ x ∷ t) ≡ suc (length (s ++ t))
  one_more_lem s t x = omega (arith, length-append s (x ∷ t), length-append s t)

  pub sub_length : {l : List A} (m : List A) → Distinct l → ((y : A) → Memᴰ y l → Memᴰ y m) → length l ≤ length m
  sub_length m empty sub = zero-le
  sub_length m (fresh {x = x} {l = l} n d) sub =
      let c = split_at (sub x (Memᴰ.head refl)) in
      let more : length l ≤ length (c.0 ++ c.1) =
      sub_length (c.0 ++ c.1) d (others l c.0 c.1 x n (λ y k. rw c.2 at (sub y (Memᴰ.tail k))))
      in
      omega (arith, one_more_lem c.0 c.1 x, ap (λ (k : List A). length k) c.2)

  put_back : (l s t : List A) (x : A) → (Memᴰ x l → ⊥) → Distinct (s ++ t) × ((y : A) → Memᴰ y (s ++ t) → Memᴰ y l)
      → Distinct (s ++ x ∷ t) × ((y : A) → Memᴰ y (s ++ x ∷ t) → Memᴰ y (x ∷ l))
  put_back l s t x n r = (
    distinct_insert s t x r.0 (λ m. n (r.1 x m)),
    λ y m. ⊎_elim (λ (e : y ≡ x). Memᴰ.head e) (λ (k : Memᴰ y (s ++ t)). Memᴰ.tail (r.1 y k)) (insert_cases s t x m),
  )

  none_left : (m : List A) → length m ≤ 0 → Distinct m × ((y : A) → Memᴰ y m → Memᴰ y [])
  none_left [] h = (empty, λ y k. k)
  none_left (z ∷ m) h = absurd (not-suc-le-zero h)

  pub sub_fills : {l : List A} (m : List A) → Distinct l → ((y : A) → Memᴰ y l → Memᴰ y m) → length m ≤ length l
      → Distinct m × ((y : A) → Memᴰ y m → Memᴰ y l)
  sub_fills m empty sub h = none_left m h
  sub_fills m (fresh {x = x} {l = l} n d) sub h =
      let c = split_at (sub x (Memᴰ.head refl)) in
      let few : length (c.0 ++ c.1) ≤ length l = omega (arith, one_more_lem c.0 c.1 x, ap (λ (k : List A). length k) c.2) in
      let r = sub_fills (c.0 ++ c.1) d (others l c.0 c.1 x n (λ y k. rw c.2 at (sub y (Memᴰ.tail k)))) few in
      rw c.2 (put_back l c.0 c.1 x n r)

-- numbers below n without repeats are at most n
pub distinct_le : (l : List ℕ) (n : ℕ) → Distinct l → ((v : ℕ) → Memᴰ v l → v < n) → length l ≤ n
unfolding below
distinct_le l n d h = rw (length_span 0 n) at (sub_length (below n) d (λ v m. below_in n v (h v m)))
