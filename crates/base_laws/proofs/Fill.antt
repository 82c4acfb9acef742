-- Filling, clearing and copying an area: one law over the place and the element type. A loop writes f i at `at` + i for each i below n; clearing is a constant f,
-- copying reads f off another area.
use mathlib.Core.Path.{◌≡◌, refl, sym, ap, subst, ◌∙◌}
use mathlib.Core.List.{List, [], ◌∷◌, ◌++◌, map}
use Prim.Native.Nat.{ℕ, zero, suc, ◌+◌, ◌-◌, ◌≤◌, ◌<◌}
use native.Mathlib.Numerals.{add-one}
use native.Mathlib.Omega.{arith}
use lib.ListN.{length, get_or, set, take, drop, replicate, length-append, length-drop, length-set, take-append-drop, get_or-append}
use lib.Seq.{drop_at, drop-cons, get_or-append-add, get_or-drop, get_or-take, length-take-le}
use Rattle.base_laws.specs.Lists.{span, below}
use Rattle.base_laws.specs.Fill.{over, filled, filled_from, FillingFrom, Filling}
use Rattle.base_laws.proofs.Lists.{map_get_d}
use Rattle.base_laws.proofs.Stores.{over_part}
use Rattle.base_laws.proofs.Tables.{length_table, table_at, table_is, table_same}

module _ {A : Type 0} where
  -- ---- the loop
  set_past : (xs ys : List A) (i k : ℕ) (x : A) → k ≡ length xs + i → set (xs ++ ys) k x ≡ xs ++ set ys i x
  set_past [] ys i k x e = let q : k ≡ i = omega arith in rw q
  set_past (y ∷ xs) ys i zero x e = absurd (omega arith)
  set_past (y ∷ xs) ys i (suc k) x e = ap (λ (l : List A). y ∷ l) (set_past xs ys i k x (omega arith))

  more_from : (f : ℕ → A) (k i j : ℕ) (v : List A) → j ≡ k + i → i < length v → set (map f (span k i) ++ drop i v) i (f j) ≡ map f (span k (suc i)) ++ drop (suc i) v
  unfolding span
  more_from f k i j [] e h = absurd (omega arith)
  more_from f k zero j (x ∷ v) e h = let q : j ≡ k = omega arith in rw q
  more_from f k (suc i) j (x ∷ v) e h = ap (λ (l : List A). f k ∷ l) (more_from f (suc k) i j v (omega arith) (omega arith))

  module _ (f : ℕ → A) (at : ℕ) (v : List A) where
    filled_none : filled_from f at 0 v ≡ v
    unfolding filled_from filled below span
    filled_none = take-append-drop at v

    filled_more : (i : ℕ) → at + i < length v → set (filled_from f at i v) (at + i) (f i) ≡ filled_from f at (i + 1) v
    unfolding filled_from filled below
    filled_more i h =
        let l = length-take-le at v (let w : at ≤ length v = omega arith in w) in
        set_past (take at v) (map f (span 0 i) ++ drop i (drop at v)) i (at + i) (f i) (omega arith)
        ∙ ap (λ (q : List A). take at v ++ q) (more_from f 0 i i (drop at v) (omega arith) (omega (arith, length-drop at v)))
        ∙ ap (λ (k : ℕ). take at v ++ (map f (span 0 k) ++ drop k (drop at v))) (sym (add-one i))

    -- as a part stored
    pub filled_over : (n : ℕ) → filled_from f at n v ≡ over v at (map f (below n))
    unfolding filled_from filled
    filled_over n = over_part v at n (map f (below n)) (length_table f n)

  module _ (f : ℕ → A) (at n : ℕ) (v₀ : List A) (room : at + n ≤ length v₀) where
    pub filling_from_none : FillingFrom f at n v₀ v₀ 0
    filling_from_none = record { upto = omega arith; size = refl; holds = sym (filled_none f at v₀) }

    pub filling_from_more : (v : List A) (i : ℕ) (x : A) → i < n → x ≡ f i → FillingFrom f at n v₀ v i → FillingFrom f at n v₀ (set v (at + i) x) (i + 1)
    filling_from_more v i x h e t = record {
      upto = omega arith;
      size = length-set v (at + i) x ∙ t.size;
      holds = rw (t.holds, e) (filled_more f at v₀ i (omega arith));
    }

    pub filling_from_all : (v : List A) (i : ℕ) → n ≤ i → FillingFrom f at n v₀ v i → v ≡ filled_from f at n v₀
    filling_from_all v i h t = let e : i ≡ n = omega (arith, t.upto) in t.holds ∙ ap (λ (k : ℕ). filled_from f at k v₀) e

  -- the case at place 0
  module _ (f : ℕ → A) (n : ℕ) (v₀ : List A) (room : n ≤ length v₀) where
    pub filling_none : Filling f n v₀ v₀ 0
    filling_none = filling_from_none f 0 n v₀ (omega arith)

    pub filling_more : (v : List A) (i : ℕ) (x : A) → i < n → x ≡ f i → Filling f n v₀ v i → Filling f n v₀ (set v i x) (i + 1)
    filling_more v i x h e t =
        let z : 0 + i ≡ i = omega arith in
        subst (λ (k : ℕ). Filling f n v₀ (set v k x) (i + 1)) z (filling_from_more f 0 n v₀ (omega arith) v i x h e t)

    pub filling_all : (v : List A) (i : ℕ) → n ≤ i → Filling f n v₀ v i → v ≡ filled f n v₀
    unfolding filled_from
    filling_all v i h t = filling_from_all f 0 n v₀ (omega arith) v i h t

  -- ---- what is written
  pub filled_same : (f g : ℕ → A) (n : ℕ) (v : List A) → ((i : ℕ) → i < n → f i ≡ g i) → filled f n v ≡ filled g n v
  unfolding filled
  filled_same f g n v h = ap (λ (l : List A). l ++ drop n v) (table_same f g n h)

  const_from : (a : A) (k n : ℕ) → map (λ (i : ℕ). a) (span k n) ≡ replicate n a
  unfolding span
  const_from a k zero = refl
  const_from a k (suc n) = ap (λ (l : List A). a ∷ l) (const_from a (suc k) n)

  pub filled_const : (a : A) (n : ℕ) (v : List A) → filled (λ (i : ℕ). a) n v ≡ replicate n a ++ drop n v
  unfolding filled below
  filled_const a n v = ap (λ (l : List A). l ++ drop n v) (const_from a 0 n)

  -- ---- what stands where
  module _ (f : ℕ → A) (n : ℕ) (v : List A) where
    pub filled_length : n ≤ length v → length (filled f n v) ≡ length v
    unfolding filled
    filled_length room = omega (arith, length-append (map f (below n)) (drop n v), length_table f n, length-drop n v)

    pub filled_at : (i : ℕ) (d : A) → i < n → get_or (filled f n v) i d ≡ f i
    unfolding filled
    filled_at i d h = get_or-append (map f (below n)) (drop n v) d i (omega (arith, length_table f n)) ∙ table_at f n i d h

    pub filled_past : (i : ℕ) (d : A) → n ≤ i → get_or (filled f n v) i d ≡ get_or v i d
    unfolding filled
    filled_past i d h =
        let e : i ≡ length (map f (below n)) + (i - n) = omega (arith, length_table f n) in
        let k : n + (i - n) ≡ i = omega arith in
        ap (λ (j : ℕ). get_or (map f (below n) ++ drop n v) j d) e
        ∙ get_or-append-add (map f (below n)) (drop n v) (i - n) d
        ∙ get_or-drop n v (i - n) d
        ∙ ap (λ (j : ℕ). get_or v j d) k

    -- filled again, nothing is left of the first filling
    pub filled_again : (g : ℕ → A) → filled g n (filled f n v) ≡ filled g n v
    unfolding filled
    filled_again g = ap (λ (l : List A). map g (below n) ++ l) (drop_at (map f (below n)) (drop n v) n (length_table f n))

  -- filled with its own entries
  pub filled_own : (n : ℕ) (v : List A) (d : A) → n ≤ length v → filled (λ (i : ℕ). get_or v i d) n v ≡ v
  unfolding filled
  filled_own n v d room =
      ap (λ (l : List A). l ++ drop n v) (sym (table_is (λ (i : ℕ). get_or v i d) n d (take n v) (length-take-le n v room) (λ i h. get_or-take n v i d h)))
      ∙ take-append-drop n v

module _ {A B : Type 0} where
  copy_from : (g : A → B) (s : List A) (d : A) (k n : ℕ) → k + n ≤ length s → map (λ (i : ℕ). g (get_or s i d)) (span k n) ≡ map g (take n (drop k s))
  unfolding span
  copy_from g s d k zero h = refl
  copy_from g s d k (suc n) h = rw (drop-cons s k d (omega arith)) (ap (λ (l : List B). g (get_or s k d) ∷ l) (copy_from g s d (suc k) n (omega arith)))

  -- an area copied through g
  pub filled_copy : (g : A → B) (s : List A) (d : A) (n : ℕ) (v : List B) → n ≤ length s → filled (λ (i : ℕ). g (get_or s i d)) n v ≡ map g (take n s) ++ drop n v
  unfolding filled below
  filled_copy g s d n v h = ap (λ (l : List B). l ++ drop n v) (copy_from g s d 0 n (omega arith))

-- a whole list copied from `at` on
pub filled_with : {A : Type 0} (s : List A) (d : A) (at n : ℕ) (v : List A) → length s ≡ n → filled_from (λ (i : ℕ). get_or s i d) at n v ≡ over v at s
filled_with s d at n v e =
    filled_over (λ (i : ℕ). get_or s i d) at v n
    ∙ ap (λ (k : ℕ). over v at (map (λ (i : ℕ). get_or s i d) (below k))) (sym e)
    ∙ ap (over v at) (map_get_d d s)
