-- Sets that fit: placements in ascending order, within the slots, no footprints overlapping. Who may join a set, that it still fits then, and how many
-- members it can have.
use Prim.Native.Nat.{ℕ, zero, suc, ◌+◌, ◌≤◌, ◌<◌}
use mathlib.Core.Path.{◌≡◌, refl, sym, ◌∙◌, ap, subst}
use mathlib.Core.Bool.{true, false, not, ◌&&◌}
use mathlib.Core.Logic.{◌⊎◌, inl, inr, ⊎_elim, ◌≢◌}
use mathlib.Core.List.Memᴰ
use mathlib.Core.List.{List, [], ◌∷◌, map, Memᴰ}
use native.Mathlib.Decide.{ℕ_discrete}
use native.Mathlib.Omega.{arith}
use lib.Dec.{eqb, ltb}
use lib.ListN.{length, get_or}
use borrow.Author.Tests.{ltb-true, lt-ltb, eq-eqb, ne_eqb, not-true}
use Rattle.base_laws.specs.Lists.{any_of, select, span, below, total, member, ascends, put_in}
use Rattle.base_laws.proofs.Members.{both, both_true, none_member, filter_in, filter_out, below_in}
use Rattle.base_laws.proofs.Lists.{any_false, length_filter, length_below, below_out, span_out, sum_le, sum_plus, sum_same, sum_zero, map_get_d}
use Rattle.base_laws.proofs.Sets.{member_false, no_member, within_count, insert_cases, insert_ascends, count_cons, count_insert}
use Rattle.base_model.specs.declared.Placement.{Placement}
use Rattle.rule_layouts.specs.Boards.{Places, Board, used, may_join}
use Rattle.rule_layouts.specs.Inputs.{no_place, places_of}
use Rattle.rule_layouts.specs.Explore.{touches, extensions}
use Rattle.rule_layouts.specs.Fits.{Fits, MayJoin}

module _ (p : Places) where
  pub may_join_true : (s : List ℕ) (i : ℕ) → may_join p s i ≡ true → MayJoin p s i
  unfolding may_join
  may_join_true s i e =
      let a = both (not (member i s) && ltb (used p (p.group i) s) (p.slots (p.group i))) (not (any_of (λ (j : ℕ). p.overlap i j) s)) e in
      let b = both (not (member i s)) (ltb (used p (p.group i) s) (p.slots (p.group i))) a.0 in
      record {
        fresh = member_false i s (not-true (member i s) b.0);
        slot = ltb-true (used p (p.group i) s) (p.slots (p.group i)) b.1;
        apart = none_member (λ (j : ℕ). p.overlap i j) s (not-true (any_of (λ (j : ℕ). p.overlap i j) s) a.1);
      }

  pub true_may_join : (s : List ℕ) (i : ℕ) → MayJoin p s i → may_join p s i ≡ true
  unfolding may_join
  true_may_join s i j =
      both_true (both_true (ap not (no_member i s j.fresh)) (lt-ltb (used p (p.group i) s) (p.slots (p.group i)) j.slot))
      (ap not (any_false (λ (k : ℕ). p.overlap i k) s j.apart))

  -- how many of a group there are with one member more
  pub used_insert : (k i : ℕ) (s : List ℕ) → used p k (put_in i s) ≡ used p k (i ∷ []) + used p k s
  unfolding used
  used_insert k i s = count_insert (λ (j : ℕ). eqb (p.group j) k) i s ∙ count_cons (λ (j : ℕ). eqb (p.group j) k) i s

  pub used_own : (i : ℕ) → used p (p.group i) (i ∷ []) ≡ 1
  unfolding used select
  used_own i = rw (select, eq-eqb (p.group i) (p.group i) refl)

  pub used_other : (k i : ℕ) → p.group i ≢ k → used p k (i ∷ []) ≡ 0
  unfolding used select
  used_other k i d = rw (select, ne_eqb (p.group i) k d)

  -- a part of a set uses no more
  pub used_within : (k : ℕ) (s t : List ℕ) → ascends s ≡ true → ((j : ℕ) → Memᴰ j s → Memᴰ j t) → used p k s ≤ used p k t
  unfolding used
  used_within k s t a sub = within_count (λ (j : ℕ). eqb (p.group j) k) s t a sub

  pub fits_none : Fits p []
  unfolding ascends used select
  fits_none = record {
    is_set = refl;
    named = λ i m. absurd (Memᴰ.not-nil m);
    slotted = λ k. omega arith;
    apart = λ i j m n d. absurd (Memᴰ.not-nil m);
  }

  module _ (mutual_overlap : (i j : ℕ) → p.overlap i j ≡ p.overlap j i) where
    -- a set that fits, with one that may join it, fits
    pub fits_insert : (s : List ℕ) (i : ℕ) → Fits p s → i < p.count → MayJoin p s i → Fits p (put_in i s)
    fits_insert s i f named j = record {
      is_set = insert_ascends i s f.is_set j.fresh;
      named = λ k m. ⊎_elim (λ (e : k ≡ i). subst (λ (x : ℕ). x < p.count) (sym e) named) (f.named k) (insert_cases i k s m);
      slotted = λ k. slotted' k (ℕ_discrete (p.group i) k);
      apart = λ k l m n d. apart' k l d (insert_cases i k s m) (insert_cases i l s n);
    }
      where
        slotted' : (k : ℕ) → Dec (p.group i ≡ k) → used p k (put_in i s) ≤ p.slots k
        slotted' k (yes e) =
            subst (λ (k : ℕ). used p k (put_in i s) ≤ p.slots k) e (omega (arith, used_insert (p.group i) i s, used_own i, j.slot))
        slotted' k (no d) = omega (arith, used_insert k i s, used_other k i d, f.slotted k)

        apart' : (k l : ℕ) → k ≢ l → (k ≡ i) ⊎ Memᴰ k s → (l ≡ i) ⊎ Memᴰ l s → p.overlap k l ≡ false
        apart' k l d (inl e) (inl q) = absurd (d (e ∙ sym q))
        apart' k l d (inl e) (inr n) = ap (λ (x : ℕ). p.overlap x l) e ∙ j.apart l n
        apart' k l d (inr m) (inl q) = mutual_overlap k l ∙ ap (λ (x : ℕ). p.overlap x k) q ∙ j.apart k m
        apart' k l d (inr m) (inr n) = f.apart k l m n d

  -- ---- how many members: their groups' counts sum up to all of them
  one_group : (i k n : ℕ) → k ≤ p.group i → p.group i < k + n → total (map (λ j. used p j (i ∷ [])) (span k n)) ≡ 1
  unfolding span total
  one_group i k zero a b = absurd (omega arith)
  one_group i k (suc n) a b = go (ℕ_discrete (p.group i) k) (one_group i (suc k) n)
    where
      go : Dec (p.group i ≡ k) → (suc k ≤ p.group i → p.group i < suc k + n → total (map (λ j. used p j (i ∷ [])) (span (suc k) n)) ≡ 1)
          → used p k (i ∷ []) + total (map (λ j. used p j (i ∷ [])) (span (suc k) n)) ≡ 1
      go (yes e) later =
          omega (
            arith,
            ap (λ (k : ℕ). used p k (i ∷ [])) e,
            used_own i,
            sum_zero (λ j. used p j (i ∷ [])) (span (suc k) n) (λ j m. used_other j i (λ q. let o = span_out (suc k) n j m in let z : ⊥ = omega arith in z)),
          )
      go (no d) later = let ne : p.group i ≡ k → ⊥ = d in omega (arith, used_other k i d, later (omega arith) (omega arith))

  pub sum_used : (k : ℕ) (s : List ℕ) → ((i : ℕ) → Memᴰ i s → p.group i < k) → total (map (λ j. used p j s) (below k)) ≡ length s
  unfolding used select below
  sum_used k [] h = sum_zero (λ j. used p j []) (below k) (λ j m. refl)
  sum_used k (i ∷ s) h =
      sum_same (λ j. used p j (i ∷ s)) (λ j. used p j (i ∷ []) + used p j s) (below k) (λ j m. count_cons (λ (x : ℕ). eqb (p.group x) j) i s)
      ∙ sum_plus (λ j. used p j (i ∷ [])) (λ j. used p j s) (below k)
      ∙ omega (arith, one_group i 0 k (omega arith) (let z : p.group i < k = h i (Memᴰ.head refl) in omega arith), sum_used k s (λ j m. h j (Memᴰ.tail m)))

  -- with groups below k, a set that fits has no more members than there are slots
  pub fits_slots : (k : ℕ) → ((i : ℕ) → i < p.count → p.group i < k) → (s : List ℕ) → Fits p s → length s ≤ total (map p.slots (below k))
  fits_slots k h s f =
      omega (arith, sum_used k s (λ i m. h i (f.named i m)), sum_le (λ j. used p j s) p.slots (below k) (λ j m. f.slotted j))

-- with slot counts that sum to six at the most, it has six members at the most
pub fits_six : (groups : List ℕ) (ps : List Placement) → ((i : ℕ) → i < length ps → (get_or ps i no_place).group < length groups) → total groups ≤ 6
    → (s : List ℕ) → Fits (places_of groups ps) s → length s ≤ 6
unfolding places_of
fits_six groups ps h l s f = omega (arith, fits_slots (places_of groups ps) (length groups) h s f, ap (λ (xs : List ℕ). total xs) (map_get_d 0 groups))

-- ---- extensions
module _ (g : Board) where
  pub extensions_out : (s r : List ℕ) (i : ℕ) → Memᴰ i (extensions g s r) → (i < g.places.count) × MayJoin g.places s i × (touches g r i ≡ true)
  unfolding extensions
  extensions_out s r i m =
      let o = filter_out (λ (i : ℕ). may_join g.places s i && touches g r i) (below g.places.count) i m in
      let b = both (may_join g.places s i) (touches g r i) o.1 in
      (below_out g.places.count i o.0, may_join_true g.places s i b.0, b.1)

  pub extensions_in : (s r : List ℕ) (i : ℕ) → i < g.places.count → MayJoin g.places s i → touches g r i ≡ true → Memᴰ i (extensions g s r)
  unfolding extensions
  extensions_in s r i h j t =
      filter_in (λ (i : ℕ). may_join g.places s i && touches g r i) (below g.places.count) i (below_in g.places.count i h) (both_true (true_may_join g.places s i j) t)

  pub length_extensions : (s r : List ℕ) → length (extensions g s r) ≤ g.places.count
  unfolding extensions
  length_extensions s r =
      omega (arith, length_filter (λ (i : ℕ). may_join g.places s i && touches g r i) (below g.places.count), length_below g.places.count)
