-- The look at placements: the members passed neither are the placement nor overlap it, and the list holds the extensions among the placements passed.
use Prim.Native.Nat.{ℕ, suc, ◌+◌, ◌≤◌, ◌<◌}
use mathlib.Core.Path.{◌≡◌, refl, sym, ap, ◌∙◌}
use mathlib.Core.Bool.{Bool, true, false, not, ◌&&◌, and-false}
use mathlib.Core.List.{List, [], ◌∷◌, ◌++◌, append_assoc}
use native.Mathlib.Numerals.{add-one}
use native.Mathlib.Omega.{arith}
use lib.Dec.{eqb, ltb}
use lib.IntN.{ℤ}
use lib.ListN.{length, get_or, set, take, drop, length-append, length-set}
use lib.Seq.{take_all, drop-cons, set_at}
use Rattle.std.specs.Ordering.{is_lt}
use Rattle.base_laws.specs.Lists.{any_of, select, below, member}
use Rattle.base_laws.proofs.Members.{get_d_member}
use Rattle.base_laws.proofs.Turns.{any_more, any_hit, filter_hit, filter_miss}
use Rattle.base_laws.proofs.Tests.{below_last}
use Rattle.rule_layouts.specs.Boards.{Places, used, may_join}
use Rattle.rule_layouts.specs.Flat.{places_in}
use Rattle.set_places.specs.Groups.{of_group, taken, InRow, InGroup}
use Rattle.set_places.proofs.Members.{fewer_is}
use Rattle.set_extend.specs.Join.{Rowed, free_slot, ListWritten}

-- ---- the members
-- the four numbers of each member stand in the row
pub in_row : {n : ℕ} {groups numbers : List ℕ} {edges : List ℤ} {s : List ℕ} → Rowed n groups numbers edges s → InRow numbers s
in_row {s = s} r = record { whole = λ j h. omega (arith, r.fours, r.named (get_or s j 0) (get_d_member s j 0 h)) }

pub slot_left : (n : ℕ) (groups numbers : List ℕ) (edges : List ℤ) (s : List ℕ) (i : ℕ) → is_lt (taken groups numbers s i) ≡ free_slot (places_in n groups numbers edges) s i
unfolding free_slot places_in used of_group
slot_left n groups numbers edges s i = fewer_is _ _

-- placement i stands in the row, and is of a group that there is
pub in_group : {n : ℕ} {groups numbers : List ℕ} {edges : List ℤ} {s : List ℕ} {i : ℕ} → Rowed n groups numbers edges s → i < n → InGroup groups numbers s i
in_group {i = i} r h = record { members = in_row r; whole = omega (arith, r.fours); grouped = r.grouped i h }

-- no member among the first j bars placement i
pub record Clear (p : Places) (s : List ℕ) (i j : ℕ) : Type 0 where
  pub upto : j ≤ length s
  pub apart : any_of (λ (m : ℕ). eqb i m) (take j s) ≡ false
  pub clear : any_of (λ (m : ℕ). p.overlap i m) (take j s) ≡ false

pub clear_start : (p : Places) (s : List ℕ) (i : ℕ) → Clear p s i 0
unfolding any_of
clear_start p s i = record { upto = omega arith; apart = refl; clear = refl }

pub clear_more : (p : Places) (s : List ℕ) (i j : ℕ) → Clear p s i j → j < length s → eqb i (get_or s j 0) ≡ false → p.overlap i (get_or s j 0) ≡ false → Clear p s i (j + 1)
clear_more p s i j c h a b = record {
  upto = omega arith;
  apart = rw add-one (any_more (λ (m : ℕ). eqb i m) s j 0 h a c.apart);
  clear = rw add-one (any_more (λ (m : ℕ). p.overlap i m) s j 0 h b c.clear);
}

-- ---- who may join
module _ (p : Places) (s : List ℕ) (i : ℕ) where
  pub no_slot : free_slot p s i ≡ false → may_join p s i ≡ false
  unfolding may_join free_slot
  no_slot e = rw (e, and-false (not (member i s)))

  pub is_member : (j : ℕ) → j < length s → eqb i (get_or s j 0) ≡ true → may_join p s i ≡ false
  unfolding may_join member
  is_member j h e = rw (any_hit (λ (m : ℕ). eqb i m) s j 0 h e)

  pub in_the_way : (j : ℕ) → j < length s → p.overlap i (get_or s j 0) ≡ true → may_join p s i ≡ false
  unfolding may_join
  in_the_way j h e = rw (any_hit (λ (m : ℕ). p.overlap i m) s j 0 h e) (and-false (not (member i s) && ltb (used p (p.group i) s) (p.slots (p.group i))))

  pub joins : (j : ℕ) → Clear p s i j → length s ≤ j → free_slot p s i ≡ true → may_join p s i ≡ true
  unfolding may_join member free_slot
  joins j c h e =
      let a = rw (take_all j s h) at c.apart in
      let b = rw (take_all j s h) at c.clear in
      rw (a, e, b)

-- ---- the list
module _ (f : ℕ → Bool) (area : List ℕ) where
  pub listed_start : ListWritten (select f (below 0)) area area 0
  unfolding select below Rattle.base_laws.specs.Lists.span
  listed_start = record { count = refl; list = refl }

  pub listed_skip : (area' : List ℕ) (k i : ℕ) → f i ≡ false → ListWritten (select f (below i)) area area' k → ListWritten (select f (below (i + 1))) area area' k
  listed_skip area' k i e l =
      let q : select f (below (i + 1)) ≡ select f (below i) = rw (add-one, below_last i) (filter_miss f (below i) i e) in
      rw q l

  pub listed_add : (area' : List ℕ) (k i : ℕ) → f i ≡ true → k < length area → ListWritten (select f (below i)) area area' k
      → ListWritten (select f (below (i + 1))) area (set area' k i) (k + 1)
  listed_add area' k i e h l =
      let q : select f (below (i + 1)) ≡ select f (below i) ++ (i ∷ []) = rw (add-one, below_last i) (filter_hit f (below i) i e) in
      rw q
      (record {
        count = omega (arith, l.count, length-append (select f (below i)) (i ∷ []));
        list =
            ap (λ (t : List ℕ). set t k i) (l.list ∙ ap (λ (t : List ℕ). select f (below i) ++ t) (drop-cons area k 0 h))
            ∙ set_at (select f (below i)) (get_or area k 0) (drop (suc k) area) i k (sym l.count) ∙ rw (add-one k, append_assoc);
      })

-- ---- the loop over placements: those below i are looked at. What a route must have to be looked at, and what touches it, are any tests of a table of steps.
pub record Looking {T : Type 0} (p : Places) (s : List ℕ) (Fine : T → Type 0) (touch : T → ℕ → Bool) (area area' : List ℕ) (k i : ℕ) : Type 0 where
  pub upto : i ≤ p.count
  pub few : k ≤ i
  pub size : length area' ≡ length area
  pub so : (t : T) → Fine t → ListWritten (select (λ (i : ℕ). may_join p s i && touch t i) (below i)) area area' k

module _ {T : Type 0} (p : Places) (s : List ℕ) (Fine : T → Type 0) (touch : T → ℕ → Bool) (area : List ℕ) where
  pub look_start : Looking p s Fine touch area area 0 0
  look_start = record { upto = omega arith; few = omega arith; size = refl; so = λ t f. listed_start (λ (i : ℕ). may_join p s i && touch t i) area }

  module _ (area' : List ℕ) (k i : ℕ) (l : Looking p s Fine touch area area' k i) (h : i < p.count) where
    pub look_barred : may_join p s i ≡ false → Looking p s Fine touch area area' k (i + 1)
    look_barred e = record {
      upto = omega arith;
      few = omega (arith, l.few);
      size = l.size;
      so = λ t f. listed_skip (λ (i : ℕ). may_join p s i && touch t i) area area' k i (rw e) (l.so t f);
    }

    pub look_untouched : ((t : T) → Fine t → touch t i ≡ false) → Looking p s Fine touch area area' k (i + 1)
    look_untouched e = record {
      upto = omega arith;
      few = omega (arith, l.few);
      size = l.size;
      so = λ t f. listed_skip (λ (i : ℕ). may_join p s i && touch t i) area area' k i (rw (e t f) (and-false (may_join p s i))) (l.so t f);
    }

    pub look_add : p.count ≤ length area → may_join p s i ≡ true → ((t : T) → Fine t → touch t i ≡ true)
        → Looking p s Fine touch area (set area' k i) (k + 1) (i + 1)
    look_add room j e = record {
      upto = omega arith;
      few = omega (arith, l.few);
      size = length-set area' k i ∙ l.size;
      so = λ t f. listed_add (λ (i : ℕ). may_join p s i && touch t i) area area' k i (rw (j, e t f)) (omega (arith, l.few)) (l.so t f);
    }
