-- An input is whole exactly where reads of a byte or more each were followed by one of none, with room left to see it: no read failed before the input's end.
use Prim.Native.Nat.{ℕ, ◌+◌, ◌<◌}
use mathlib.Core.Path.{◌≡◌, refl, sym, ◌∙◌, ap}
use mathlib.Core.Bool.{Bool, true, false}
use mathlib.Core.List.{List, [], ◌∷◌, ◌++◌, map}
use native.Mathlib.Omega.{arith}
use lib.Dec.{ltb, eqb}
use Rattle.std.specs.Prelude.{Option, None, Some}
use borrow.Author.Tests.{ltb-true, lt-ltb, eqb-true, eqb-false, ne_eqb}
use Rattle.base_laws.specs.Lists.{all_of, total}
use Rattle.base_laws.proofs.Members.{both}
use Rattle.input_arrival.specs.Arrivals.{takes, arrived_from, arrived}
use Rattle.input_arrival.specs.declared.Arrival.{Arrival}
use Rattle.input_arrival.specs.declared.Arrival.TheVariants.{Going, Whole, Cut}

-- the answers of reads that found all of an input, n bytes after the first m
pub record Ended (room m : ℕ) (answers : List (Option ℕ)) (n : ℕ) : Type 0 where
  pub reads : List ℕ
  pub after : List (Option ℕ)
  pub are : answers ≡ map Some reads ++ Some 0 ∷ after
  pub some : all_of (λ (k : ℕ). ltb 0 k) reads ≡ true
  pub sum : n ≡ m + total reads
  pub within : n < room

module _ (room : ℕ) where
  pub cut_stays : (answers : List (Option ℕ)) → arrived_from room Cut answers ≡ Cut
  unfolding arrived_from takes
  cut_stays [] = refl
  cut_stays (a ∷ as') = cut_stays as'

  pub whole_stays : (n : ℕ) (answers : List (Option ℕ)) → arrived_from room (Whole n) answers ≡ Whole n
  unfolding arrived_from takes
  whole_stays n [] = refl
  whole_stays n (a ∷ as') = whole_stays n as'

  pub arrived_append : (a : Arrival) (xs ys : List (Option ℕ)) → arrived_from room a (xs ++ ys) ≡ arrived_from room (arrived_from room a xs) ys
  unfolding arrived_from
  arrived_append a [] ys = refl
  arrived_append a (x ∷ xs) ys = arrived_append (takes room a x) xs ys

  -- a read that fails before the end of the input: it is cut, whatever follows
  pub failed_cut : (n : ℕ) (xs ys : List (Option ℕ)) → arrived room xs ≡ Going n → arrived room (xs ++ None ∷ ys) ≡ Cut
  unfolding arrived arrived_from takes
  failed_cut n xs ys e =
      arrived_append (Going 0) xs (None ∷ ys) ∙ ap (λ (a : Arrival). arrived_from room a (None ∷ ys)) e ∙ cut_stays ys

  whole_ended : (m n : ℕ) (answers : List (Option ℕ)) → arrived_from room (Going m) answers ≡ Whole n → Ended room m answers n
  unfolding arrived_from takes all_of total
  whole_ended m n [] e = absurd (cc)
  whole_ended m n (None ∷ xs) e =
      absurd (let f : Cut ≡ Whole n = sym (cut_stays xs) ∙ e in cc)
  whole_ended m n (Some k ∷ xs) e = go (ltb (m + k) room) refl (eqb k 0) refl e (whole_ended (m + k) n xs)
    where
      go : (b : Bool) → ltb (m + k) room ≡ b → (d : Bool) → eqb k 0 ≡ d
          → arrived_from room (elim b [ true ↦ elim d [ true ↦ Whole m | false ↦ Going (m + k) ] | false ↦ Cut ]) xs ≡ Whole n
          → (arrived_from room (Going (m + k)) xs ≡ Whole n → Ended room (m + k) xs n) → Ended room m (Some k ∷ xs) n
      go false p d q f ih = absurd (let g : Cut ≡ Whole n = sym (cut_stays xs) ∙ f in cc)
      go true p true q f ih =
          let g : Whole m ≡ Whole n = sym (whole_stays m xs) ∙ f in
          let h : m ≡ n = cc in
          let z : k ≡ 0 = eqb-true k 0 q in
          let r : m + k < room = ltb-true (m + k) room p in
          record { reads = []; after = xs; are = ap (λ (j : ℕ). Some j ∷ xs) z; some = refl; sum = omega arith; within = omega arith }
      go true p false q f ih =
          let x = ih f in
          let l : 0 < k = (let d = eqb-false k 0 q in omega arith) in
          record {
            reads = k ∷ x.reads;
            after = x.after;
            are = ap (λ (ys : List (Option ℕ)). Some k ∷ ys) x.are;
            some = rw (lt-ltb 0 k l) x.some;
            sum = omega (arith, x.sum);
            within = x.within;
          }

  ended_whole : (m n : ℕ) (reads : List ℕ) (after : List (Option ℕ)) → all_of (λ (k : ℕ). ltb 0 k) reads ≡ true → n ≡ m + total reads → n < room
      → arrived_from room (Going m) (map Some reads ++ Some 0 ∷ after) ≡ Whole n
  unfolding arrived_from takes all_of total
  ended_whole m n [] after s e h =
      let z : m + 0 ≡ n = omega arith in
      rw (arrived_from, takes, lt-ltb (m + 0) room (let l : m + 0 < room = omega arith in l)) (whole_stays m after ∙ ap Whole (let y : m ≡ n = omega arith in y))
  ended_whole m n (k ∷ ks) after s e h =
      let b = both (ltb 0 k) (all_of (λ (j : ℕ). ltb 0 j) ks) s in
      let l : 0 < k = ltb-true 0 k b.0 in
      rw (arrived_from, takes, lt-ltb (m + k) room (let j : m + k < room = omega arith in j), ne_eqb k 0 (λ q. let no : ⊥ = omega arith in no))
      (ended_whole (m + k) n ks after b.1 (omega arith) h)

  -- whole means ended, and ended means whole
  pub whole_sound : (n : ℕ) (answers : List (Option ℕ)) → arrived room answers ≡ Whole n → Ended room 0 answers n
  unfolding arrived
  whole_sound n answers = whole_ended 0 n answers

  pub whole_complete : (n : ℕ) (answers : List (Option ℕ)) → Ended room 0 answers n → arrived room answers ≡ Whole n
  unfolding arrived
  whole_complete n answers x = ap (arrived_from room (Going 0)) x.are ∙ ended_whole 0 n x.reads x.after x.some x.sum x.within
