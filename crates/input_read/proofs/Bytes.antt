-- What reads do to the bytes that a reader has left, where they are known: what came so far and what is left are all of them.
use Prim.Native.Nat.{ℕ, ◌+◌, ◌-◌, ◌≤◌, ◌<◌}
use mathlib.Core.Path.{◌≡◌, refl, sym, ◌∙◌, ap, subst}
use mathlib.Core.Bool.{Bool, true, false}
use mathlib.Core.List.{List, ◌++◌, append_assoc}
use native.Mathlib.Omega.{arith}
use lib.Dec.{ltb, eqb}
use lib.ListN.{length, take, drop, take-append-drop}
use lib.Seq.{length-take-le, take-append_seam, drop-append_seam, take-append-add, take-append-le, take-take}
use borrow.Author.Tests.{ltb-true, eqb-true}
use borrow.Rule.Slice.PartMut.{put_mid, post_of}
use Rattle.std.specs.Prelude.{Option, None, Some, Result, Ok, Err}
use Rattle.std.specs.Result.{result_ok}
use Rattle.std.specs.Io.{ReadsAtMost}
use Rattle.std.specs.Io.KnownBytes.{ReadConsumes}
use Rattle.std.proofs.Common.{length-drop}
use Rattle.std.specs.Io.KnownBytes.{Consumes, IsAtEnd}
use Rattle.input_arrival.specs.Arrivals.{takes}
use Rattle.input_arrival.specs.declared.Arrival.{Arrival}
use Rattle.input_arrival.specs.declared.Arrival.TheVariants.{Going, Whole, Cut}
use Rattle.input_read.specs.Reads.{ReadOn}

-- one part, and then another
pub consumes_on : (a b c : Option (List ℕ)) (xs ys : List ℕ) → Consumes a b xs → Consumes b c ys → Consumes a c (xs ++ ys)
consumes_on None b c xs ys h k = tt
consumes_on (Some as') None c xs ys h k = absurd h
consumes_on (Some as') (Some bs) None xs ys h k = absurd k
consumes_on (Some as') (Some bs) (Some cs) xs ys h k =
    h ∙ ap (λ (l : List ℕ). xs ++ l) k ∙ sym (append_assoc xs ys cs)

module _ (at : ℕ) (before after : Option (List ℕ)) (xs ys : List ℕ) (inside : at ≤ length xs) where
  abbrev put : List ℕ
  put = put_mid at (length xs - at) xs ys

  front : length (take at xs) ≡ at
  front = length-take-le at xs inside

  stays : take at put ≡ take at xs
  stays = subst (λ (k : ℕ). take k put ≡ take at xs) front (take-append_seam (take at xs) (ys ++ post_of at (length xs - at) xs))

  follows : (n : ℕ) → n ≤ length ys → drop at (take (at + n) put) ≡ take n ys
  follows n h =
      ap (λ (l : List ℕ). drop at l)
      (subst (λ (k : ℕ). take (k + n) put ≡ take at xs ++ take n (ys ++ post_of at (length xs - at) xs)) front
      (take-append-add (take at xs) (ys ++ post_of at (length xs - at) xs) n))
      ∙ subst (λ (k : ℕ). drop k (take at xs ++ take n (ys ++ post_of at (length xs - at) xs)) ≡ take n (ys ++ post_of at (length xs - at) xs)) front
      (drop-append_seam (take at xs) (take n (ys ++ post_of at (length xs - at) xs)))
      ∙ take-append-le n ys (post_of at (length xs - at) xs) h

  whole_part : length (take (length xs - at) (drop at xs)) ≡ length xs - at
  whole_part = length-take-le (length xs - at) (drop at xs) (omega (arith, length-drop at xs))

  -- a read that put n bytes
  pub came : (z : Option ℕ) (n : ℕ) (r : Arrival) → z ≡ Some n → r ≡ takes (length xs) (Going at) z → length ys ≡ length (take (length xs - at) (drop at xs)) → n ≤ length ys
      → Consumes before after (take n ys) → (n ≡ 0 → 0 < length ys → IsAtEnd after) → ReadOn at before after xs put r
  unfolding takes
  came z n r p e l h k end = subst (ReadOn at before after xs put) (sym (e ∙ ap (takes (length xs) (Going at)) p))
      (go (ltb (at + n) (length xs)) refl (eqb n 0) refl)
    where
      go : (b : Bool) → ltb (at + n) (length xs) ≡ b → (d : Bool) → eqb n 0 ≡ d
          → ReadOn at before after xs put (elim b [ true ↦ elim d [ true ↦ Whole at | false ↦ Going (at + n) ] | false ↦ Cut ])
      go false q d s = tt
      go true q false s = (stays, subst (Consumes before after) (sym (follows n h)) k)
      go true q true s =
          let none_came : n ≡ 0 = eqb-true n 0 s in
          let room : at + n < length xs = ltb-true (at + n) (length xs) q in
          (refl, stays, subst (λ (m : ℕ). Consumes before after (take m ys)) none_came k, end none_came (omega (arith, l, whole_part)))

  -- a read that failed
  pub failed : (z : Option ℕ) (r : Arrival) (area' : List ℕ) → z ≡ None → r ≡ takes (length xs) (Going at) z → ReadOn at before after xs area' r
  unfolding takes
  failed z r area' p e = subst (ReadOn at before after xs area') (sym (e ∙ ap (takes (length xs) (Going at)) p)) tt

  -- a read, by what it answered
  pub answered : {E : Type 0} (got : Result ℕ E) (z : Option ℕ) (r : Arrival) → z ≡ result_ok got → r ≡ takes (length xs) (Going at) z
      → length ys ≡ length (take (length xs - at) (drop at xs)) → ReadsAtMost got ys → ReadConsumes before after got ys → ReadOn at before after xs put r
  answered (Ok n) z r p e l h k = came z n r p e l h.0 k.0 k.1
  answered (Err x) z r p e l h k = failed z r put p e

-- what came before and what came now
pub more_came : (first before after : Option (List ℕ)) (at n : ℕ) (area area' : List ℕ) (r : Arrival) → r ≡ Going n → at ≤ n
    → Consumes first before (take at area) → ReadOn at before after area area' r → Consumes first after (take n area')
more_came first before after at n area area' r e l h k =
    let d : ReadOn at before after area area' (Going n) = subst (ReadOn at before after area area') e k in
    subst (Consumes first after)
    (ap (λ (x : List ℕ). x ++ drop at (take n area')) (sym d.0 ∙ sym (take-take at n area' l)) ∙ take-append-drop at (take n area'))
    (consumes_on first before after (take at area) (drop at (take n area')) h d.1)
