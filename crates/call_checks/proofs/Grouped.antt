-- Slot counts, summed one by one.
use Prim.Native.Nat.{ℕ, ◌+◌, ◌*◌, ◌≤◌, ◌<◌}
use mathlib.Core.Path.{◌≡◌, refl, ap, ◌∙◌}
use mathlib.Core.Bool.{Bool, true, false, ◌&&◌, and-false}
use mathlib.Core.List.{List}
use native.Mathlib.Omega.{arith}
use native.Mathlib.Numerals.{add-one}
use lib.Dec.{leb}
use lib.ListN.{length, get_or, drop, drop_of_length-le}
use lib.Seq.{drop-cons}
use borrow.Author.Tests.{le-leb, lt-leb, leb-true}
use borrow.Author.Count.{below_more}
use Rattle.base_laws.specs.Lists.{all_of, total}
use Rattle.base_laws.proofs.Members.{both}
use Rattle.base_laws.proofs.Tests.{all_true, all_false}
use Rattle.call_checks.specs.Parts.{groups_fit}

-- a slot count from 1 to 6
abbrev pub slots_fit : ℕ → Bool
slots_fit k = leb 1 k && leb k 6

-- the first i counts are from 1 to 6, and have been summed
pub record Summed (gs : List ℕ) (sum i : ℕ) : Type 0 where
  pub few : length gs ≤ 6
  pub upto : i ≤ length gs
  pub fits : (k : ℕ) → k < i → slots_fit (get_or gs k 0) ≡ true
  pub left : sum + total (drop i gs) ≡ total gs
  pub small : sum ≤ 6 * i

pub slots_small : (k : ℕ) → slots_fit k ≡ true → k ≤ 6
slots_small k e = leb-true k 6 (both (leb 1 k) (leb k 6) e).1

module _ (gs : List ℕ) where
  pub groups_many : 6 < length gs → groups_fit gs ≡ false
  unfolding groups_fit
  groups_many h = rw (lt-leb (length gs) 6 h)

  pub misfit : (i : ℕ) → i < length gs → slots_fit (get_or gs i 0) ≡ false → groups_fit gs ≡ false
  unfolding groups_fit
  misfit i h e =
      ap (λ (b : Bool). leb (length gs) 6 && b && leb (total gs) 6) (all_false slots_fit 0 gs i h e)
      ∙ ap (λ (b : Bool). b && leb (total gs) 6) (and-false (leb (length gs) 6))

  pub none_summed : length gs ≤ 6 → Summed gs 0 0
  none_summed h = record { few = h; upto = omega arith; fits = λ k l. absurd (omega arith); left = omega arith; small = omega arith }

  pub one_summed : (sum i : ℕ) → Summed gs sum i → i < length gs → slots_fit (get_or gs i 0) ≡ true → Summed gs (sum + get_or gs i 0) (i + 1)
  unfolding total
  one_summed sum i s h fit =
      let hi = slots_small (get_or gs i 0) fit in
      let e : total (drop i gs) ≡ get_or gs i 0 + total (drop (i + 1) gs) = rw (add-one i, drop-cons gs i 0 h) refl in
      record {
        few = s.few;
        upto = omega arith;
        fits = below_more _ _ s.fits fit;
        left = omega (arith, e, s.left);
        small = omega (arith, s.small);
      }

  pub all_summed : (sum i : ℕ) → Summed gs sum i → length gs ≤ i → leb sum 6 ≡ groups_fit gs
  unfolding groups_fit total
  all_summed sum i s h =
      let e : sum ≡ total gs = let z : total (drop i gs) ≡ 0 = rw (drop_of_length-le gs h) refl in omega (arith, s.left, z) in
      let f : all_of slots_fit gs ≡ true = all_true slots_fit 0 gs (λ k l. s.fits k (omega arith)) in
      rw (le-leb (length gs) 6 s.few, f, e)
