-- A row looked at and changed byte by byte: what is still to be changed is as it was.
use mathlib.Core.Path.{◌≡◌, refl, ap}
use mathlib.Core.Bool.{Bool, true, ◌&&◌}
use mathlib.Core.List.{List, [], ◌∷◌, ◌++◌, map}
use Prim.Native.Nat.{ℕ, ◌+◌, ◌<◌}
use native.Mathlib.Omega.{arith}
use lib.ListN.{length, get_or, set, take, drop, replicate}
use borrow.Author.Tests.{ltb-true}
use Rattle.std.specs.List.{list_all}
use Rattle.std.proofs.lemmas.Grind.{common_steps}
use Rattle.std.proofs.lemmas.List.Edits.{map_over_more}
use Rattle.base_laws.specs.Lists.{all_of}
use Rattle.base_laws.proofs.Members.{all_member, get_d_member}
use Rattle.rule_covers.specs.Covers.{may_rise, may_fall}
use Rattle.ground_spans.specs.declared.Change.{Change}
use Rattle.ground_spans.specs.declared.Change.TheVariants.{Mark, Raise, Lower}
use Rattle.ground_spans.specs.Changes.{made, allows}

-- the iterator's word and the definitions'
pub all_allowed : (change : Change) (row : List ℕ) → list_all (allows change) row ≡ all_of (allows change) row
unfolding all_of
all_allowed change [] = refl
all_allowed change (b ∷ row) = ap (λ (t : Bool). allows change b && t) (all_allowed change row)

pub all_marked : (v : List ℕ) → replicate (length v) 1 ≡ map (made Mark) v
unfolding made
all_marked [] = refl
all_marked (b ∷ v) = ap (λ (l : List ℕ). 1 ∷ l) (all_marked v)

-- row has become v, whose first i bytes have changed: the next is as it was
pub at_hand : (f : ℕ → ℕ) (row v : List ℕ) (i : ℕ) → i < length row → v ≡ map f (take i row) ++ drop i row → get_or v i 0 ≡ get_or row i 0
at_hand f row v i h e = grind (arith, common_steps)

pub changed_more : (f : ℕ → ℕ) (row v : List ℕ) (i : ℕ) → i < length row → v ≡ map f (take i row) ++ drop i row
    → set v i (f (get_or v i 0)) ≡ map f (take (i + 1) row) ++ drop (i + 1) row
changed_more f row v i h e =
    let n : i < length v = rw e (grind (arith, common_steps)) in
    map_over_more f row v i (get_or v i 0) h e (grind (arith, common_steps))

pub may_raise : (row : List ℕ) (i : ℕ) → i < length row → all_of (allows Raise) row ≡ true → get_or row i 0 < 255
unfolding allows may_rise
may_raise row i h e = ltb-true (get_or row i 0) 255 (all_member (allows Raise) row e (get_or row i 0) (get_d_member row i 0 h))

pub may_lower : (row : List ℕ) (i : ℕ) → i < length row → all_of (allows Lower) row ≡ true → 0 < get_or row i 0
unfolding allows may_fall
may_lower row i h e = ltb-true 0 (get_or row i 0) (all_member (allows Lower) row e (get_or row i 0) (get_d_member row i 0 h))
