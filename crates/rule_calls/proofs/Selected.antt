-- What 17 tells of a selection that passes it.
use Prim.Native.Nat.{ℕ, ◌<◌}
use mathlib.Core.Path.{◌≡◌}
use mathlib.Core.Bool.{true, ◌&&◌}
use mathlib.Core.List.{List, Memᴰ}
use lib.Dec.{leb, ltb}
use lib.ListN.{length}
use borrow.Author.Tests.{ltb-true}
use Rattle.base_laws.specs.Lists.{all_of, ascends}
use Rattle.base_laws.proofs.Members.{both, all_member}
use Rattle.rule_calls.specs.Calls.{selection_fits}

pub record Selected (n : ℕ) (s : List ℕ) : Type 0 where
  pub rising : ascends s ≡ true
  pub named : (i : ℕ) → Memᴰ i s → i < n

pub selected_is : (n : ℕ) (s : List ℕ) → selection_fits n s ≡ true → Selected n s
unfolding selection_fits
selected_is n s e =
    let t = all_of (λ (k : ℕ). ltb k n) s in
    let a = both (ascends s && t) (leb (length s) 6) e in
    let b = both (ascends s) t a.0 in
    record { rising = b.0; named = λ i m. ltb-true i n (all_member (λ (k : ℕ). ltb k n) s b.1 i m) }
