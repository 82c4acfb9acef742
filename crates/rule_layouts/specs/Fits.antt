-- Sets that fit, and who may join one.
use Rattle.std.specs.Prelude.{ℕ, ◌≤◌, ◌<◌, ◌≡◌, true, false, ◌≢◌}
use mathlib.Core.List.{List, Memᴰ}
use Rattle.base_laws.specs.Lists.{ascends}
use Rattle.rule_layouts.specs.Boards.{Places, used}

-- placements in ascending order, within the slots, no footprints overlapping
pub record Fits (p : Places) (s : List ℕ) : Type 0 where
  pub is_set : ascends s ≡ true
  pub named : (i : ℕ) → Memᴰ i s → i < p.count
  pub slotted : (k : ℕ) → used p k s ≤ p.slots k
  pub apart : (i j : ℕ) → Memᴰ i s → Memᴰ j s → i ≢ j → p.overlap i j ≡ false

-- placement i may join the set s
pub record MayJoin (p : Places) (s : List ℕ) (i : ℕ) : Type 0 where
  pub fresh : Memᴰ i s → ⊥
  pub slot : used p (p.group i) s < p.slots (p.group i)
  pub apart : (j : ℕ) → Memᴰ j s → p.overlap i j ≡ false
