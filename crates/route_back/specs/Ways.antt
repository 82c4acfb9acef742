-- The way back over the predecessors that a search leaves: one more than each node's predecessor, or 0 where it is not reached.
use Rattle.std.specs.Prelude.{◌≡◌, List, [], ◌∷◌, ◌++◌, reverse, ℕ, suc, ◌<◌, length, get_or, drop}

-- back from x to the start stand these nodes, the start last
pub data Traced (predecessors : List ℕ) (start : ℕ) : ℕ → List ℕ → Type 0 where
  Traced·home : Traced predecessors start start []
  Traced·from : {x u : ℕ} {back : List ℕ} → (x ≡ start → ⊥) → get_or predecessors x 0 ≡ suc u → Traced predecessors start u back → Traced predecessors start x (u ∷ back)

-- the predecessors lead back from `end` to `start`, over fewer nodes than n
pub record Leads (predecessors : List ℕ) (start end n : ℕ) : Type 0 where
  pub back : List ℕ
  pub traced : Traced predecessors start end back
  pub fits : length back < n

-- the number of nodes on the way back, both ends counted
abbrev pub BackCounted : (predecessors : List ℕ) (start end n : ℕ) → Type 0
BackCounted predecessors start end n = (back : List ℕ) → Traced predecessors start end back → n ≡ suc (length back)

-- the way is laid from start to end into the first n entries
abbrev pub RouteLaid : (predecessors : List ℕ) (start end n : ℕ) (route route' : List ℕ) → Type 0
RouteLaid predecessors start end n route route' = (back : List ℕ) → Traced predecessors start end back → route' ≡ reverse (end ∷ back) ++ drop n route
