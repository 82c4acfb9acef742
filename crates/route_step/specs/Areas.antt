-- The two areas that a search works in: the queue, and for each node one more than its predecessor, or 0 where it is not reached yet.
use Rattle.std.specs.Prelude.{◌≡◌, List, [], ◌∷◌, ℕ, zero, suc, ◌≤◌, length, get_or, set, take}

pub record Area : Type 0 where
  pub queue : List ℕ
  pub predecessors : List ℕ
  pub tail : ℕ

-- the areas after node u has tried its neighbour v
unfoldable pub entered : (u v : ℕ) → Area → Area
entered u v a =
    elim (get_or a.predecessors v 0) [
      | zero ↦ record { queue = set a.queue a.tail v; predecessors = set a.predecessors v (suc u); tail = suc a.tail }
      | suc p ↦ a
    ]

-- the areas after node u has tried these neighbours in order
unfoldable pub tried : (u : ℕ) → List ℕ → Area → Area
tried u [] a = a
tried u (v ∷ vs) a = tried u vs (entered u v a)

-- the number of entries that are not zero
unfoldable pub marks : List ℕ → ℕ
marks [] = 0
marks (zero ∷ l) = marks l
marks (suc x ∷ l) = suc (marks l)

-- both areas have room for c nodes, and the queue holds as many as are reached
pub record SearchRoom (c : ℕ) (a : Area) : Type 0 where
  pub queue_room : c ≤ length a.queue
  pub predecessors_room : c ≤ length a.predecessors
  pub used : marks (take c a.predecessors) ≡ a.tail
