-- What is asked of edges: that they stay below a number of nodes, that each can be gone back, that no two of a node lead to one node.
use Rattle.std.specs.Prelude.{ℕ, ◌<◌, ◌≡◌}
use mathlib.Core.List.{List, map, Memᴰ}
use Rattle.base_laws.specs.Lists.{Distinct}
use Rattle.rule_routes.specs.Edges.{Edge}

-- the edges of nodes below n lead to nodes below n
abbrev pub Within : (ℕ → List Edge) → ℕ → Type 0
Within edges n = (u : ℕ) → u < n → (e : Edge) → Memᴰ e (edges u) → e.target < n

-- Edges come in opposite pairs: an edge back, which asks for no further side node.
abbrev pub Paired : (ℕ → List Edge) → ℕ → Type 0
Paired edges n =
    (u : ℕ) → u < n → (e : Edge) → Memᴰ e (edges u)
    → (b : Edge) × Memᴰ b (edges e.target) × (b.target ≡ u) × ((c : ℕ) → Memᴰ c b.sides → Memᴰ c e.sides)

-- no two edges of a node lead to one node
abbrev pub OneEdge : (ℕ → List Edge) → Type 0
OneEdge edges = (u : ℕ) → Distinct (map (λ (e : Edge). e.target) (edges u))
