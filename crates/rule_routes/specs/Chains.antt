-- Chains of steps over open nodes: what it is for two nodes to be joined, said without any search (RULES 2.3).
use Rattle.std.specs.Prelude.{ℕ, ◌≡◌, Bool, true}
use mathlib.Core.List.{List, Memᴰ}
use Rattle.rule_routes.specs.Edges.{Edge}
use Rattle.rule_routes.specs.Routes.{neighbours}

-- a chain of steps from s, each to a neighbour
pub data Chain (nbrs : ℕ → List ℕ) (s : ℕ) : ℕ → Type 0 where
  Chain·start : Chain nbrs s s
  Chain·step : {u v : ℕ} → Chain nbrs s u → Memᴰ v (nbrs u) → Chain nbrs s v

-- both ends are open, and a chain of steps over open nodes joins them
pub record Joined (edges : ℕ → List Edge) (free : ℕ → Bool) (s t : ℕ) : Type 0 where
  pub start_open : free s ≡ true
  pub end_open : free t ≡ true
  pub chain : Chain (neighbours edges free) s t
