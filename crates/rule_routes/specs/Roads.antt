-- Roads: the nodes of a chain in their order, what is said of a route, and of a route there and back (RULES 2.5).
use Rattle.std.specs.Prelude.{ℕ, ◌≤◌, ◌<◌, ◌≡◌, Bool, true, ◌↔◌, length}
use Rattle.std.proofs.Math.Option.{some}
use mathlib.Core.List.{List, [], ◌∷◌, reverse, Memᴰ}
use Rattle.base_laws.specs.Lists.{Distinct}
use Rattle.rule_routes.specs.Edges.{Edge}
use Rattle.rule_routes.specs.Routes.{neighbours, route}

-- the nodes from s to t, each a neighbour of the one before it
pub data Walk (nbrs : ℕ → List ℕ) : (s t : ℕ) → List ℕ → Type 0 where
  Walk·stop : {u : ℕ} → Walk nbrs u u (u ∷ [])
  Walk·step : {u v w : ℕ} {r : List ℕ} → Memᴰ v (nbrs u) → Walk nbrs v w r → Walk nbrs u w (u ∷ r)

-- r leads from s to t over open nodes below n and holds none twice
pub record Road (edges : ℕ → List Edge) (n : ℕ) (free : ℕ → Bool) (s t : ℕ) (r : List ℕ) : Type 0 where
  pub walk : Walk (neighbours edges free) s t r
  pub opens : (v : ℕ) → Memᴰ v r → free v ≡ true
  pub small : (v : ℕ) → Memᴰ v r → v < n
  pub once : Distinct r
  pub short : length r ≤ n

-- there is a route from s to t
unfoldable pub Routed : (ℕ → List Edge) → (n : ℕ) → (ℕ → Bool) → (s t : ℕ) → Type 0
Routed edges n free s t = (r : List ℕ) × (route edges n free s t ≡ some r)

-- There is a route there exactly when there is one back, and the road there, gone from its end, is a road back.
pub record BothLegs (edges : ℕ → List Edge) (n : ℕ) (free : ℕ → Bool) (s t : ℕ) : Type 0 where
  pub both_ways : Routed edges n free s t ↔ Routed edges n free t s
  pub there : (r : List ℕ) → route edges n free s t ≡ some r → Road edges n free s t r
  pub back : (r : List ℕ) → route edges n free s t ≡ some r → Road edges n free t s (reverse r)
