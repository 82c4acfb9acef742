-- What a route is, said without a search (RULES 2.6): of the ways with the fewest points, the first in the order in which edges are tried.
use Rattle.std.specs.Prelude.{ℕ, ◌*◌, ◌/◌, ◌%◌, ◌≤◌, ◌<◌, ◌≡◌, Bool, true, ◌↔◌, ◌⊎◌, pos, ◌-ℤ◌, length}
use Rattle.std.proofs.Math.Option.{none, some}
use mathlib.Core.List.{List, ◌∷◌, map, Memᴰ}
use Rattle.rule_routes.specs.Edges.{Edge, Step, step_by, each_once, window_edges}
use Rattle.rule_routes.specs.Routes.{neighbours, route}
use Rattle.rule_routes.specs.Roads.{Walk}
use Rattle.rule_routes.specs.Pairs.{Within, OneEdge}

-- a stands in the list, and b after it
pub data Precedes {A : Type 0} (a b : A) : List A → Type 0 where
  Precedes·here : {l : List A} → Memᴰ b l → Precedes a b (a ∷ l)
  Precedes·later : {c : A} {l : List A} → Precedes a b l → Precedes a b (c ∷ l)

-- r comes before q: they are the same up to a node u, and from u the next node of r is tried sooner than the next node of q
pub data Before (sooner : (u a b : ℕ) → Type 0) : (r q : List ℕ) → Type 0 where
  Before·parts : {u a b : ℕ} {r q : List ℕ} → sooner u a b → Before sooner (u ∷ a ∷ r) (u ∷ b ∷ q)
  Before·on : {u : ℕ} {r q : List ℕ} → Before sooner r q → Before sooner (u ∷ r) (u ∷ q)

-- ---- what is tried sooner
-- among the edges of u, one to a stands before one to b
abbrev pub ByEdges : (ℕ → List Edge) → (u a b : ℕ) → Type 0
ByEdges edges u a b = Precedes a b (map (λ (e : Edge). e.target) (edges u))

-- in a window so wide, the step that leads from u to v: from column to column and from row to row
unfoldable pub step_between : (width u v : ℕ) → Step
step_between width u v = step_by (pos (v % width) -ℤ pos (u % width)) (pos (v / width) -ℤ pos (u / width))

-- the step from u to a stands in the table before the step from u to b
abbrev pub BySteps : (width : ℕ) → List Step → (u a b : ℕ) → Type 0
BySteps width steps u a b = Precedes (step_between width u a) (step_between width u b) steps

-- ---- ways
-- the points of a chain of steps over open nodes, from s to t: the start is open, and so is every neighbour; a chain may come to a node twice
pub record Way (edges : ℕ → List Edge) (free : ℕ → Bool) (s t : ℕ) (r : List ℕ) : Type 0 where
  pub start_open : free s ≡ true
  pub walk : Walk (neighbours edges free) s t r

-- r is the first of the shortest ways
pub record FirstWay (sooner : (u a b : ℕ) → Type 0) (edges : ℕ → List Edge) (free : ℕ → Bool) (s t : ℕ) (r : List ℕ) : Type 0 where
  pub way : Way edges free s t r
  -- no way has fewer points
  pub shortest : (q : List ℕ) → Way edges free s t q → length r ≤ length q
  -- r comes before every other way with as few
  pub first : (q : List ℕ) → Way edges free s t q → length q ≡ length r → (q ≡ r) ⊎ Before sooner r q

-- ---- what is claimed
-- The route is the first of the shortest ways, and whatever is that is the route; there is none exactly where there is no way, so where there is a way there is a first one.
pub record RouteIsFirst (sooner : (u a b : ℕ) → Type 0) (edges : ℕ → List Edge) (n : ℕ) (free : ℕ → Bool) (s t : ℕ) : Type 0 where
  pub exactly : (r : List ℕ) → (route edges n free s t ≡ some r) ↔ FirstWay sooner edges free s t r
  pub otherwise : (route edges n free s t ≡ none) ↔ ((r : List ℕ) → Way edges free s t r → ⊥)

-- for edges that lead from nodes below n to nodes below n, no two of one node to one node
abbrev pub RoutesAreFirst : Type 0
RoutesAreFirst =
    (edges : ℕ → List Edge) (n : ℕ) → Within edges n → OneEdge edges → (free : ℕ → Bool) (s t : ℕ) → s < n → RouteIsFirst (ByEdges edges) edges n free s t

-- for a window and a table in which each of the eight steps stands once
abbrev pub WindowRoutesAreFirst : Type 0
WindowRoutesAreFirst =
    (width height : ℕ) (steps : List Step) → each_once steps ≡ true → (free : ℕ → Bool) (s t : ℕ) → s < width * height
    → RouteIsFirst (BySteps width steps) (window_edges width height steps) (width * height) free s t
