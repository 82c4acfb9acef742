-- The first-in first-out search for a route, over abstract edges, and the nodes that a route leans on (RULES 2.2, 2.4, 4.2).
use Rattle.std.specs.Prelude.{ℕ, zero, suc, Bool, true, false, ◌&&◌, List, [], ◌∷◌, ◌++◌, map, reverse, eqb, ltb, length, get_or}
use Rattle.std.proofs.Math.Option.{Option, none, some}
use Rattle.base_laws.specs.Lists.{any_of, all_of, select, flat, is_some, below}
use Rattle.rule_routes.specs.Edges.{Edge}

-- the nodes to which u's edges lead over open nodes, in the order in which they are tried
unfoldable pub neighbours : (ℕ → List Edge) → (ℕ → Bool) → ℕ → List ℕ
neighbours edges free u = map (λ (e : Edge). e.target) (select (λ (e : Edge). free e.target && all_of free e.sides) (edges u))

-- A route, held from its last node back: the last node, and the nodes before it, the latest first.
pub record Route : Type 0 where
  pub at : ℕ
  pub back : List ℕ

-- some route found ends at v
unfoldable pub known : ℕ → List Route → Bool
known v found = any_of (λ (r : Route). eqb v r.at) found

-- the route r with one node more
unfoldable pub onward : Route → ℕ → Route
onward r v = record { at = v; back = r.at ∷ r.back }

-- The last node of r tries these nodes in order: one that no route has reached yet is discovered from r. So the first discoverer is the predecessor.
unfoldable pub discover : Route → List ℕ → List Route → List Route
discover r [] found = found
discover r (v ∷ vs) found = elim (known v found) [ true ↦ discover r vs found | false ↦ discover r vs (found ++ onward r v ∷ []) ]

-- What a search comes to: the route that ends where it stops, if any, and all routes found, in order of discovery.
pub record Searched : Type 0 where
  pub hit : Option Route
  pub found : List Route

unfoldable pub any_route : Route
any_route = record { at = 0; back = [] }

-- The routes found stand in order of discovery, and the first k have had their turn; each takes one turn, first in first out, until one ends at a node
-- that stops the search. No more turns are needed than there are nodes.
module _ (nbrs : ℕ → List ℕ) (stops : ℕ → Bool) where
  unfoldable pub sweep : (turns k : ℕ) → List Route → Searched
  sweep zero k found = record { hit = none; found = found }
  sweep (suc turns) k found =
      elim (ltb k (length found)) [
        | false ↦ record { hit = none; found = found }
        | true ↦
            let r : Route = get_or found k any_route in
            elim (stops r.at) [
              | true ↦ record { hit = some r; found = found }
              | false ↦ sweep turns (suc k) (discover r (nbrs r.at) found)
            ]
      ]

-- the search from a node over n nodes
unfoldable pub search_from : (ℕ → List Edge) → (n : ℕ) → (ℕ → Bool) → (stops : ℕ → Bool) → (start : ℕ) → Searched
search_from edges n free stops start = sweep (neighbours edges free) stops n 0 (record { at = start; back = [] } ∷ [])

-- the nodes of a route from start to end
unfoldable pub nodes_of : Option Route → Option (List ℕ)
nodes_of none = none
nodes_of (some r) = some (reverse (r.at ∷ r.back))

-- The route from start to end over n nodes. It holds both ends; equal ends give one point, if open; a blocked end gives none.
unfoldable pub route : (ℕ → List Edge) → (n : ℕ) → (ℕ → Bool) → (start end : ℕ) → Option (List ℕ)
route edges n free start end =
    elim (free start && free end) [ true ↦ nodes_of (search_from edges n free (λ (v : ℕ). eqb v end) start).hit | false ↦ none ]

-- the number of the n nodes to which there is a route from start: 0 where start is blocked, else start counts too
unfoldable pub reach_count : (ℕ → List Edge) → (n : ℕ) → (ℕ → Bool) → (start : ℕ) → ℕ
reach_count edges n free start = length (select (λ (v : ℕ). is_some (route edges n free start v)) (below n))

-- the side nodes of the step from u to v
unfoldable pub sides_of : (ℕ → List Edge) → (u v : ℕ) → List ℕ
sides_of edges u v = flat (map (λ (e : Edge). e.sides) (select (λ (e : Edge). eqb e.target v) (edges u)))

-- the nodes that a route leans on: its points, and the side nodes of its steps
unfoldable pub leans_on : (ℕ → List Edge) → List ℕ → List ℕ
leans_on edges [] = []
leans_on edges (u ∷ []) = u ∷ []
leans_on edges (u ∷ v ∷ r) = u ∷ (sides_of edges u v ++ leans_on edges (v ∷ r))
