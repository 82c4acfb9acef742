-- What a search is lent and gives.
use Rattle.std.specs.Prelude.{◌≡◌, Bool, true, false, None, Some, Result, Ok, Err, ◌⊎◌, ℕ, ◌≤◌, ◌<◌, eqb, ltb, length, get_or, take, drop, replicate}
use Rattle.std.specs.Prelude as std
use Rattle.std.proofs.Math.Option.{Option, none, some}
use mathlib.Core.List.{List, ◌++◌, map, Memᴰ}
use Rattle.base_laws.specs.Lists.{is_some}
use Rattle.rule_routes.specs.Routes.{Route, Searched}
use Rattle.route_back.specs.Ways.{Leads}

-- the first c entries are zero
abbrev pub Clear : ℕ → List ℕ → Type 0
Clear c area = take c area ≡ replicate c 0

-- the working areas that are lent for a search over c nodes
pub record SearchLent (c start : ℕ) (queue predecessors : List ℕ) : Type 0 where
  pub queue_clear : Clear c queue
  pub predecessors_clear : Clear c predecessors
  pub start_below : start < c

-- what is lent for a route over c nodes: the area for the route may hold anything
pub record LentAll (c start end : ℕ) (queue predecessors route : List ℕ) : Type 0 where
  pub working : SearchLent c start queue predecessors
  pub end_below : end < c
  pub route_room : c ≤ length route

-- whether the node v is where a search ends
abbrev pub ends_at : std.Option ℕ → ℕ → Bool
ends_at None v = false
ends_at (Some end) v = eqb v end

-- the test stops at the node `end` alone, as far as the c nodes go, and nowhere if there is no end
abbrev pub StopsAt : (c : ℕ) → std.Option ℕ → (ℕ → Bool) → Type 0
StopsAt c end stops = (v : ℕ) → v < c → stops v ≡ ends_at end v

-- the number of centres that a search reached
abbrev pub tail_of : Result ℕ ℕ → ℕ
tail_of (Ok tail) = tail
tail_of (Err tail) = tail

-- the first nodes of the queue are those reached, and the areas are as before at every other entry
pub record SearchLeft (c tail : ℕ) (queue predecessors queue' predecessors' : List ℕ) : Type 0 where
  pub short : tail ≤ c
  pub below : (v : ℕ) → Memᴰ v (take tail queue') → v < c
  pub queue_kept : drop tail queue' ≡ drop tail queue
  pub predecessors_kept : (v : ℕ) → Memᴰ v (take tail queue') ⊎ (get_or predecessors' v 0 ≡ get_or predecessors v 0)

-- The search came to s: so many nodes are reached, they stand in the queue in order of discovery, and if it hit the end the predecessors lead back along
-- the route.
pub record SearchFound (s : Searched) (queue predecessors : List ℕ) (start : ℕ) (end : std.Option ℕ) (hit : Bool) (tail : ℕ) : Type 0 where
  pub count : tail ≡ length s.found
  pub nodes : take tail queue ≡ map (λ (r : Route). r.at) s.found
  pub ended : hit ≡ is_some s.hit
  pub way : (e : ℕ) → end ≡ Some e → hit ≡ true → (l : Leads predecessors start e tail) × (s.hit ≡ some (record { at = e; back = l.back }))

-- the number of points of a route, 0 where there is none
unfoldable pub point_count : Option (List ℕ) → ℕ
point_count none = 0
point_count (some p) = length p

-- an area into whose first entries a route is laid
unfoldable pub laid_into : Option (List ℕ) → List ℕ → List ℕ
laid_into none route = route
laid_into (some p) route = p ++ drop (length p) route

-- the answer is the number of points, above 0 exactly when there is a route, and the route stands in the area
pub record RouteFound (o : Option (List ℕ)) (route route' : List ℕ) (r : ℕ) : Type 0 where
  pub count : r ≡ point_count o
  pub points : route' ≡ laid_into o route
  pub exists : is_some o ≡ ltb 0 r

-- the number of a route's points, and none where there is no route
unfoldable pub counted : Option (List ℕ) → std.Option ℕ
counted none = None
counted (some p) = Some (length p)

-- the answer is the number of points, none exactly when there is no route and else above 0, and the route stands in the area
pub record Routed (o : Option (List ℕ)) (route route' : List ℕ) (r : std.Option ℕ) : Type 0 where
  pub count : r ≡ counted o
  pub points : route' ≡ laid_into o route
  pub some : r ≡ Some 0 → ⊥

-- the areas are as they were
pub record SearchRestored (queue predecessors queue' predecessors' : List ℕ) : Type 0 where
  pub queue_same : queue' ≡ queue
  pub predecessors_same : predecessors' ≡ predecessors
