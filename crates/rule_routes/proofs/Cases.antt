-- Computed cases that a wrong definition fails, in small windows: tables, edges, routes and all ways beside them, the steps between centres, how many centres have a route
-- and what routes lean on; and centre numbers past 65,535.
use Prim.Native.Nat.{ℕ, suc, ◌*◌}
use mathlib.Core.Path.{◌≡◌, refl}
use mathlib.Core.Bool.{Bool, true, false, not, false≢true}
use mathlib.Core.Option.{Option, none, some}
use mathlib.Core.List.{List, [], ◌∷◌, ◌++◌, map}
use lib.IntN.{ℤ, pos, negsuc}
use lib.ListN.{take, drop, replicate}
use Rattle.base_laws.specs.Lists.{any_of, all_of, select, flat, is_some, span, below, member}
use Rattle.rule_routes.specs.Edges.{Edge, step_by, eight_steps, steps_of, eq_z, same_step, each_once, table_fits, original_steps, centre, inside, sides_from, edge_by, edges_from, window_edges}
use Rattle.rule_routes.specs.Routes.{neighbours, known, onward, discover, sweep, search_from, any_route, nodes_of, route, reach_count, sides_of, leans_on}
use Rattle.rule_routes.specs.Shortest.{step_between, Way}
use Rattle.rule_routes.proofs.AllWalks.{walks_of}

-- all centres but these are open
open_but : List ℕ → ℕ → Bool
open_but shut c = not (member c shut)

route_in : (width height : ℕ) (shut : List ℕ) (start end : ℕ) → Option (List ℕ)
route_in width height shut start end = route (window_edges width height eight_steps) (width * height) (open_but shut) start end

to : ℕ → List ℕ → Edge
to v sides = record { target = v; sides = sides }

-- the eight steps from the middle of 3 × 3, in their order, with their side centres
eight : window_edges 3 3 eight_steps 4
    ≡ to 5 [] ∷ to 7 [] ∷ to 3 [] ∷ to 1 [] ∷ to 8 (5 ∷ 7 ∷ []) ∷ to 6 (3 ∷ 7 ∷ []) ∷ to 0 (3 ∷ 1 ∷ []) ∷ to 2 (5 ∷ 1 ∷ []) ∷ []
unfolding window_edges edges_from edge_by sides_from inside centre eq_z eight_steps step_by select to
eight = refl

-- the table as x, y pairs
pairs : steps_of original_steps ≡ eight_steps
unfolding steps_of original_steps eight_steps step_by
pairs = refl

-- ---- tables that a caller gives
-- the diagonals before the others
unfoldable pub diagonals_first : List ℤ
diagonals_first =
    pos 1 ∷ pos 1 ∷ negsuc 0 ∷ pos 1 ∷ negsuc 0 ∷ negsuc 0 ∷ pos 1 ∷ negsuc 0
    ∷ pos 1 ∷ pos 0 ∷ pos 0 ∷ pos 1 ∷ negsuc 0 ∷ pos 0 ∷ pos 0 ∷ negsuc 0 ∷ []

-- 15 and 17 numbers, none, the original's twice, a step twice and so one missing, and a pair that is no step
unfoldable pub unfit : List (List ℤ)
unfit =
    take 15 original_steps ∷ (original_steps ++ pos 0 ∷ []) ∷ [] ∷ (original_steps ++ original_steps) ∷ (take 14 original_steps ++ pos 1 ∷ pos 0 ∷ [])
    ∷ (pos 2 ∷ drop 1 original_steps) ∷ []

tables : map table_fits (original_steps ∷ diagonals_first ∷ unfit) ≡ true ∷ true ∷ replicate 6 false
unfolding table_fits original_steps diagonals_first unfit each_once steps_of eight_steps step_by same_step eq_z all_of select
tables = refl

-- the row is a table and not a part of one: a pair after the eighth, or a number alone
leftover : map (λ (more : List ℤ). table_fits (diagonals_first ++ more)) ([] ∷ (pos 0 ∷ []) ∷ (pos 1 ∷ pos 1 ∷ []) ∷ []) ≡ true ∷ false ∷ false ∷ []
unfolding table_fits diagonals_first each_once steps_of eight_steps step_by same_step eq_z all_of select
leftover = refl

-- each exactly once: not the eight and one of them again, nor the eight but one
once_each : map (λ (table : List ℤ). each_once (steps_of table)) (original_steps ∷ (original_steps ++ pos 1 ∷ pos 0 ∷ []) ∷ take 14 original_steps ∷ []) ≡ true ∷ false ∷ false ∷ []
unfolding original_steps each_once steps_of eight_steps step_by same_step eq_z all_of select
once_each = refl

-- ---- what an order means
route_by : List ℤ → (width height : ℕ) (shut : List ℕ) (start end : ℕ) → Option (List ℕ)
route_by table width height shut start end = route (window_edges width height (steps_of table)) (width * height) (open_but shut) start end

-- in a window of 4 × 4, all ways with at most so many steps: those with fewer first, and else in the table's order
ways_by : List ℤ → (shut : List ℕ) (start end most : ℕ) → List (List ℕ)
ways_by table shut start end most =
    elim (open_but shut start) [
      | true ↦ flat (map (λ (k : ℕ). walks_of (neighbours (window_edges 4 4 (steps_of table)) (open_but shut)) k start end) (below (suc most)))
      | false ↦ []
    ]

-- r is the route and the first of the ways with at most so many steps, and these are the others: all shortest ways, where r has so many steps
abbrev RouteAmong : List ℤ → (shut : List ℕ) (start end most : ℕ) → (r : List ℕ) (others : List (List ℕ)) → Type 0
RouteAmong table shut start end most r others = (route_by table 4 4 shut start end ≡ some r) × (ways_by table shut start end most ≡ r ∷ others)

-- From the first centre of row 1 to its last: over open ground; with the centre beside the start blocked; and equal ends. By the original's order and by the diagonals
-- first.
ordered : RouteAmong original_steps [] 4 7 3 (4 ∷ 5 ∷ 6 ∷ 7 ∷ [])
    ((4 ∷ 5 ∷ 10 ∷ 7 ∷ []) ∷ (4 ∷ 5 ∷ 2 ∷ 7 ∷ []) ∷ (4 ∷ 9 ∷ 10 ∷ 7 ∷ []) ∷ (4 ∷ 9 ∷ 6 ∷ 7 ∷ []) ∷ (4 ∷ 1 ∷ 2 ∷ 7 ∷ []) ∷ (4 ∷ 1 ∷ 6 ∷ 7 ∷ []) ∷ [])
    × RouteAmong diagonals_first [] 4 7 3 (4 ∷ 9 ∷ 6 ∷ 7 ∷ [])
    ((4 ∷ 9 ∷ 10 ∷ 7 ∷ []) ∷ (4 ∷ 1 ∷ 6 ∷ 7 ∷ []) ∷ (4 ∷ 1 ∷ 2 ∷ 7 ∷ []) ∷ (4 ∷ 5 ∷ 10 ∷ 7 ∷ []) ∷ (4 ∷ 5 ∷ 2 ∷ 7 ∷ []) ∷ (4 ∷ 5 ∷ 6 ∷ 7 ∷ []) ∷ [])
    × RouteAmong original_steps (5 ∷ []) 4 7 4 (4 ∷ 8 ∷ 9 ∷ 10 ∷ 7 ∷ []) ((4 ∷ 8 ∷ 13 ∷ 10 ∷ 7 ∷ []) ∷ (4 ∷ 0 ∷ 1 ∷ 2 ∷ 7 ∷ []) ∷ [])
    × RouteAmong diagonals_first (5 ∷ []) 4 7 4 (4 ∷ 8 ∷ 13 ∷ 10 ∷ 7 ∷ []) ((4 ∷ 8 ∷ 9 ∷ 10 ∷ 7 ∷ []) ∷ (4 ∷ 0 ∷ 1 ∷ 2 ∷ 7 ∷ []) ∷ [])
    × RouteAmong original_steps [] 4 4 0 (4 ∷ []) []
    × RouteAmong diagonals_first [] 4 4 0 (4 ∷ []) []
unfolding route_by ways_by walks_of open_but window_edges edges_from edge_by sides_from inside centre eq_z eight_steps original_steps
    diagonals_first steps_of step_by any_of all_of select flat span below member
    neighbours known onward discover sweep search_from any_route nodes_of route
ordered = ((refl, refl), (refl, refl), (refl, refl), (refl, refl), (refl, refl), (refl, refl))

-- no route, and no way of at most four steps: out of a corner with both of its sides blocked; from a blocked start, to itself and to another centre
cornered : (route_by original_steps 4 4 (1 ∷ 4 ∷ []) 0 5 ≡ none) × (ways_by original_steps (1 ∷ 4 ∷ []) 0 5 4 ≡ [])
    × (route_by original_steps 4 4 (4 ∷ []) 4 4 ≡ none) × (ways_by original_steps (4 ∷ []) 4 4 4 ≡ [])
    × (route_by original_steps 4 4 (4 ∷ []) 4 7 ≡ none) × (ways_by original_steps (4 ∷ []) 4 7 4 ≡ [])
unfolding route_by ways_by walks_of open_but window_edges edges_from edge_by sides_from inside centre eq_z original_steps steps_of step_by
    any_of all_of select flat span below member neighbours known onward
    discover sweep search_from any_route nodes_of route
cornered = (refl, refl, refl, refl, refl, refl)

-- nor does a chain to an open neighbour make a way from a blocked start
unopened : Way (window_edges 2 1 eight_steps) (open_but (0 ∷ [])) 0 1 (0 ∷ 1 ∷ []) → ⊥
unfolding open_but member any_of
unopened w = false≢true w.start_open

-- the picture of RULES 2.6: a window of 5 × 4
picture : (route_by original_steps 5 4 [] 0 19 ≡ some (0 ∷ 1 ∷ 7 ∷ 13 ∷ 19 ∷ [])) × (route_by diagonals_first 5 4 [] 0 19 ≡ some (0 ∷ 6 ∷ 12 ∷ 18 ∷ 19 ∷ []))
unfolding route_by open_but window_edges edges_from edge_by sides_from inside centre eq_z original_steps diagonals_first steps_of step_by
    any_of all_of select member neighbours known onward discover sweep
    search_from any_route nodes_of route
picture = (refl, refl)

-- the steps from a centre to its neighbours: to all eight from the middle of 3 × 3, and in a window two centres wide, where 2 lies a step down and left of 1, and 1 a step right of 0
between : (map (λ (e : Edge). step_between 3 4 e.target) (window_edges 3 3 eight_steps 4) ≡ eight_steps)
    × (step_between 2 1 2 ≡ step_by (negsuc 0) (pos 1)) × (step_between 2 0 1 ≡ step_by (pos 1) (pos 0))
unfolding step_between window_edges edges_from edge_by sides_from inside centre eq_z eight_steps step_by select
between = (refl, refl, refl)

-- Routes: a diagonal, and where either or both of its side centres are blocked; round a blocked middle, by the side that is tried first; a wall with no
-- gap; equal ends, open and blocked; a blocked start; a blocked end.
routes : (route_in 2 2 [] 0 3 ≡ some (0 ∷ 3 ∷ []))
    × (route_in 2 2 (1 ∷ []) 0 3 ≡ some (0 ∷ 2 ∷ 3 ∷ []))
    × (route_in 2 2 (2 ∷ []) 0 3 ≡ some (0 ∷ 1 ∷ 3 ∷ []))
    × (route_in 2 2 (1 ∷ 2 ∷ []) 0 3 ≡ none)
    × (route_in 3 3 (4 ∷ []) 3 5 ≡ some (3 ∷ 6 ∷ 7 ∷ 8 ∷ 5 ∷ []))
    × (route_in 3 3 (1 ∷ 4 ∷ 7 ∷ []) 3 5 ≡ none)
    × (route_in 3 3 [] 4 4 ≡ some (4 ∷ []))
    × (route_in 3 3 (4 ∷ []) 4 4 ≡ none)
    × (route_in 3 3 (3 ∷ []) 3 5 ≡ none)
    × (route_in 3 3 (5 ∷ []) 3 5 ≡ none)
unfolding route_in open_but window_edges edges_from edge_by sides_from inside centre eq_z eight_steps step_by any_of all_of select member
    neighbours known onward discover sweep search_from any_route nodes_of route
routes = (refl, refl, refl, refl, refl, refl, refl, refl, refl, refl)

-- How many centres have a route from the start: open ground; a diagonal step past one blocked side and between two; a wall, from either side of it;
-- a blocked start; one centre.
reach_in : (width height : ℕ) (shut : List ℕ) (start : ℕ) → ℕ
reach_in width height shut start = reach_count (window_edges width height eight_steps) (width * height) (open_but shut) start

reach : reach_in 3 3 [] 4 ∷ reach_in 2 2 (1 ∷ []) 0 ∷ reach_in 2 2 (1 ∷ 2 ∷ []) 0 ∷ reach_in 3 3 (1 ∷ 4 ∷ 7 ∷ []) 3 ∷ reach_in 4 1 (1 ∷ []) 0 ∷ reach_in 4 1 (1 ∷ []) 3
    ∷ reach_in 3 3 (4 ∷ []) 4 ∷ reach_in 1 1 [] 0 ∷ []
    ≡ 9 ∷ 3 ∷ 1 ∷ 3 ∷ 1 ∷ 2 ∷ 0 ∷ 1 ∷ []
unfolding reach_in open_but window_edges edges_from edge_by sides_from inside centre eq_z eight_steps step_by any_of all_of select is_some
    span below member neighbours known onward discover sweep search_from
    any_route nodes_of route reach_count
reach = refl

-- a route leans on its points and on both sides of a diagonal
leans : leans_on (window_edges 3 3 eight_steps) (3 ∷ 1 ∷ 2 ∷ []) ≡ 3 ∷ 4 ∷ 0 ∷ 1 ∷ 2 ∷ []
unfolding window_edges edges_from edge_by sides_from inside centre eq_z eight_steps step_by select flat sides_of leans_on
leans = refl

-- past 65,535: the last row of a window of 300 × 260
wide : (centre 300 260 (pos 0) (pos 259) ≡ 77700)
    × (window_edges 300 260 eight_steps 77700 ≡ to 77701 [] ∷ to 77400 [] ∷ to 77401 (77701 ∷ 77400 ∷ []) ∷ [])
unfolding window_edges edges_from edge_by sides_from inside centre eq_z eight_steps step_by select to
wide = (refl, refl)
