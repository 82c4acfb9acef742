-- Small boards, computed by the checker.
use Prim.Native.Nat.{ℕ, zero, suc, ◌*◌}
use mathlib.Core.Path.{◌≡◌, refl}
use mathlib.Core.Bool.{Bool, true, false}
use mathlib.Core.Option.{Option, none, some}
use mathlib.Core.List.{List, [], ◌∷◌, map}
use lib.IntN.{pos}
use lib.Dec.{eqb}
use Rattle.base_laws.specs.Lists.{any_of, all_of, select, flat, first_of, is_some, span, below, member, without}
use Rattle.base_model.specs.declared.Verdict.TheVariants.{Slots, Overlap, EndCovered, Open, Spare, Shut, Wall as AWall}
use Rattle.rule_routes.specs.Edges.{step_by, eight_steps, eq_z, centre, inside, sides_from, edge_by, edges_from, window_edges}
use Rattle.rule_routes.specs.Routes.{neighbours, known, onward, discover, sweep, search_from, any_route, nodes_of, route, reach_count, sides_of, leans_on}
use Rattle.ground_rects.specs.Rects.{rect}
use Rattle.rule_layouts.specs.Boards.{Mover, Board, used, may_join, leaves_open, open_ends, route_past}
use Rattle.rule_layouts.specs.Explore.{Nothing, Extend, Wall, touches, extensions, is_minimal_block, allowed_route, wall_by, explore}
use Rattle.rule_layouts.specs.Judge.{over_slots, overlaps, verdict, ground_left}
use Rattle.rule_layouts.specs.Inputs.{mover_of}

-- a name under which an evaluation unfolds
unfoldable pub exploring : ℕ
unfolding any_of all_of select flat first_of is_some span below member without step_by eight_steps eq_z centre inside sides_from edge_by edges_from window_edges
    neighbours known onward discover sweep search_from any_route nodes_of route reach_count sides_of leans_on used may_join leaves_open open_ends route_past
    touches extensions is_minimal_block allowed_route wall_by explore over_slots overlaps verdict ground_left
exploring = 0

-- a window over open ground; placement i covers the centres that `cover` names; one group of two slots
board : (width height start end : ℕ) → Option Mover → (count : ℕ) → (ℕ → List ℕ) → (ℕ → ℕ → Bool) → Board
board w h a b allow n cover overlap = record {
  nodes = w * h;
  edges = window_edges w h eight_steps;
  start = a;
  end = b;
  block = record { blocked = λ c. false; kept_off = λ i c. member c (cover i) };
  allow = allow;
  places = record { count = n; group = λ i. 0; slots = λ k. 2; overlap = overlap };
}

itself_alone : ℕ → ℕ → Bool
itself_alone i j = eqb i j

-- two by two centres, from one corner to the other; placements 0 and 1 each cover a side centre of the diagonal step alone
corner : ℕ → List ℕ
corner zero = 1 ∷ []
corner (suc i) = 2 ∷ []

small : Board
small = board 2 2 0 3 none 2 corner itself_alone

-- a placement that covers only a side centre touches the route; both together are a wall; one alone is a set with a route round it
sides : explore small [] ∷ explore small (0 ∷ []) ∷ explore small (0 ∷ 1 ∷ []) ∷ []
    ≡ Extend (0 ∷ 1 ∷ []) ∷ Extend (1 ∷ []) ∷ Wall [] ∷ []
unfolding exploring board corner small itself_alone
sides = refl

-- one row of three centres: placement 0 covers the middle, 1 the start, 2 the middle again, overlapping 0
thin : ℕ → List ℕ
thin zero = 1 ∷ []
thin (suc zero) = 0 ∷ []
thin (suc (suc i)) = 1 ∷ []

touching : ℕ → ℕ → Bool
touching zero zero = true
touching zero (suc zero) = false
touching zero (suc (suc j)) = true
touching (suc zero) j = eqb 1 j
touching (suc (suc i)) zero = true
touching (suc (suc i)) (suc j) = eqb (suc i) j

row : Option Mover → Board
row allow = board 3 1 0 2 allow 3 thin touching

-- a mover that nothing keeps off, and one that the middle is closed to
free : Mover
free = record { blocked = λ c. false; kept_off = λ i c. false }

shut : Mover
shut = record { blocked = λ c. eqb c 1; kept_off = λ i c. false }

ends : explore (row none) (1 ∷ []) ∷ explore (row none) (0 ∷ []) ∷ explore (row (some free)) (0 ∷ []) ∷ explore (row (some shut)) (0 ∷ []) ∷ explore (row none) (0 ∷ 2 ∷ []) ∷ []
    ≡ Nothing ∷ Wall [] ∷ Wall (0 ∷ 1 ∷ 2 ∷ []) ∷ Nothing ∷ Nothing ∷ []
unfolding exploring board thin touching row free shut
ends = refl

-- each verdict
judgings : verdict (row none) (0 ∷ 1 ∷ 2 ∷ []) ∷ verdict (row none) (0 ∷ 2 ∷ []) ∷ verdict (row none) (0 ∷ 1 ∷ []) ∷ verdict (row none) []
    ∷ verdict (board 3 1 0 2 none 3 thin itself_alone) (0 ∷ 2 ∷ []) ∷ verdict (row (some shut)) (0 ∷ []) ∷ verdict (row none) (0 ∷ []) ∷ []
    ≡ Slots ∷ Overlap ∷ EndCovered ∷ Open ∷ Spare ∷ Shut ∷ AWall ∷ []
unfolding exploring board thin touching row free shut itself_alone
judgings = refl

-- one row of four centres: placement 0 covers the second, 1 the first, the others the last
along : ℕ → List ℕ
along zero = 1 ∷ []
along (suc zero) = 0 ∷ []
along (suc (suc i)) = 3 ∷ []

lane : (start end : ℕ) → Board
lane a b = board 4 1 a b none 3 along itself_alone

-- the ground left: nothing covered, with the end last and beside the start; cut in two, seen from the first and from the last; the start covered; the end covered, and
-- with it one open centre cut off from the start; past one side centre of a diagonal step, but not past both
ground : ground_left (lane 0 3) [] ∷ ground_left (lane 0 1) [] ∷ ground_left (lane 0 3) (0 ∷ []) ∷ ground_left (lane 3 0) (0 ∷ []) ∷ ground_left (lane 0 3) (1 ∷ []) ∷ ground_left (lane 0 3) (2 ∷ [])
    ∷ ground_left (lane 0 3) (0 ∷ 2 ∷ []) ∷ ground_left small (0 ∷ []) ∷ ground_left small (0 ∷ 1 ∷ []) ∷ []
    ≡ 4 ∷ 4 ∷ 1 ∷ 2 ∷ 0 ∷ 3 ∷ 1 ∷ 3 ∷ 1 ∷ []
unfolding exploring board corner small itself_alone along lane
ground = refl

-- who may join: no member, a free slot, no member's footprint overlapped
joining : may_join (row none).places (0 ∷ []) 0 ∷ may_join (row none).places (0 ∷ []) 1 ∷ may_join (row none).places (0 ∷ []) 2 ∷ may_join small.places (0 ∷ 1 ∷ []) 5 ∷ []
    ≡ false ∷ true ∷ false ∷ false ∷ []
unfolding exploring board thin touching row corner small itself_alone
joining = refl

-- a mover over a baseline of counts: blocked where the count is not zero
counts : map (mover_of (rect (pos 0) (pos 0) (pos 5) (pos 1)) [] (record { left = 0; top = 0; right = 0; bottom = 0 }) (0 ∷ 1 ∷ 2 ∷ 7 ∷ 255 ∷ [])).blocked (below 6)
    ≡ false ∷ true ∷ true ∷ true ∷ true ∷ false ∷ []
unfolding exploring mover_of
counts = refl
