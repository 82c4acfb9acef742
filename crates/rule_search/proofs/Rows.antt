-- Small searches with an evaluation given by hand, computed by the checker; the last, with routes of any length, step by step.
use Prim.Native.Nat.{ℕ, zero, suc, ◌+◌, ◌<◌}
use mathlib.Core.Path.{◌≡◌, refl, sym, ◌∙◌, ap}
use mathlib.Core.Bool.{Bool, true, false}
use mathlib.Core.List.{List, [], ◌∷◌, ◌++◌, map}
use native.Mathlib.Omega.{arith}
use lib.Dec.{leb}
use lib.ListN.{length}
use borrow.Author.Tests.{lt-leb}
use Rattle.base_laws.specs.Lists.{any_of, all_of, first_of, total, same, put_in}
use Rattle.base_model.specs.declared.Position.{Position}
use Rattle.rule_layouts.specs.Explore.{Outcome, Nothing, Extend, Wall}
use Rattle.rule_search.specs.State.{
  Reason,
  Running,
  Exhausted,
  StateLimit,
  ResultLimit,
  Extensions,
  Layout,
  State,
  state,
  stop,
  last_taken,
  set_on,
  points_kept,
  frames_left,
}
use Rattle.rule_search.specs.Frames.{
  Plan,
  ends,
  no_frame,
  push,
  at_state_limit,
  look,
  evaluated,
  pending_frame,
  list_frame,
  top_frame,
  frame,
  frames,
  advance,
  step,
  begun,
}
use Rattle.rule_search.proofs.Moves.{result_limit_stops}
use Rattle.rule_search.proofs.Raised.{Grows, stopped_longer}
use Rattle.rule_search.proofs.Steps.{advance_goes, advance_ends, step_add, step_stopped}

-- a name under which the search unfolds
unfoldable pub searching : ℕ
unfolding any_of all_of first_of total same put_in state stop last_taken set_on points_kept frames_left no_frame push at_state_limit look evaluated pending_frame list_frame top_frame
    frame frames advance step begun
searching = 0

-- input P (RULES 9.7): the placements 0 and 1 touch the first route, 2 the route past 1; (0) and (1 2) are walls
evaluate_p : List ℕ → Outcome Position
evaluate_p [] = Extend (0 ∷ 1 ∷ [])
evaluate_p (zero ∷ s) = Wall []
evaluate_p (suc i ∷ []) = Extend (2 ∷ [])
evaluate_p (suc i ∷ j ∷ s) = Wall []

-- two placements that may join in either order, and make no wall
evaluate_twice : List ℕ → Outcome Position
evaluate_twice [] = Extend (0 ∷ 1 ∷ [])
evaluate_twice (zero ∷ []) = Extend (1 ∷ [])
evaluate_twice (suc i ∷ []) = Extend (0 ∷ [])
evaluate_twice (i ∷ j ∷ s) = Nothing

plan : (List ℕ → Outcome Position) → ℕ → ℕ → Plan
plan f states results = record { evaluate = f; states = states; results = results }

-- a search stepped by some numbers: its reason, the visited sets and the sets listed
pub record Shown : Type 0 where
  pub reason : Reason
  pub pending : Bool
  pub visited : List (List ℕ)
  pub listed : List (List ℕ)

steps : Plan → List ℕ → State → State
steps p [] s = s
steps p (n ∷ ns) s = steps p ns (step p n s)

shown : Plan → List ℕ → Shown
shown p ns =
    let s : State = steps p ns begun in
    record { reason = s.reason; pending = s.pending; visited = s.visited; listed = map (λ (y : Layout). y.members) s.layouts }

shows : Reason → List (List ℕ) → List (List ℕ) → Shown
shows r vs ys = record { reason = r; pending = false; visited = vs; listed = ys }

-- the sets of P in the order in which they are evaluated
just_empty : List (List ℕ)
just_empty = [] ∷ []

two : List (List ℕ)
two = [] ∷ (0 ∷ []) ∷ []

three : List (List ℕ)
three = [] ∷ (0 ∷ []) ∷ (1 ∷ []) ∷ []

four : List (List ℕ)
four = [] ∷ (0 ∷ []) ∷ (1 ∷ []) ∷ (1 ∷ 2 ∷ []) ∷ []

walls : List (List ℕ)
walls = (0 ∷ []) ∷ (1 ∷ 2 ∷ []) ∷ []

-- P in one step, and in portions: the spent lists are frames until they are met
portions : shown (plan evaluate_p 100 32) (100 ∷ [])
    ∷ shown (plan evaluate_p 100 32) (1 ∷ [])
    ∷ shown (plan evaluate_p 100 32) (1 ∷ 1 ∷ [])
    ∷ shown (plan evaluate_p 100 32) (4 ∷ [])
    ∷ shown (plan evaluate_p 100 32) (4 ∷ 1 ∷ [])
    ∷ shown (plan evaluate_p 100 32) (3 ∷ 0 ∷ 1 ∷ 7 ∷ [])
    ∷ []
    ≡ shows Exhausted four walls
    ∷ shows Running just_empty []
    ∷ shows Running two ((0 ∷ []) ∷ [])
    ∷ shows Running four walls
    ∷ shows Exhausted four walls
    ∷ shows Exhausted four walls
    ∷ []
unfolding searching evaluate_p plan steps shown shows just_empty two three four walls
portions = refl

-- the limits: StateLimit stands also where every wall is listed; ResultLimit comes before StateLimit, Exhausted before StateLimit
limited : shown (plan evaluate_p 4 32) (9 ∷ [])
    ∷ shown (plan evaluate_p 3 32) (9 ∷ [])
    ∷ shown (plan evaluate_p 1 32) (9 ∷ [])
    ∷ shown (plan evaluate_p 100 1) (9 ∷ [])
    ∷ shown (plan evaluate_p 2 1) (9 ∷ [])
    ∷ shown (plan (λ s. Nothing) 1 32) (9 ∷ [])
    ∷ shown (plan (λ s. Extend []) 1 32) (9 ∷ [])
    ∷ []
    ≡ shows StateLimit four walls
    ∷ shows StateLimit three ((0 ∷ []) ∷ [])
    ∷ shows StateLimit just_empty []
    ∷ shows ResultLimit two ((0 ∷ []) ∷ [])
    ∷ shows ResultLimit two ((0 ∷ []) ∷ [])
    ∷ shows Exhausted just_empty []
    ∷ shows Exhausted just_empty []
    ∷ []
unfolding searching evaluate_p plan steps shown shows just_empty two three four walls
limited = refl

-- a repeated set uses no evaluation
repeated : shown (plan evaluate_twice 100 32) (100 ∷ []) ∷ shown (plan evaluate_twice 4 32) (100 ∷ []) ∷ []
    ≡ shows Exhausted ([] ∷ (0 ∷ []) ∷ (0 ∷ 1 ∷ []) ∷ (1 ∷ []) ∷ []) []
    ∷ shows StateLimit ([] ∷ (0 ∷ []) ∷ (0 ∷ 1 ∷ []) ∷ (1 ∷ []) ∷ []) []
    ∷ []
unfolding searching evaluate_twice plan steps shown shows
repeated = refl

-- a running search at the state limit is stopped before a frame, with its pending set
stopped_before : frame (plan evaluate_p 1 32) Running (state Running true [] ([] ∷ []) []) ≡ ends (state StateLimit true [] ([] ∷ []) [])
unfolding searching plan
stopped_before = refl

-- a wall whose allowed route is longer than 1,000,000 minus the points already kept stops the search, and is not listed
pub points_full : (p : Plan) (r : List Position) (set : List ℕ) (s : State) → leb (points_kept s.layouts + length r) 1000000 ≡ false →
    evaluated p (Wall r) set s ≡ state ResultLimit false s.lists (s.visited ++ set ∷ []) s.layouts
unfolding evaluated
points_full p r set s e = rw (e, evaluated) refl

-- ---- the points limit
-- a wall past which the allowed route is r, after a wall with no points
evaluate_long : List Position → List ℕ → Outcome Position
evaluate_long r [] = Extend (0 ∷ 1 ∷ [])
evaluate_long r (zero ∷ s) = Wall []
evaluate_long r (suc i ∷ s) = Wall r

only_first : List Layout
only_first = record { members = 0 ∷ []; route = [] } ∷ []

entry : ℕ → List Extensions
entry n = record { entries = 0 ∷ 1 ∷ []; next = n } ∷ []

-- At result limit 1 the search stops by the number of layouts; at 32, where r has more than 1,000,000 points, by that of points: the second wall is evaluated and
-- not listed.
points_limited : (r : List Position) → 1000000 < length r
    → (step (plan (evaluate_long r) 100 1) 9 begun ≡ state ResultLimit false (entry 1) two only_first)
    × (step (plan (evaluate_long r) 100 32) 9 begun ≡ state ResultLimit false (entry 2) three only_first)
unfolding searching evaluate_long only_first entry plan two three
points_limited r h =
    let p : Plan = plan (evaluate_long r) 100 32 in
    let s : State = state Running false (entry 1) two only_first in
    let t : State = state Running true (entry 2) two only_first in
    let u : State = state ResultLimit false (entry 2) three only_first in
    let long : leb (points_kept only_first + length r) 1000000 ≡ false = lt-leb (points_kept only_first + length r) 1000000 (omega arith) in
    let second : advance p s ≡ u = advance_goes p s t refl ∙ advance_ends p t u (ap ends (points_full p r (1 ∷ []) t long)) in
    let first : step p 2 begun ≡ s = refl in
    (refl, step_add p 2 7 begun ∙ ap (step p 7) first ∙ ap (step p 6) second ∙ step_stopped p 6 u result_limit_stops)

-- and the second search begins with the first
points_longer : (r : List Position) → 1000000 < length r → Grows (step (plan (evaluate_long r) 100 1) 9 begun) (step (plan (evaluate_long r) 100 32) 9 begun)
unfolding searching plan
points_longer r h =
    stopped_longer (plan (evaluate_long r) 100 1) (plan (evaluate_long r) 100 32) (record { alike = λ w. refl; states = omega arith; results = omega arith }) 9 9 begun
    (λ e. result_limit_stops (sym (ap (λ (s : State). s.reason) (points_limited r h).1) ∙ e))
