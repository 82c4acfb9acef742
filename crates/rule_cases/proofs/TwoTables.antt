-- Two tables of steps through the calls, on windows of 4 × 4: the same walls in another sequence, and another route past the same wall.
use Prim.Native.Nat.{ℕ}
use mathlib.Core.Path.{◌≡◌, refl}
use mathlib.Core.Option.{Option, none}
use mathlib.Core.List.{List, [], ◌∷◌, map}
use lib.IntN.{ℤ}
use lib.ListN.{replicate}
use Rattle.base_laws.specs.Lists.{below}
use Rattle.base_model.specs.Answers.{Said}
use Rattle.std.specs.Prelude.{None, Some}
use Rattle.rule_routes.specs.Edges.{original_steps}
use Rattle.rule_routes.proofs.Cases.{diagonals_first}
use Rattle.rule_layouts.specs.Inputs.{Inputs}
use Rattle.rule_search.specs.State.{Reason, Exhausted}
use Rattle.rule_calls.specs.Areas.{reason_of, row_of}
use Rattle.rule_calls.specs.Calls.{After, begin_call, step_call, read_call}
use Rattle.rule_calls.proofs.Computing.{computing}
use Rattle.rule_calls.proofs.Drive.{at, box, bounds, plain, limits, work_for, store_for, still0, given, driving}

-- begun and stepped by 100 with one table
searched : List ℤ → Inputs → After
searched table i =
    let b : After = begin_call table i (limits 100 32) (work_for i.query.window) (store_for i (limits 100 32)) in
    step_call table i (limits 100 32) b.rec 100 b.work b.store

-- the answer, the reason, and the layouts in their sequence
lists : List ℤ → Inputs → Option Said × Reason × List (List ℕ)
lists table i =
    let a : After = searched table i in
    (a.answer, reason_of a.rec.reason, map (row_of a.store.layouts) (below a.rec.layouts))

-- two columns, each in an upper and a lower half: any upper half with any lower one is a wall
halves : Inputs
halves = given (box 0 0 4 4) (at 0 1) (at 3 1) still0 None (2 ∷ [])
    (plain (box 1 2 2 4) ∷ plain (box 2 0 3 2) ∷ plain (box 2 2 3 4) ∷ plain (box 1 0 2 2) ∷ []) (replicate 16 0) []

-- the first route goes straight on, past the upper halves 1 and 3; by the diagonals first it goes a row down and up again, past all four
same_walls : (lists original_steps halves ≡ (none, Exhausted, (0 ∷ 1 ∷ []) ∷ (1 ∷ 2 ∷ []) ∷ (0 ∷ 3 ∷ []) ∷ (2 ∷ 3 ∷ []) ∷ []))
    × (lists diagonals_first halves ≡ (none, Exhausted, (0 ∷ 1 ∷ []) ∷ (0 ∷ 3 ∷ []) ∷ (1 ∷ 2 ∷ []) ∷ (2 ∷ 3 ∷ []) ∷ []))
unfolding computing driving searched lists halves diagonals_first
same_walls = (refl, refl)

-- a post that leaves the lowest row open: the blocked mover reaches a row up and down, the allowed one passes
post : Inputs
post = given (box 0 1 4 5) (at 0 2) (at 3 2) (bounds 0 1 0 1) (Some still0) (1 ∷ []) (plain (box 2 1 3 4) ∷ []) (replicate 16 0) (replicate 16 0)

-- the points of the one layout's route
route_points : List ℤ → List ℕ
route_points table = let a : After = searched table post in (read_call post (limits 100 32) a.rec 0 a.store).points

another_route : (lists original_steps post ≡ (none, Exhausted, (0 ∷ []) ∷ []))
    × (lists diagonals_first post ≡ (none, Exhausted, (0 ∷ []) ∷ []))
    × (route_points original_steps ≡ 0 ∷ 2 ∷ 0 ∷ 3 ∷ 1 ∷ 4 ∷ 2 ∷ 4 ∷ 3 ∷ 4 ∷ 3 ∷ 3 ∷ 3 ∷ 2 ∷ [])
    × (route_points diagonals_first ≡ 0 ∷ 2 ∷ 1 ∷ 3 ∷ 1 ∷ 4 ∷ 2 ∷ 4 ∷ 3 ∷ 4 ∷ 3 ∷ 3 ∷ 3 ∷ 2 ∷ [])
unfolding computing driving searched lists post route_points diagonals_first
another_route = (refl, refl, refl, refl)
