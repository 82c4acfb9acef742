-- Searches with limits raised, computed through the calls, and what the theorems of promise/specs/Longer say of them: input P (RULES 9.7) at result limits 1 and 32 and at
-- state limits 3, 100 and 500, and a search with an allowed mover, whose routes are read.
use Prim.Native.Nat.{ℕ}
use mathlib.Core.Path.{◌≡◌, refl}
use mathlib.Core.Option.{none}
use mathlib.Core.List.{List, [], ◌∷◌}
use native.Mathlib.Omega.{arith}
use Rattle.base_model.specs.declared.Limits.{Limits}
use Rattle.rule_routes.specs.Edges.{original_steps}
use Rattle.rule_layouts.specs.Inputs.{Inputs}
use Rattle.rule_calls.specs.Calls.{begin_call, ReadOut, read_call}
use Rattle.rule_calls.proofs.Drive.{limits, work_for, store_for, P0, W, inputs_of}
use Rattle.promise.specs.Promise.{Call, Held, HasExhausted, run, Search, begins, ends}
use Rattle.promise.specs.Longer.{NoSmaller, HasStopped, route_at, BeginsWith, OnlyGrows}
use Rattle.promise.proofs.Extended.{longer, only_grows}
use Rattle.promise_cases.proofs.Example.{gap, step_by, listing, promising}

-- reason, evaluations and layouts
record Shown : Type 0 where
  reason : ℕ
  evaluations : ℕ
  listed : List (List ℕ)

unfoldable shows : ℕ → ℕ → List (List ℕ) → Shown
shows r e ys = record { reason = r; evaluations = e; listed = ys }

unfoldable seen : Held → Shown
seen h = shows h.rec.reason h.rec.evaluations (listing h)

-- a search stepped by 2 and then by more than is left
unfoldable twice : Inputs → Limits → List Call
twice j l = step_by j l 2 ∷ step_by j l 99 ∷ []

unfoldable search_twice : (j : Inputs) (l : Limits) → (begin_call original_steps j l (work_for W) (store_for j l)).answer ≡ none → Search original_steps j l
unfolding promising twice
search_twice j l e = record { work = work_for W; store = store_for j l; accepted = e; calls = twice j l; faithful = ((λ f. (refl, refl, refl)), ((λ f. (refl, refl, refl)), tt)) }

-- ---- input P
unfoldable p : Inputs
p = inputs_of P0

unfoldable one_wall : Search original_steps p (limits 100 1)
unfolding promising p
one_wall = search_twice p (limits 100 1) refl

unfoldable three_states : Search original_steps p (limits 3 32)
unfolding promising p
three_states = search_twice p (limits 3 32) refl

unfoldable whole : Search original_steps p (limits 100 32)
unfolding promising p
whole = search_twice p (limits 100 32) refl

unfoldable ample : Search original_steps p (limits 500 32)
unfolding promising p
ample = search_twice p (limits 500 32) refl

-- a name under which all of this unfolds
unfoldable raising : ℕ
unfolding promising NoSmaller HasStopped route_at OnlyGrows shows seen twice search_twice p one_wall three_states whole ample
raising = 0

-- they stop ResultLimit, StateLimit, Exhausted, Exhausted
stops : seen (ends original_steps one_wall) ∷ seen (ends original_steps three_states) ∷ seen (ends original_steps whole) ∷ seen (ends original_steps ample) ∷ []
    ≡ shows 4 2 ((0 ∷ []) ∷ [])
    ∷ shows 3 3 ((0 ∷ []) ∷ [])
    ∷ shows 2 4 ((0 ∷ []) ∷ (1 ∷ 2 ∷ []) ∷ [])
    ∷ shows 2 4 ((0 ∷ []) ∷ (1 ∷ 2 ∷ []) ∷ [])
    ∷ []
unfolding raising
stops = refl

whole_stopped : HasStopped (ends original_steps whole)
unfolding raising
whole_stopped e = omega arith

-- the theorems: the whole list begins with the wall found at result limit 1, and with the wall found in three evaluations
one_first : BeginsWith (ends original_steps whole) (ends original_steps one_wall)
unfolding raising
one_first = (longer original_steps p one_wall whole).extends (omega arith, omega arith) whole_stopped

three_first : BeginsWith (ends original_steps whole) (ends original_steps three_states)
unfolding raising
three_first = (longer original_steps p three_states whole).extends (omega arith, omega arith) whole_stopped

-- so does the list of that same search after its first step
half_first : BeginsWith (ends original_steps whole) (run (begins original_steps whole) (step_by p (limits 100 32) 2 ∷ []))
unfolding raising
half_first =
    only_grows original_steps p whole (run (begins original_steps whole) (step_by p (limits 100 32) 2 ∷ []))
    (record { before = step_by p (limits 100 32) 2 ∷ []; later = step_by p (limits 100 32) 99 ∷ []; all = refl; held = refl })

-- but the shorter lists do not begin with the whole one
one_not_whole : BeginsWith (ends original_steps one_wall) (ends original_steps whole) → ⊥
unfolding raising
one_not_whole b = let h = b.layouts in omega arith

three_not_whole : BeginsWith (ends original_steps three_states) (ends original_steps whole) → ⊥
unfolding raising
three_not_whole b = let h = b.layouts in omega arith

-- raised beyond Exhausted: nothing more
still_whole : HasExhausted (ends original_steps ample) × BeginsWith (ends original_steps whole) (ends original_steps ample)
unfolding raising
still_whole = (longer original_steps p whole ample).exhausted (omega arith, omega arith) (λ e. omega arith) refl

-- ---- with an allowed mover: the route of layout 0, read after the first search has stopped and while the second still runs
unfoldable short : Search original_steps gap (limits 10 1)
unfolding promising
short = search_twice gap (limits 10 1) refl

unfoldable long : Search original_steps gap (limits 10 4)
unfolding promising
long = search_twice gap (limits 10 4) refl

unfoldable running : Held
running = run (begins original_steps long) (step_by gap (limits 10 4) 2 ∷ [])

stops_allowed : seen (ends original_steps short) ∷ seen running ∷ seen (ends original_steps long) ∷ []
    ≡ shows 4 2 ((0 ∷ []) ∷ []) ∷ shows 1 2 ((0 ∷ []) ∷ []) ∷ shows 2 3 ((0 ∷ []) ∷ (1 ∷ []) ∷ []) ∷ []
unfolding raising short long running
stops_allowed = refl

unfoldable read_short : ReadOut
read_short = read_call gap (limits 10 1) (ends original_steps short).rec 0 (ends original_steps short).store

unfoldable read_running : ReadOut
read_running = read_call gap (limits 10 4) running.rec 0 running.store

read_alike : (read_short.points ≡ 0 ∷ 1 ∷ 1 ∷ 2 ∷ 2 ∷ 2 ∷ 3 ∷ 2 ∷ 4 ∷ 1 ∷ []) × (read_short.points ≡ read_running.points)
unfolding raising short long running read_short read_running
read_alike = (
  refl,
  (longer original_steps gap short long).readings (ends original_steps short) running
      (record { before = twice gap (limits 10 1); later = []; all = refl; held = refl })
      (record { before = step_by gap (limits 10 4) 2 ∷ []; later = step_by gap (limits 10 4) 99 ∷ []; all = refl; held = refl })
      0 gap gap (limits 10 1) (limits 10 4) refl refl,
)

-- the route kept with layout 1
kept : route_at (ends original_steps long) 1 ≡ 0 ∷ 1 ∷ 0 ∷ 2 ∷ 1 ∷ 2 ∷ 2 ∷ 2 ∷ 3 ∷ 2 ∷ 4 ∷ 1 ∷ []
unfolding raising long
kept = refl
