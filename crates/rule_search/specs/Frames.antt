-- `WallSearch::step`, frame by frame, abstract in the evaluation of a set (RULES 5.3, 5.4, 5.5, 5.6).
use Rattle.std.specs.Prelude.{ℕ, zero, suc, ◌+◌, Bool, true, false, not, List, [], ◌∷◌, ◌++◌, leb, ltb, length}
use Rattle.base_laws.specs.Lists.{any_of, same, first_of}
use Rattle.base_model.specs.declared.Position.{Position}
use Rattle.rule_layouts.specs.Explore.{Outcome, Nothing, Extend, Wall}
use Rattle.rule_search.specs.State.{Reason, Running, Exhausted, StateLimit, ResultLimit, Extensions, State, state, stop, set_on, points_kept, frames_left}

pub record Plan : Type 0 where
  pub evaluate : List ℕ → Outcome Position
  pub states : ℕ
  pub results : ℕ

-- a frame leads on, or it ends a portion of one evaluation: a set was evaluated, or the search has stopped
pub data Frame : Type 0 where
  goes ends : State → Frame

unfoldable pub no_frame : State → Bool
no_frame s = elim s.lists [ [] ↦ not s.pending | l ∷ ls ↦ false ]

-- no list is kept where there are no extensions
unfoldable pub push : List ℕ → List Extensions → List Extensions
push [] ls = ls
push (e ∷ es) ls = record { entries = e ∷ es; next = 0 } ∷ ls

module _ (p : Plan) where
  unfoldable pub at_state_limit : State → Bool
  at_state_limit s = leb p.states (length s.visited)

  -- after a frame, in this order: layouts at the result limit; no frame left; evaluations at the state limit
  unfoldable pub look : State → State
  look s = first_of (
      (leb p.results (length s.layouts), stop ResultLimit s)
      ∷ (no_frame s, stop Exhausted s)
      ∷ (at_state_limit s, stop StateLimit s)
      ∷ []) s

  -- A pending set is evaluated: it is a new visited row. A wall is listed, unless its allowed route is longer than 1,000,000 minus the points
  -- already kept: then the search stops ResultLimit.
  unfoldable pub evaluated : Outcome Position → List ℕ → State → State
  evaluated Nothing set s = look (state Running false s.lists (s.visited ++ set ∷ []) s.layouts)
  evaluated (Extend es) set s = look (state Running false (push es s.lists) (s.visited ++ set ∷ []) s.layouts)
  evaluated (Wall r) set s =
      elim (leb (points_kept s.layouts + length r) 1000000) [
        | true ↦ look (state Running false s.lists (s.visited ++ set ∷ []) (s.layouts ++ record { members = set; route = r } ∷ []))
        | false ↦ state ResultLimit false s.lists (s.visited ++ set ∷ []) s.layouts
      ]

  -- a repeated set uses no evaluation and skips the looks
  unfoldable pub pending_frame : State → Frame
  pending_frame s =
      elim (any_of (same (set_on s.lists)) s.visited) [
        | true ↦ goes (state Running false s.lists s.visited s.layouts)
        | false ↦ ends (evaluated (p.evaluate (set_on s.lists)) (set_on s.lists) s)
      ]

  -- the next placement of the list last made is taken, and the set with it is pending; a spent list goes, and skips the looks
  unfoldable pub list_frame : Extensions → List Extensions → State → Frame
  list_frame l ls s =
      elim (ltb l.next (length l.entries)) [
        | true ↦ goes (look (state Running true (record { entries = l.entries; next = suc l.next } ∷ ls) s.visited s.layouts))
        | false ↦ goes (state Running false ls s.visited s.layouts)
      ]

  unfoldable pub top_frame : Bool → List Extensions → State → Frame
  top_frame true ls s = pending_frame s
  top_frame false [] s = ends (stop Exhausted s)
  top_frame false (l ∷ ls) s = list_frame l ls s

  -- before a frame: evaluations at the state limit give StateLimit, then no frame left gives Exhausted. After a stop nothing changes.
  unfoldable pub frame : Reason → State → Frame
  frame Running s = elim (at_state_limit s) [ true ↦ ends (stop StateLimit s) | false ↦ top_frame s.pending s.lists s ]
  frame Exhausted s = ends s
  frame StateLimit s = ends s
  frame ResultLimit s = ends s

  -- frames until one ends the portion
  unfoldable pub frames : ℕ → State → State
  frames zero s = s
  frames (suc n) s = elim (frame s.reason s) [ goes t ↦ frames n t | ends t ↦ t ]

  -- A portion: every frame that leads on lowers `frames_left`, so the last of these frames ends the portion.
  unfoldable pub advance : State → State
  advance s = frames (suc (frames_left s)) s

  -- step(n): n portions of one evaluation each
  unfoldable pub step : ℕ → State → State
  step zero s = s
  step (suc n) s = step n (advance s)

-- the empty set is pending
unfoldable pub begun : State
begun = state Running true [] [] []
