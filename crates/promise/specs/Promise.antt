-- The promise (RULES 10, 14), one claim about a whole list of calls: after an accepted begin and any list of steps and readings, every layout is a wall, none is listed
-- twice, every accepted reading has handed back the allowed mover's route, the first of the shortest ways by the table, and if the reason is then Exhausted the layouts are
-- exactly the walls: the same ones by another table of steps, and from end to start.
use Rattle.std.specs.Prelude.{ℕ, ◌<◌, ◌≡◌, ◌↔◌, List, [], ◌∷◌, map, ℤ}
use Rattle.std.proofs.Math.Option.{Option, none, some}
use Rattle.base_model.specs.Answers.{Said}
use Rattle.base_model.specs.declared.Limits.{Limits}
use Rattle.base_model.specs.declared.Record.{Record}
use Rattle.ground_rects.specs.Windows.{width, position_of}
use Rattle.rule_routes.specs.Edges.{steps_of}
use Rattle.rule_routes.specs.Roads.{Road}
use Rattle.rule_routes.specs.Shortest.{BySteps, FirstWay}
use Rattle.rule_layouts.specs.Boards.{Mover, leaves_open, route_past}
use Rattle.rule_layouts.specs.Inputs.{Inputs, exchanged, board_of}
use Rattle.rule_layouts.specs.Walls.{IsWall}
use Rattle.rule_search.specs.State.{Exhausted}
use Rattle.rule_calls.specs.Areas.{Work, Store, number_of, row_of, numbers}
use Rattle.rule_calls.specs.Calls.{After, begin_call, step_call, read_call}

-- ---- calls after begin
-- A step by n or a reading of layout k, with all that it brings of its own. Record and store are what the call before it left.
pub data Call : Type 0 where
  stepping : (table : List ℤ) → Inputs → Limits → (n : ℕ) → Work → Call
  reading : Inputs → Limits → (k : ℕ) → Call

unfoldable pub inputs_in : Call → Inputs
inputs_in (stepping table i l n work) = i
inputs_in (reading i l k) = i

unfoldable pub limits_in : Call → Limits
limits_in (stepping table i l n work) = l
limits_in (reading i l k) = l

-- a reading brings no table
unfoldable pub HasTable : List ℤ → Call → Type 0
HasTable table (stepping t i l n work) = t ≡ table
HasTable table (reading i l k) = Unit {0}

-- ---- what a call leaves
pub record Held : Type 0 where
  pub rec : Record
  pub store : Store

unfoldable pub leaves : After → Held
leaves a = record { rec = a.rec; store = a.store }

-- the layouts are the first rows of the layouts area, as many as the record's layout number says
unfoldable pub layout_at : Held → ℕ → List ℕ
layout_at h k = row_of h.store.layouts k

pub record Listed (h : Held) (s : List ℕ) : Type 0 where
  pub at : ℕ
  pub among : at < h.rec.layouts
  pub same : layout_at h at ≡ s

unfoldable pub HasExhausted : Held → Type 0
HasExhausted h = h.rec.reason ≡ number_of Exhausted

-- the same sets, as many of them, perhaps in another sequence
pub record SameList (one other : Held) : Type 0 where
  pub count : one.rec.layouts ≡ other.rec.layouts
  pub sets : (set : List ℕ) → Listed one set ↔ Listed other set

-- ---- lists of calls
unfoldable pub answer_to : Held → Call → Option Said
answer_to h (stepping table i l n work) = (step_call table i l h.rec n work h.store).answer
answer_to h (reading i l k) = (read_call i l h.rec k h.store).answer

-- reading alters nothing
unfoldable pub after : Held → Call → Held
after h (stepping table i l n work) = leaves (step_call table i l h.rec n work h.store)
after h (reading i l k) = h

-- each call on what the call before it left
unfoldable pub run : Held → List Call → Held
run h [] = h
run h (c ∷ cs) = run (after h c) cs

-- P holds of every call of the list, at its place: of what the calls before it left, and of the call
unfoldable pub Along : (Held → Call → Type 0) → Held → List Call → Type 0
Along P h [] = Unit {0}
Along P h (c ∷ cs) = P h c × Along P (after h c) cs

module _ (table : List ℤ) where
  -- an accepted call has this table, if it takes one, and these inputs and limits; a refused one may bring others
  unfoldable pub Faithful : Inputs → Limits → Held → Call → Type 0
  Faithful i l h c = answer_to h c ≡ none → HasTable table c × (inputs_in c ≡ i) × (limits_in c ≡ l)

  -- an accepted begin, over any areas, and any list of calls after it
  pub record Search (i : Inputs) (l : Limits) : Type 0 where
    pub work : Work
    pub store : Store
    pub accepted : (begin_call table i l work store).answer ≡ none
    pub calls : List Call
    pub faithful : Along (Faithful i l) (leaves (begin_call table i l work store)) calls

  module _ {i : Inputs} {l : Limits} (s : Search i l) where
    unfoldable pub begins : Held
    begins = leaves (begin_call table i l s.work s.store)

    unfoldable pub ends : Held
    ends = run begins s.calls

  -- ---- readings
  -- the points are those of the mover's route past the wall, in map pixels; the route leads from start to end over centres that the wall leaves open to it, and is the
  -- first of the shortest ways by the table
  pub record RouteGiven (i : Inputs) (m : Mover) (wall points : List ℕ) : Type 0 where
    pub route : List ℕ
    pub found : route_past (board_of (steps_of table) i) m wall ≡ some route
    pub road : Road (board_of (steps_of table) i).edges (board_of (steps_of table) i).nodes (leaves_open m wall) (board_of (steps_of table) i).start (board_of (steps_of table) i).end route
    pub first : FirstWay (BySteps (width i.query.window) (steps_of table)) (board_of (steps_of table) i).edges (leaves_open m wall)
        (board_of (steps_of table) i).start (board_of (steps_of table) i).end route
    pub given : points ≡ numbers (map (position_of i.query.window) route)

  -- the allowed mover's route past the wall, or nothing if there is no allowed mover
  unfoldable pub HandsBack : Inputs → Option Mover → (wall points : List ℕ) → Type 0
  HandsBack i none wall points = points ≡ []
  HandsBack i (some m) wall points = RouteGiven i m wall points

  -- an accepted reading of layout k hands that back for the wall that stands there
  unfoldable pub Reads : Inputs → Held → Call → Type 0
  Reads i h (stepping t j m n work) = Unit {0}
  Reads i h (reading j m k) =
      (read_call j m h.rec k h.store).answer ≡ none
      → IsWall (board_of (steps_of table) i) (layout_at h k) × HandsBack i (board_of (steps_of table) i).allow (layout_at h k) (read_call j m h.rec k h.store).points

-- ---- the claim
pub record Promise (table : List ℤ) (i : Inputs) (l : Limits) (s : Search table i l) : Type 0 where
  pub walls : (k : ℕ) → k < (ends table s).rec.layouts → IsWall (board_of (steps_of table) i) (layout_at (ends table s) k)
  pub once : (j k : ℕ) → j < (ends table s).rec.layouts → k < (ends table s).rec.layouts → layout_at (ends table s) j ≡ layout_at (ends table s) k → j ≡ k
  pub readings : Along (Reads table i) (begins table s) s.calls
  pub exhausted : HasExhausted (ends table s) → (set : List ℕ) → IsWall (board_of (steps_of table) i) set ↔ Listed (ends table s) set
  -- the search by another table, with limits, areas and calls of its own
  pub orders : (other : List ℤ) (m : Limits) (t : Search other i m) → HasExhausted (ends table s) → HasExhausted (ends other t)
      → SameList (ends table s) (ends other t)
  -- and the one from end to start
  pub return : (other : List ℤ) (m : Limits) (t : Search other (exchanged i) m) → HasExhausted (ends table s) → HasExhausted (ends other t)
      → SameList (ends table s) (ends other t)
