-- The promise (RULES 10, 14) over the C functions (RULES 7.10): the claim of promise/specs/Promise where a record is its numbers and an answer is a number, 0 where the call is accepted.
use Rattle.std.specs.Prelude.{ℕ, ◌*◌, ◌<◌, ◌≡◌, ◌↔◌, List, [], ◌∷◌, ℤ, get_or, take, drop}
use Rattle.base_model.specs.declared.Limits.{Limits}
use Rattle.rule_routes.specs.Edges.{steps_of}
use Rattle.rule_layouts.specs.Inputs.{Inputs, exchanged, board_of}
use Rattle.rule_layouts.specs.Walls.{IsWall}
use Rattle.rule_calls.specs.Areas.{Work, Store, row_of}
use Rattle.promise.specs.Promise.{Call, stepping, reading, inputs_in, limits_in, HasTable, HandsBack}
use Rattle.walls_numbers.specs.Left.{Left, begin_on, step_on, LeftRead, read_on}

-- ---- what a call leaves
pub record HeldOn : Type 0 where
  pub numbers : List ℕ
  pub store : Store

unfoldable pub leaves_on : Left → HeldOn
leaves_on o = record { numbers = o.numbers; store = o.store }

-- the layouts are the first rows of the layouts area, as many as number 3 says
unfoldable pub layouts_on : HeldOn → ℕ
layouts_on h = get_or h.numbers 3 0

unfoldable pub layout_on : HeldOn → ℕ → List ℕ
layout_on h k = row_of h.store.layouts k

pub record ListedOn (h : HeldOn) (s : List ℕ) : Type 0 where
  pub at : ℕ
  pub among : at < layouts_on h
  pub same : layout_on h at ≡ s

-- number 0 is the reason, 2 is Exhausted
unfoldable pub HasExhaustedOn : HeldOn → Type 0
HasExhaustedOn h = get_or h.numbers 0 0 ≡ 2

-- the same sets, as many of them, perhaps in another sequence
pub record SameListOn (one other : HeldOn) : Type 0 where
  pub count : layouts_on one ≡ layouts_on other
  pub sets : (set : List ℕ) → ListedOn one set ↔ ListedOn other set

-- ---- calls after begin
unfoldable pub answer_on : HeldOn → Call → ℕ
answer_on h (stepping table i l n work) = (step_on table i l h.numbers n work h.store).answer
answer_on h (reading i l k) = (read_on i l h.numbers k h.store).answer

-- reading alters nothing
unfoldable pub after_on : HeldOn → Call → HeldOn
after_on h (stepping table i l n work) = leaves_on (step_on table i l h.numbers n work h.store)
after_on h (reading i l k) = h

-- each call on what the call before it left
unfoldable pub run_on : HeldOn → List Call → HeldOn
run_on h [] = h
run_on h (c ∷ cs) = run_on (after_on h c) cs

-- P holds of every call of the list, at its place: of what the calls before it left, and of the call
unfoldable pub AlongOn : (HeldOn → Call → Type 0) → HeldOn → List Call → Type 0
AlongOn P h [] = Unit {0}
AlongOn P h (c ∷ cs) = P h c × AlongOn P (after_on h c) cs

-- an accepted call has this table, if it takes one, and these inputs and limits; a refused one may bring others
unfoldable pub FaithfulOn : (table : List ℤ) → Inputs → Limits → HeldOn → Call → Type 0
FaithfulOn table i l h c = answer_on h c ≡ 0 → HasTable table c × (inputs_in c ≡ i) × (limits_in c ≡ l)

-- an accepted begin, over any numbers and areas, and any list of calls after it
pub record SearchOn (table : List ℤ) (i : Inputs) (l : Limits) : Type 0 where
  pub numbers : List ℕ
  pub work : Work
  pub store : Store
  pub accepted : (begin_on table i l numbers work store).answer ≡ 0
  pub calls : List Call
  pub faithful : AlongOn (FaithfulOn table i l) (leaves_on (begin_on table i l numbers work store)) calls

module _ {table : List ℤ} {i : Inputs} {l : Limits} (s : SearchOn table i l) where
  unfoldable pub begins_on : HeldOn
  begins_on = leaves_on (begin_on table i l s.numbers s.work s.store)

  unfoldable pub ends_on : HeldOn
  ends_on = run_on begins_on s.calls

-- ---- readings
-- the part of the points area that a reading tells of, two numbers a point
unfoldable pub points_told : LeftRead → (points : List ℕ) → List ℕ
points_told o points = take (2 * o.count) (drop (2 * o.first) points)

-- an accepted reading of layout k tells where the allowed mover's route past the wall stands, for the wall that stands there
unfoldable pub ReadsOn : (table : List ℤ) → Inputs → HeldOn → Call → Type 0
ReadsOn table i h (stepping t j m n work) = Unit {0}
ReadsOn table i h (reading j m k) =
    (read_on j m h.numbers k h.store).answer ≡ 0
    → IsWall (board_of (steps_of table) i) (layout_on h k)
    × HandsBack table i (board_of (steps_of table) i).allow (layout_on h k) (points_told (read_on j m h.numbers k h.store) h.store.points)

-- ---- the claim
pub record PromiseOn (table : List ℤ) (i : Inputs) (l : Limits) (s : SearchOn table i l) : Type 0 where
  pub walls : (k : ℕ) → k < layouts_on (ends_on s) → IsWall (board_of (steps_of table) i) (layout_on (ends_on s) k)
  pub once : (j k : ℕ) → j < layouts_on (ends_on s) → k < layouts_on (ends_on s) → layout_on (ends_on s) j ≡ layout_on (ends_on s) k → j ≡ k
  pub readings : AlongOn (ReadsOn table i) (begins_on s) s.calls
  pub exhausted : HasExhaustedOn (ends_on s) → (set : List ℕ) → IsWall (board_of (steps_of table) i) set ↔ ListedOn (ends_on s) set
  -- the search by another table, with limits, numbers, areas and calls of its own
  pub orders : (other : List ℤ) (m : Limits) (t : SearchOn other i m) → HasExhaustedOn (ends_on s) → HasExhaustedOn (ends_on t)
      → SameListOn (ends_on s) (ends_on t)
  -- and the one from end to start
  pub return : (other : List ℤ) (m : Limits) (t : SearchOn other (exchanged i) m) → HasExhaustedOn (ends_on s) → HasExhaustedOn (ends_on t)
      → SameListOn (ends_on s) (ends_on t)
