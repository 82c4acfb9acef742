-- Longer runs extend the earlier list (RULES 11), over the C functions (RULES 7.10): the claims of promise/specs/Longer where a record is its numbers and an answer
-- is a number, 0 where the call is accepted.
use Rattle.std.specs.Prelude.{ℕ, ◌≤◌, ◌<◌, ◌≡◌, ◌≢◌, List, ◌++◌, ℤ, get_or}
use Rattle.base_model.specs.declared.Limits.{Limits}
use Rattle.rule_layouts.specs.Inputs.{Inputs}
use Rattle.rule_calls.specs.Areas.{Work, points_of}
use Rattle.promise.specs.Promise.{Call, stepping}
use Rattle.promise.specs.Longer.{NoSmaller}
use Rattle.walls_numbers.specs.Numbers.{record_from}
use Rattle.walls_numbers.specs.Left.{read_on}
use Rattle.promise_c.specs.PromiseOn.{HeldOn, layouts_on, layout_on, HasExhaustedOn, answer_on, after_on, run_on, SearchOn, begins_on, ends_on, points_told}

-- number 1 is the evaluations
unfoldable pub evaluations_on : HeldOn → ℕ
evaluations_on h = get_or h.numbers 1 0

-- number 0 is the reason, 1 is Running
unfoldable pub HasStoppedOn : HeldOn → Type 0
HasStoppedOn h = get_or h.numbers 0 0 ≢ 1

-- the points kept with layout k, as they stand in the points area
unfoldable pub route_on : HeldOn → ℕ → List ℕ
route_on h k = points_of (record_from h.numbers) h.store.points k

-- the later list begins with the earlier one
pub record BeginsWithOn (later earlier : HeldOn) : Type 0 where
  pub layouts : layouts_on earlier ≤ layouts_on later
  pub evaluations : evaluations_on earlier ≤ evaluations_on later
  pub same : (k : ℕ) → k < layouts_on earlier → layout_on later k ≡ layout_on earlier k
  pub routes : (k : ℕ) → k < layouts_on earlier → route_on later k ≡ route_on earlier k

-- h is what the search held at some moment: after the calls `before`, with which its list of calls begins
pub record MomentOn {table : List ℤ} {i : Inputs} {l : Limits} (s : SearchOn table i l) (h : HeldOn) : Type 0 where
  pub before : List Call
  pub later : List Call
  pub all : s.calls ≡ before ++ later
  pub held : run_on (begins_on s) before ≡ h

-- Two searches over the same inputs, each with limits, numbers, areas and calls of its own.
pub record LongerOn {table : List ℤ} {i : Inputs} {l m : Limits} (s : SearchOn table i l) (t : SearchOn table i m) : Type 0 where
  pub extends : NoSmaller l m → HasStoppedOn (ends_on t) → BeginsWithOn (ends_on t) (ends_on s)
  pub exhausted : NoSmaller l m → HasStoppedOn (ends_on t) → HasExhaustedOn (ends_on s) → HasExhaustedOn (ends_on t) × BeginsWithOn (ends_on s) (ends_on t)
  pub readings : (h u : HeldOn) → MomentOn s h → MomentOn t u → (k : ℕ) (a b : Inputs) (x y : Limits)
      → (read_on a x h.numbers k h.store).answer ≡ 0 → (read_on b y u.numbers k u.store).answer ≡ 0
      → points_told (read_on a x h.numbers k h.store) h.store.points ≡ points_told (read_on b y u.numbers k u.store) u.store.points

-- a search stepped further keeps its list
unfoldable pub OnlyGrowsOn : {table : List ℤ} {i : Inputs} {l : Limits} → SearchOn table i l → Type 0
OnlyGrowsOn s = (h : HeldOn) → MomentOn s h → BeginsWithOn (ends_on s) h

-- an accepted step by the state limit or more leaves the search stopped
unfoldable pub StopsInTimeOn : {table : List ℤ} {i : Inputs} {l : Limits} → SearchOn table i l → Type 0
StopsInTimeOn {table} {i} {l} s =
    (n : ℕ) (work : Work) → l.states ≤ n → answer_on (ends_on s) (stepping table i l n work) ≡ 0 → HasStoppedOn (after_on (ends_on s) (stepping table i l n work))
