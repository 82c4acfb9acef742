-- Longer runs extend the earlier list (RULES 11): of two searches over the same inputs, neither limit smaller in the second, stepped in any portions until it stops,
-- the first's layouts and allowed routes begin the second's, in the same order, and its evaluations are no more. A search stepped further keeps its list, and a step
-- by its state limit stops it.
use Rattle.std.specs.Prelude.{ℕ, ◌≤◌, ◌<◌, ◌≡◌, ◌≢◌, List, ◌++◌, ℤ}
use Rattle.std.proofs.Math.Option.{none}
use Rattle.base_model.specs.declared.Limits.{Limits}
use Rattle.rule_layouts.specs.Inputs.{Inputs}
use Rattle.rule_search.specs.State.{Running}
use Rattle.rule_calls.specs.Areas.{Work, number_of, points_of}
use Rattle.rule_calls.specs.Calls.{read_call}
use Rattle.promise.specs.Promise.{Call, stepping, Held, layout_at, HasExhausted, answer_to, after, run, Search, begins, ends}

-- neither limit is smaller in the second
unfoldable pub NoSmaller : Limits → Limits → Type 0
NoSmaller l m = (l.states ≤ m.states) × (l.results ≤ m.results)

-- for whatever reason: Exhausted, StateLimit, or ResultLimit by the number of layouts or by that of points
unfoldable pub HasStopped : Held → Type 0
HasStopped h = h.rec.reason ≢ number_of Running

-- the points kept with layout k, as they stand in the points area: x, y after x, y
unfoldable pub route_at : Held → ℕ → List ℕ
route_at h k = points_of h.rec h.store.points k

-- The later list begins with the earlier one: every earlier layout stands at its place in it, with the same allowed route; the earlier evaluations are no more.
pub record BeginsWith (later earlier : Held) : Type 0 where
  pub layouts : earlier.rec.layouts ≤ later.rec.layouts
  pub evaluations : earlier.rec.evaluations ≤ later.rec.evaluations
  pub same : (k : ℕ) → k < earlier.rec.layouts → layout_at later k ≡ layout_at earlier k
  pub routes : (k : ℕ) → k < earlier.rec.layouts → route_at later k ≡ route_at earlier k

module _ (table : List ℤ) where
  -- h is what the search held at some moment: after the calls `before`, with which its list of calls begins
  pub record Moment {i : Inputs} {l : Limits} (s : Search table i l) (h : Held) : Type 0 where
    pub before : List Call
    pub later : List Call
    pub all : s.calls ≡ before ++ later
    pub held : run (begins table s) before ≡ h

  -- Two searches over the same inputs, each with limits, areas and calls of its own.
  pub record Longer {i : Inputs} {l m : Limits} (s : Search table i l) (t : Search table i m) : Type 0 where
    -- the second has stopped; the first has too, or is still running
    pub extends : NoSmaller l m → HasStopped (ends table t) → BeginsWith (ends table t) (ends table s)
    -- the first is Exhausted: so is the second, and the first begins with it too, so that layouts, routes and evaluations are the same
    pub exhausted : NoSmaller l m → HasStopped (ends table t) → HasExhausted (ends table s)
        → HasExhausted (ends table t) × BeginsWith (ends table s) (ends table t)
    -- a reading of layout k, accepted at some moment of each, hands back the same points, whatever the limits
    pub readings : (h u : Held) → Moment s h → Moment t u → (k : ℕ) (a b : Inputs) (x y : Limits)
        → (read_call a x h.rec k h.store).answer ≡ none → (read_call b y u.rec k u.store).answer ≡ none
        → (read_call a x h.rec k h.store).points ≡ (read_call b y u.rec k u.store).points

  -- a search stepped further: through any calls its list only grows, in place
  unfoldable pub OnlyGrows : {i : Inputs} {l : Limits} → Search table i l → Type 0
  OnlyGrows s = (h : Held) → Moment s h → BeginsWith (ends table s) h

  -- an accepted step by the state limit or more leaves the search stopped
  unfoldable pub StopsInTime : {i : Inputs} {l : Limits} → Search table i l → Type 0
  StopsInTime {i} {l} s =
      (n : ℕ) (work : Work) → l.states ≤ n → answer_to (ends table s) (stepping table i l n work) ≡ none → HasStopped (after (ends table s) (stepping table i l n work))
