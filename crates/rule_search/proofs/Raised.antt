-- Limits raised. A frame under larger limits is the frame under the smaller ones, or the smaller ones have stopped the search there, and what they had evaluated
-- and listed begins what the larger ones go on to. So it is with portions and steps; and the layouts of any two searches with one evaluation agree place by place.
use Prim.Native.Nat.{ℕ, zero, suc, ◌+◌, ◌≤◌, ◌<◌}
use mathlib.Core.Path.{◌≡◌, refl, sym, ◌∙◌, ap, subst}
use mathlib.Core.Bool.{Bool}
use mathlib.Core.Logic.{◌⊎◌, inl, inr, ◌≢◌}
use mathlib.Core.List.{List, [], ◌∷◌, ◌++◌}
use native.Mathlib.Omega.{arith}
use native.Mathlib.Nat.{add_comm}
use lib.ListN.{length, get_or}
use Rattle.base_laws.proofs.Starts.{Starts, starts_all, starts_one, starts_on, starts_at}
use Rattle.rule_search.specs.State.{Reason, Running, Exhausted, StateLimit, ResultLimit, Extensions, Layout, State, set_on, frames_left}
use Rattle.rule_search.specs.Frames.{Plan, Frame, goes, ends, push, frame, frames, advance, step}
use Rattle.rule_search.specs.Formed.{Fresh}
use Rattle.rule_search.proofs.Moves.{
  after,
  held,
  taking,
  Looked,
  on,
  at_results,
  none_left,
  at_states,
  Move,
  idle,
  limited,
  finished,
  repeated,
  spent,
  taken,
  nothing,
  extended,
  listed,
  overfull,
  looks,
  move,
  move_is,
  exhausted_stops,
  state_limit_stops,
  result_limit_stops,
  frames_keep,
  step_keeps,
}
use Rattle.rule_search.proofs.Steps.{frames_stopped, step_add, step_stopped}

-- ---- a search's lists only grow
pub record Grows (s t : State) : Type 0 where
  pub visited : Starts s.visited t.visited
  pub layouts : Starts s.layouts t.layouts

pub grows_none : (s : State) → Grows s s
grows_none s = record { visited = starts_all s.visited; layouts = starts_all s.layouts }

grows_on : {s t u : State} → Grows s t → Grows t u → Grows s u
grows_on g h = record { visited = starts_on g.visited h.visited; layouts = starts_on g.layouts h.layouts }

move_grows : {p : Plan} {s : State} {f : Frame} → Move p s f → Grows s (after f)
move_grows (idle {r = r} {b = b} {ls = ls} {v = v} {ys = ys} h) = grows_none (held r b ls v ys)
move_grows (limited {v = v} {ys = ys} h) = record { visited = starts_all v; layouts = starts_all ys }
move_grows (finished {v = v} {ys = ys} h) = record { visited = starts_all v; layouts = starts_all ys }
move_grows (repeated {v = v} {ys = ys} h m) = record { visited = starts_all v; layouts = starts_all ys }
move_grows (spent {v = v} {ys = ys} h k) = record { visited = starts_all v; layouts = starts_all ys }
move_grows (taken {v = v} {ys = ys} h k o) = record { visited = starts_all v; layouts = starts_all ys }
move_grows (nothing {ls = ls} {v = v} {ys = ys} h e o) = record { visited = starts_one v (set_on ls); layouts = starts_all ys }
move_grows (extended {ls = ls} {v = v} {ys = ys} es h e o) = record { visited = starts_one v (set_on ls); layouts = starts_all ys }
move_grows (listed {ls = ls} {v = v} {ys = ys} q h e k o) =
    record { visited = starts_one v (set_on ls); layouts = starts_one ys (record { members = set_on ls; route = q }) }
move_grows (overfull {ls = ls} {v = v} {ys = ys} q h e k) = record { visited = starts_one v (set_on ls); layouts = starts_all ys }

module _ (p : Plan) where
  frames_grow : (n : ℕ) (s : State) → Grows s (frames p n s)
  frames_grow n s = frames_keep p (Grows s) (λ t f m g. grows_on g (move_grows m)) n s (grows_none s)

  pub step_grows : (n : ℕ) (s : State) → Grows s (step p n s)
  step_grows n s = step_keeps p (Grows s) (λ t f m g. grows_on g (move_grows m)) n s (grows_none s)

  -- what n frames come to after a first one
  abbrev onward : ℕ → Frame → State
  onward n f = elim f [ goes t ↦ frames p n t | ends t ↦ t ]

  onward_grows : (n : ℕ) (f : Frame) → Grows (after f) (onward n f)
  onward_grows n (goes t) = frames_grow n t
  onward_grows n (ends t) = grows_none t

  onward_stopped : (n : ℕ) (f : Frame) → (after f).reason ≢ Running → onward n f ≡ after f
  onward_stopped n (goes t) h = frames_stopped p n t h
  onward_stopped n (ends t) h = refl

  -- further portions after a stop change nothing
  stopped_at : (m n : ℕ) (s : State) → (step p n s).reason ≢ Running → step p (m + n) s ≡ step p n s
  stopped_at m n s h = ap (λ (k : ℕ). step p k s) (add_comm m n) ∙ step_add p n m s ∙ step_stopped p m (step p n s) h

-- ---- limits raised
-- the same evaluation, and neither limit smaller
pub record Raised (p q : Plan) : Type 0 where
  pub alike : (w : List ℕ) → q.evaluate w ≡ p.evaluate w
  pub states : p.states ≤ q.states
  pub results : p.results ≤ q.results

-- stopped by a limit
record Cut (r : Reason) : Type 0 where
  stopped : r ≢ Running
  unfinished : r ≢ Exhausted

cut_states : Cut StateLimit
cut_states = record { stopped = state_limit_stops; unfinished = λ e. let z : ◌≡◌ {A = ℕ} 0 1 = cc in omega arith }

cut_results : Cut ResultLimit
cut_results = record { stopped = result_limit_stops; unfinished = λ e. let z : ◌≡◌ {A = ℕ} 0 1 = cc in omega arith }

-- the same frame, or the first stops at a limit and the second goes on from there
abbrev Beside : Frame → Frame → Type 0
Beside f e = (f ≡ e) ⊎ (Cut (after f).reason × Grows (after f) (after e))

-- the same state, or the first has stopped at a limit and begins the second
data Ahead (s t : State) : Type 0 where
  level : s ≡ t → Ahead s t
  behind : Cut s.reason → Grows s t → Ahead s t

module _ (p q : Plan) (raised : Raised p q) where
  abbrev Next : State → Frame → Type 0
  Next s f = (e : Frame) × Move q s e × Beside f e

  looked_raised : {b : Bool} {ls : List Extensions} {v : List (List ℕ)} {ys : List Layout} {r : Reason} → Looked p b ls v ys r → Looked q b ls v ys r ⊎ Cut r
  looked_raised (on h i k) = let j = raised.results in let o = raised.states in inl (on (omega arith) i (omega arith))
  looked_raised (at_results h) = inr cut_results
  looked_raised (none_left h e i) = let j = raised.results in inl (none_left (omega arith) e i)
  looked_raised (at_states h i k) = inr cut_states

  fresh_raised : {ls : List Extensions} {v : List (List ℕ)} → Fresh p ls v → Fresh q ls v
  fresh_raised h = record { room = (let j = raised.states in let k = h.room in omega arith); new = h.new }

  room_raised : {n : ℕ} → n < p.states → n < q.states
  room_raised h = let j = raised.states in omega arith

  -- a frame that ends with the looks: the same if they find the same, else the first stops
  looking : (s : State) (b : Bool) (ls : List Extensions) (v : List (List ℕ)) (ys : List Layout) (over : State → Frame) → ((t : State) → after (over t) ≡ t)
      → ((r : Reason) → Looked q b ls v ys r → Move q s (over (held r b ls v ys)))
      → (r : Reason) → Looked p b ls v ys r → Next s (over (held r b ls v ys))
  looking s b ls v ys over is made r o = go (looked_raised o)
    where
      go : Looked q b ls v ys r ⊎ Cut r → Next s (over (held r b ls v ys))
      go (inl k) = (over (held r b ls v ys), made r k, inl refl)
      go (inr c) =
          let x = looks q b ls v ys in (
            over (held x.0 b ls v ys),
            made x.0 x.1,
            inr (
              subst (λ (t : State). Cut t.reason) (sym (is (held r b ls v ys))) c,
              subst (λ (t : State). Grows t (after (over (held x.0 b ls v ys)))) (sym (is (held r b ls v ys)))
                  (subst (λ (u : State). Grows (held r b ls v ys) u) (sym (is (held x.0 b ls v ys))) (record { visited = starts_all v; layouts = starts_all ys })),
            ),
          )

  move_raised : {s : State} {f : Frame} → Move p s f → Next s f
  move_raised (idle h) = (_, idle h, inl refl)
  move_raised (limited {b = b} {ls = ls} {v = v} {ys = ys} h) =
      let s = held Running b ls v ys in
      let g = move_grows (move q s) in
      (frame q Running s, move q s, inr (cut_states, record { visited = g.visited; layouts = g.layouts }))
  move_raised (finished h) = (_, finished (room_raised h), inl refl)
  move_raised (repeated h m) = (_, repeated (room_raised h) m, inl refl)
  move_raised (spent h k) = (_, spent (room_raised h) k, inl refl)
  move_raised (taken {l = l} {ls = ls} {v = v} {ys = ys} {r = r} h k o) =
      looking _ _ (taking l ∷ ls) v ys goes (λ t. refl) (λ r j. taken (room_raised h) k j) r o
  move_raised (nothing {ls = ls} {v = v} {ys = ys} {r = r} h e o) =
      looking _ _ ls (v ++ set_on ls ∷ []) ys ends (λ t. refl) (λ r j. nothing (fresh_raised h) (raised.alike (set_on ls) ∙ e) j) r o
  move_raised (extended {ls = ls} {v = v} {ys = ys} {r = r} es h e o) =
      looking _ _ (push es ls) (v ++ set_on ls ∷ []) ys ends (λ t. refl) (λ r j. extended es (fresh_raised h) (raised.alike (set_on ls) ∙ e) j) r o
  move_raised (listed {ls = ls} {v = v} {ys = ys} {r = r} w h e k o) =
      looking _ _ ls (v ++ set_on ls ∷ []) (ys ++ record { members = set_on ls; route = w } ∷ []) ends (λ t. refl)
      (λ r j. listed w (fresh_raised h) (raised.alike (set_on ls) ∙ e) k j) r o
  move_raised (overfull {ls = ls} w h e k) = (_, overfull w (fresh_raised h) (raised.alike (set_on ls) ∙ e) k, inl refl)

  frame_raised : (s : State) → Beside (frame p s.reason s) (frame q s.reason s)
  frame_raised s = let n = move_raised (move p s) in subst (Beside (frame p s.reason s)) (sym (move_is n.1)) n.2

  -- ---- frames, portions, steps
  frames_raised : (n : ℕ) (s : State) → Ahead (frames p n s) (frames q n s)
  unfolding frames
  frames_raised zero s = level refl
  frames_raised (suc n) s = go (frame p s.reason s) (frame q s.reason s) (frame_raised s) (λ (t : State). frames_raised n t)
    where
      alike : (f : Frame) → ((t : State) → Ahead (frames p n t) (frames q n t)) → Ahead (onward p n f) (onward q n f)
      alike (goes t) ih = ih t
      alike (ends t) ih = level refl

      go : (f e : Frame) → Beside f e → ((t : State) → Ahead (frames p n t) (frames q n t)) → Ahead (onward p n f) (onward q n e)
      go f e (inl x) ih = subst (λ (d : Frame). Ahead (onward p n f) (onward q n d)) x (alike f ih)
      go f e (inr (c, g)) ih = subst (λ (t : State). Ahead t (onward q n e)) (sym (onward_stopped p n f c.stopped)) (behind c (grows_on g (onward_grows q n e)))

  step_raised : (n : ℕ) (s : State) → Ahead (step p n s) (step q n s)
  unfolding step advance
  step_raised zero s = level refl
  step_raised (suc n) s = go (frames_raised (suc (frames_left s)) s) (step_raised n (advance p s))
    where
      go : Ahead (advance p s) (advance q s) → Ahead (step p n (advance p s)) (step q n (advance p s)) → Ahead (step p n (advance p s)) (step q n (advance q s))
      go (level e) ih = subst (λ (t : State). Ahead (step p n (advance p s)) (step q n t)) e ih
      go (behind c g) ih =
          subst (λ (t : State). Ahead t (step q n (advance q s))) (sym (step_stopped p n (advance p s) c.stopped))
          (behind c (grows_on g (step_grows q n (advance q s))))

  -- ---- from one state, stepped by any two numbers
  step_longer : (m n : ℕ) (s : State) → Grows (step p m s) (step q (m + n) s)
  step_longer m n s = subst (λ (t : State). Grows (step p m s) t) (sym (step_add q m n s)) (grows_on (go (step_raised m s)) (step_grows q n (step q m s)))
    where
      go : Ahead (step p m s) (step q m s) → Grows (step p m s) (step q m s)
      go (level e) = subst (λ (t : State). Grows (step p m s) t) e (grows_none (step p m s))
      go (behind c g) = g

  -- the second has stopped: the first, at any moment, begins it
  pub stopped_longer : (m n : ℕ) (s : State) → (step q n s).reason ≢ Running → Grows (step p m s) (step q n s)
  stopped_longer m n s h = subst (λ (t : State). Grows (step p m s) t) (stopped_at q m n s h) (step_longer m n s)

  -- the first is Exhausted: the second comes to the same
  pub exhausted_longer : (m n : ℕ) (s : State) → (step p m s).reason ≡ Exhausted → (step q n s).reason ≢ Running → step q n s ≡ step p m s
  exhausted_longer m n s e h = go (step_raised m s)
    where
      go : Ahead (step p m s) (step q m s) → step q n s ≡ step p m s
      go (behind c g) = absurd (c.unfinished e)
      go (level x) =
          let still = subst (λ (t : State). t.reason ≢ Running) x (λ r. exhausted_stops (sym e ∙ r)) in
          sym (x ∙ sym (step_stopped q n (step q m s) still) ∙ sym (step_add q m n s) ∙ stopped_at q m n s h)

-- ---- any two searches with one evaluation
-- limits that are enough for both
abbrev both : Plan → Plan → Plan
both p q = record { evaluate = p.evaluate; states = p.states + q.states; results = p.results + q.results }

module _ (p q : Plan) (alike : (w : List ℕ) → q.evaluate w ≡ p.evaluate w) where
  raised_first : Raised p (both p q)
  raised_first = record { alike = λ w. refl; states = omega arith; results = omega arith }

  raised_second : Raised q (both p q)
  raised_second = record { alike = λ w. sym (alike w); states = omega arith; results = omega arith }

  -- layout k of one is layout k of the other, where both have so many
  pub layouts_agree : (d : Layout) (m n : ℕ) (s : State) (k : ℕ) → k < length (step p m s).layouts → k < length (step q n s).layouts
      → get_or (step p m s).layouts k d ≡ get_or (step q n s).layouts k d
  layouts_agree d m n s k h j =
      starts_at d (step_longer p (both p q) raised_first m n s).layouts k h
      ∙ ap (λ (c : ℕ). get_or (step (both p q) c s).layouts k d) (add_comm m n)
      ∙ sym (starts_at d (step_longer q (both p q) raised_second n m s).layouts k j)
