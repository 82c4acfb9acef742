-- How frames make up steps. Each frame that goes on leaves fewer frames, so the frames counted are enough and more change nothing; a + b in one step
-- is a and then b; after a stop nothing changes; a step by n hands n sets to the evaluation, or the search stops, and it looks at no other evaluation; a step by
-- the state limit or more stops a begun search.
use Prim.Native.Nat.{ℕ, zero, suc, ◌+◌, ◌≤◌, ◌<◌}
use mathlib.Core.Path.{◌≡◌, refl, sym, ◌∙◌, ap, subst}
use mathlib.Core.Bool.{Bool, true, false, not, ◌&&◌}
use mathlib.Core.Logic.{◌⊎◌, inl, inr, ◌≢◌}
use mathlib.Core.List.Memᴰ
use mathlib.Core.List.{List, [], ◌∷◌, ◌++◌, append_assoc, append-nil, Memᴰ}
use native.Mathlib.Omega.{arith}
use native.Mathlib.Nat.{zero-add, suc-add, not-suc-le-zero}
use lib.ListN.{length, length-append}
use borrow.Author.Tests.{le-leb, lt-leb}
use Rattle.base_laws.specs.Lists.{any_of, same, total}
use Rattle.base_laws.proofs.Lists.{length_snoc}
use Rattle.base_laws.proofs.Sets.{is_among, not_among}
use Rattle.base_model.specs.declared.Position.{Position}
use Rattle.rule_layouts.specs.Explore.{Outcome}
use Rattle.rule_search.specs.State.{Reason, Running, Exhausted, StateLimit, ResultLimit, Extensions, Layout, State, state, set_on, frames_left}
use Rattle.rule_search.specs.Frames.{Plan, Frame, goes, ends, at_state_limit, frame, frames, advance, step, begun}
use Rattle.rule_search.specs.Formed.{Fresh}
use Rattle.rule_search.proofs.Moves.{
  held,
  Looked,
  on,
  at_results,
  none_left,
  at_states,
  Move,
  idle,
  limited,
  finished,
  repeated,
  spent,
  taken,
  nothing,
  extended,
  listed,
  overfull,
  move,
  move_is,
  running?,
  Keeps,
  step_keeps,
  exhausted_stops,
  state_limit_stops,
  result_limit_stops,
}

-- ---- the measure: a frame that goes on leaves fewer frames
abbrev Falls : ℕ → Frame → Type 0
Falls n (goes t) = frames_left t < n
Falls n (ends t) = Unit {0}

move_falls : {p : Plan} {s : State} {f : Frame} → Move p s f → Falls (frames_left s) f
unfolding frames_left total
move_falls (idle h) = tt
move_falls (limited h) = tt
move_falls (finished h) = tt
move_falls (repeated h m) = omega arith
move_falls (spent h m) = omega arith
move_falls (taken h m l) = omega arith
move_falls (nothing h e l) = tt
move_falls (extended es h e l) = tt
move_falls (listed q h e k l) = tt
move_falls (overfull q h e k) = tt

module _ (p : Plan) where
  frame_falls : (s : State) → Falls (frames_left s) (frame p s.reason s)
  frame_falls s = move_falls (move p s)

  pub goes_falls : (s t : State) → frame p s.reason s ≡ goes t → frames_left t < frames_left s
  goes_falls s t e = subst (λ (f : Frame). Falls (frames_left s) f) e (frame_falls s)

  -- more frames than are left change nothing
  pub frames_enough : (m n : ℕ) (s : State) → frames_left s < m → frames_left s < n → frames p m s ≡ frames p n s
  unfolding frames
  frames_enough zero n s h k = absurd (not-suc-le-zero h)
  frames_enough (suc m) zero s h k = absurd (not-suc-le-zero k)
  frames_enough (suc m) (suc n) s h k = go (frame p s.reason s) (frame_falls s) (λ (t : State) (i : frames_left t < m) (j : frames_left t < n). frames_enough m n t i j)
    where
      go : (f : Frame) → Falls (frames_left s) f → ((t : State) → frames_left t < m → frames_left t < n → frames p m t ≡ frames p n t)
          → ◌≡◌ {A = State} (elim f [ goes t ↦ frames p m t | ends t ↦ t ]) (elim f [ goes t ↦ frames p n t | ends t ↦ t ])
      go (goes t) l ih = ih t (omega arith) (omega arith)
      go (ends t) l ih = refl

  -- ---- a portion, frame by frame
  pub advance_goes : (s t : State) → frame p s.reason s ≡ goes t → advance p s ≡ advance p t
  unfolding advance frames
  advance_goes s t e = rw (frames, e) (frames_enough (frames_left s) (suc (frames_left t)) t (goes_falls s t e) (omega arith))

  pub advance_ends : (s t : State) → frame p s.reason s ≡ ends t → advance p s ≡ t
  unfolding advance frames
  advance_ends s t e = rw (frames, e)

  pub step_ends : (n : ℕ) (s t : State) → frame p s.reason s ≡ ends t → step p (suc n) s ≡ step p n t
  unfolding step
  step_ends n s t e = ap (λ (u : State). step p n u) (advance_ends s t e)

  -- ---- sums, stops
  pub step_zero : (s : State) → step p 0 s ≡ s
  unfolding step
  step_zero s = refl

  pub step_add : (a b : ℕ) (s : State) → step p (a + b) s ≡ step p b (step p a s)
  unfolding step
  step_add zero b s = rw (zero-add b)
  step_add (suc a) b s = rw (suc-add a b) (step_add a b (advance p s))

  pub frame_stopped : (s : State) → s.reason ≢ Running → frame p s.reason s ≡ ends s
  frame_stopped s h = move_is (idle h)

  pub frames_stopped : (n : ℕ) (s : State) → s.reason ≢ Running → frames p n s ≡ s
  unfolding frames
  frames_stopped zero s h = refl
  frames_stopped (suc n) s h = rw (frames, frame_stopped s h)

  pub step_stopped : (n : ℕ) (s : State) → s.reason ≢ Running → step p n s ≡ s
  unfolding step
  step_stopped zero s h = refl
  step_stopped (suc n) s h = step_ends n s s (frame_stopped s h) ∙ step_stopped n s h

-- ---- the sets handed to the evaluation
unfoldable pub is_running : Reason → Bool
is_running Running = true
is_running Exhausted = false
is_running StateLimit = false
is_running ResultLimit = false

module _ (p : Plan) where
  -- the next frame evaluates the pending set: it runs, below the state limit, and the set is new
  unfoldable pub evaluates : State → Bool
  evaluates s = is_running s.reason && not (at_state_limit p s) && s.pending && not (any_of (same (set_on s.lists)) s.visited)

  -- the sets handed over in the next frame, in n frames, in n portions
  unfoldable pub handed_by : State → List (List ℕ)
  handed_by s = elim (evaluates s) [ true ↦ set_on s.lists ∷ [] | false ↦ [] ]

  unfoldable pub handed_in : ℕ → State → List (List ℕ)
  handed_in zero s = []
  handed_in (suc n) s = handed_by s ++ elim (frame p s.reason s) [ goes t ↦ handed_in n t | ends t ↦ [] ]

  unfoldable pub handed : ℕ → State → List (List ℕ)
  handed zero s = []
  handed (suc n) s = handed_in (suc (frames_left s)) s ++ handed n (advance p s)

-- what a frame has handed over, and whether it went on
abbrev Handed : List (List ℕ) → List (List ℕ) → Frame → Type 0
Handed v h (goes t) = (t.visited ≡ v) × (h ≡ [])
Handed v h (ends t) = (t.visited ≡ v ++ h) × (length h ≤ 1) × (t.reason ≡ Running → length h ≡ 1)

module _ (p : Plan) where
  no_turn : (r : Reason) → r ≢ Running → is_running r ≡ false
  unfolding is_running
  no_turn Running h = absurd (h refl)
  no_turn Exhausted h = refl
  no_turn StateLimit h = refl
  no_turn ResultLimit h = refl

  fresh_handed : (ls : List Extensions) (v : List (List ℕ)) (ys : List Layout) → Fresh p ls v → handed_by p (held Running true ls v ys) ≡ set_on ls ∷ []
  unfolding handed_by evaluates is_running at_state_limit
  fresh_handed ls v ys h = rw (handed_by, evaluates, lt-leb p.states (length v) h.room, not_among (set_on ls) v h.new)

  move_hands : {s : State} {f : Frame} → Move p s f → Handed s.visited (handed_by p s) f
  unfolding handed_by evaluates is_running at_state_limit
  move_hands (idle {r = r} {v = v} h) = rw (handed_by, evaluates, no_turn r h) (sym (append-nil v), omega arith, λ e. absurd (h e))
  move_hands (limited {v = v} h) = rw (handed_by, evaluates, le-leb p.states (length v) h) (sym (append-nil v), omega arith, λ e. absurd (state_limit_stops e))
  move_hands (finished {v = v} h) = rw (handed_by, evaluates, lt-leb p.states (length v) h) (sym (append-nil v), omega arith, λ e. absurd (exhausted_stops e))
  move_hands (repeated {ls = ls} {v = v} h m) = rw (handed_by, evaluates, lt-leb p.states (length v) h, is_among (set_on ls) v m) (refl, refl)
  move_hands (spent {v = v} h m) = rw (handed_by, evaluates, lt-leb p.states (length v) h) (refl, refl)
  move_hands (taken {v = v} h m l) = rw (handed_by, evaluates, lt-leb p.states (length v) h) (refl, refl)
  move_hands (nothing {ls = ls} {v = v} {ys = ys} h e l) = rw (fresh_handed ls v ys h) (refl, omega arith, λ e. refl)
  move_hands (extended {ls = ls} {v = v} {ys = ys} es h e l) = rw (fresh_handed ls v ys h) (refl, omega arith, λ e. refl)
  move_hands (listed {ls = ls} {v = v} {ys = ys} q h e k l) = rw (fresh_handed ls v ys h) (refl, omega arith, λ e. refl)
  move_hands (overfull {ls = ls} {v = v} {ys = ys} q h e k) = rw (fresh_handed ls v ys h) (refl, omega arith, λ e. refl)

  frame_hands : (s : State) → Handed s.visited (handed_by p s) (frame p s.reason s)
  frame_hands s = move_hands (move p s)

  -- u is where n frames lead from s, having handed h over
  record Portion (n : ℕ) (s u : State) (h : List (List ℕ)) : Type 0 where
    order : u.visited ≡ s.visited ++ h
    most : length h ≤ 1
    exact : frames_left s < n → u.reason ≡ Running → length h ≡ 1

  frames_hand : (n : ℕ) (s : State) → Portion n s (frames p n s) (handed_in p n s)
  unfolding frames handed_in
  frames_hand zero s = record { order = sym (append-nil s.visited); most = omega arith; exact = λ l. absurd (not-suc-le-zero l) }
  frames_hand (suc n) s = go (frame p s.reason s) (frame_falls p s) (frame_hands s) (λ (t : State). frames_hand n t)
    where
      go : (f : Frame) → Falls (frames_left s) f → Handed s.visited (handed_by p s) f → ((t : State) → Portion n t (frames p n t) (handed_in p n t))
          → Portion (suc n) s (elim f [ goes t ↦ frames p n t | ends t ↦ t ]) (handed_by p s ++ elim f [ goes t ↦ handed_in p n t | ends t ↦ [] ])
      go (goes t) l h ih = rw h.1 (record { order = (ih t).order ∙ ap (λ (v : List (List ℕ)). v ++ handed_in p n t) h.0; most = (ih t).most; exact = λ k. (ih t).exact (omega arith) })
      go (ends t) l h ih = rw (append-nil (handed_by p s)) (record { order = h.0; most = h.1; exact = λ k. h.2 })

  advance_hands : (s : State) → Portion (suc (frames_left s)) s (advance p s) (handed_in p (suc (frames_left s)) s)
  unfolding advance
  advance_hands s = frames_hand (suc (frames_left s)) s

  -- the visited sets after a step by n are those before it and then the sets handed to the evaluation, in order
  pub step_hands : (n : ℕ) (s : State) → (step p n s).visited ≡ s.visited ++ handed p n s
  unfolding step handed
  step_hands zero s = sym (append-nil s.visited)
  step_hands (suc n) s =
      step_hands n (advance p s)
      ∙ ap (λ (v : List (List ℕ)). v ++ handed p n (advance p s)) (advance_hands s).order
      ∙ append_assoc s.visited (handed_in p (suc (frames_left s)) s) (handed p n (advance p s))

  pub handed_most : (n : ℕ) (s : State) → length (handed p n s) ≤ n
  unfolding handed
  handed_most zero s = omega arith
  handed_most (suc n) s =
      omega (arith, length-append (handed_in p (suc (frames_left s)) s) (handed p n (advance p s)), (advance_hands s).most, handed_most n (advance p s))

  pub handed_all : (n : ℕ) (s : State) → (step p n s).reason ≡ Running → length (handed p n s) ≡ n
  unfolding step handed
  handed_all zero s e = refl
  handed_all (suc n) s e = go (running? (advance p s).reason) (handed_all n (advance p s) e)
    where
      go : Dec ((advance p s).reason ≡ Running) → length (handed p n (advance p s)) ≡ n → length (handed_in p (suc (frames_left s)) s ++ handed p n (advance p s)) ≡ suc n
      go (yes q) h =
          omega (
            arith,
            length-append (handed_in p (suc (frames_left s)) s) (handed p n (advance p s)),
            (advance_hands s).exact (let z : frames_left s < suc (frames_left s) = omega arith in z) q,
          )
      go (no q) h = absurd (q (rw (step_stopped p n (advance p s) q) at e))

  -- A step by n evaluates exactly n sets, or fewer and the search stops.
  pub record Exactly (n : ℕ) (s : State) : Type 0 where
    pub order : (step p n s).visited ≡ s.visited ++ handed p n s
    pub count : (length (handed p n s) ≡ n) ⊎ ((length (handed p n s) ≤ n) × ((step p n s).reason ≢ Running))

  pub exactly_n : (n : ℕ) (s : State) → Exactly n s
  exactly_n n s = record { order = step_hands n s; count = go (running? (step p n s).reason) }
    where
      go : Dec ((step p n s).reason ≡ Running) → (length (handed p n s) ≡ n) ⊎ ((length (handed p n s) ≤ n) × ((step p n s).reason ≢ Running))
      go (yes e) = inl (handed_all n s e)
      go (no e) = inr (handed_most n s, e)

-- ---- a step looks at the evaluation of the sets handed over, and at no other
-- the plan with another evaluation
abbrev pub evaluating : Plan → (List ℕ → Outcome Position) → Plan
evaluating p f = record { evaluate = f; states = p.states; results = p.results }

module _ (p : Plan) (f : List ℕ → Outcome Position) where
  abbrev Agrees : List (List ℕ) → Type 0
  Agrees sets = (w : List ℕ) → Memᴰ w sets → f w ≡ p.evaluate w

  looked_only : {b : Bool} {ls : List Extensions} {v : List (List ℕ)} {ys : List Layout} {r : Reason} → Looked p b ls v ys r → Looked (evaluating p f) b ls v ys r
  looked_only (on h i k) = on h i k
  looked_only (at_results h) = at_results h
  looked_only (none_left h e q) = none_left h e q
  looked_only (at_states h i k) = at_states h i k

  fresh_only : (ls : List Extensions) (v : List (List ℕ)) (ys : List Layout) → Fresh p ls v → Agrees (handed_by p (held Running true ls v ys))
      → Fresh (evaluating p f) ls v × (f (set_on ls) ≡ p.evaluate (set_on ls))
  fresh_only ls v ys h a = (record { room = h.room; new = h.new }, a (set_on ls) (rw (fresh_handed p ls v ys h) (Memᴰ.head refl)))

  move_only : {s : State} {t : Frame} → Agrees (handed_by p s) → Move p s t → Move (evaluating p f) s t
  move_only a (idle h) = idle h
  move_only a (limited h) = limited h
  move_only a (finished h) = finished h
  move_only a (repeated h m) = repeated h m
  move_only a (spent h m) = spent h m
  move_only a (taken h m l) = taken h m (looked_only l)
  move_only a (nothing {ls = ls} {v = v} {ys = ys} h e l) = let n = fresh_only ls v ys h a in nothing n.0 (n.1 ∙ e) (looked_only l)
  move_only a (extended {ls = ls} {v = v} {ys = ys} es h e l) = let n = fresh_only ls v ys h a in extended es n.0 (n.1 ∙ e) (looked_only l)
  move_only a (listed {ls = ls} {v = v} {ys = ys} q h e k l) = let n = fresh_only ls v ys h a in listed q n.0 (n.1 ∙ e) k (looked_only l)
  move_only a (overfull {ls = ls} {v = v} {ys = ys} q h e k) = let n = fresh_only ls v ys h a in overfull q n.0 (n.1 ∙ e) k

  frame_only : (s : State) → Agrees (handed_by p s) → frame (evaluating p f) s.reason s ≡ frame p s.reason s
  frame_only s a = move_is (move_only a (move p s))

  frames_only : (n : ℕ) (s : State) → Agrees (handed_in p n s) → frames (evaluating p f) n s ≡ frames p n s
  unfolding frames handed_in
  frames_only zero s a = refl
  frames_only (suc n) s a =
      rw (frames, frame_only s (λ w m. a w (Memᴰ.append_left (elim (frame p s.reason s) [ goes t ↦ handed_in p n t | ends t ↦ [] ]) m)))
      (go (frame p s.reason s) (λ w m. a w (Memᴰ.append_right (handed_by p s) m)) (λ (t : State) (b : Agrees (handed_in p n t)). frames_only n t b))
    where
      go : (t : Frame) → Agrees (elim t [ goes t ↦ handed_in p n t | ends t ↦ [] ]) → ((t : State) → Agrees (handed_in p n t) → frames (evaluating p f) n t ≡ frames p n t)
          → ◌≡◌ {A = State} (elim t [ goes t ↦ frames (evaluating p f) n t | ends t ↦ t ]) (elim t [ goes t ↦ frames p n t | ends t ↦ t ])
      go (goes t) b ih = ih t b
      go (ends t) b ih = refl

  pub step_only : (n : ℕ) (s : State) → Agrees (handed p n s) → step (evaluating p f) n s ≡ step p n s
  unfolding step advance handed
  step_only zero s a = refl
  step_only (suc n) s a =
      ap (λ (t : State). step (evaluating p f) n t) (frames_only (suc (frames_left s)) s (λ w m. a w (Memᴰ.append_left (handed p n (advance p s)) m)))
      ∙ step_only n (advance p s) (λ w m. a w (Memᴰ.append_right (handed_in p (suc (frames_left s)) s) m))

-- ---- evaluations never pass the state limit
pub move_states : (p : Plan) → Keeps p (λ s. length s.visited ≤ p.states)
move_states p _ _ (idle h) k = k
move_states p _ _ (limited h) k = k
move_states p _ _ (finished h) k = k
move_states p _ _ (repeated h m) k = k
move_states p _ _ (spent h m) k = k
move_states p _ _ (taken h m l) k = k
move_states p _ _ (nothing {ls = ls} {v = v} h e l) k = omega (arith, length_snoc v (set_on ls), h.room)
move_states p _ _ (extended {ls = ls} {v = v} es h e l) k = omega (arith, length_snoc v (set_on ls), h.room)
move_states p _ _ (listed {ls = ls} {v = v} q h e i l) k = omega (arith, length_snoc v (set_on ls), h.room)
move_states p _ _ (overfull {ls = ls} {v = v} q h e i) k = omega (arith, length_snoc v (set_on ls), h.room)

pub step_states : (p : Plan) (n : ℕ) (s : State) → length s.visited ≤ p.states → length (step p n s).visited ≤ p.states
step_states p = step_keeps p (λ s. length s.visited ≤ p.states) (move_states p)

-- ---- a running search may evaluate further, so a step by the state limit or more stops it
abbrev Room : Plan → State → Type 0
Room p s = s.reason ≡ Running → length s.visited < p.states

looked_room : {p : Plan} {b : Bool} {ls : List Extensions} {v : List (List ℕ)} {ys : List Layout} {r : Reason} → Looked p b ls v ys r → r ≡ Running → length v < p.states
looked_room (on h i k) e = k
looked_room (at_results h) e = absurd (result_limit_stops e)
looked_room (none_left h i j) e = absurd (exhausted_stops e)
looked_room (at_states h i k) e = absurd (state_limit_stops e)

move_room : (p : Plan) → Keeps p (Room p)
move_room p _ _ (idle h) k = k
move_room p _ _ (limited h) k = λ e. absurd (state_limit_stops e)
move_room p _ _ (finished h) k = λ e. absurd (exhausted_stops e)
move_room p _ _ (repeated h m) k = λ e. h
move_room p _ _ (spent h m) k = λ e. h
move_room p _ _ (taken h m l) k = looked_room l
move_room p _ _ (nothing h e l) k = looked_room l
move_room p _ _ (extended es h e l) k = looked_room l
move_room p _ _ (listed q h e i l) k = looked_room l
move_room p _ _ (overfull q h e i) k = λ e. absurd (result_limit_stops e)

pub step_full : (p : Plan) → 0 < p.states → (n : ℕ) → p.states ≤ n → (step p n begun).reason ≢ Running
unfolding begun state
step_full p h n j e =
    let k = step_keeps p (Room p) (move_room p) n begun (λ r. h) e in
    let v = ap length (step_hands p n begun) in
    let c = handed_all p n begun e in
    omega arith
