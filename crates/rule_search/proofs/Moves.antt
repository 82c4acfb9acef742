-- A frame as one of ten moves, each with what its tests have found. By cases on these, whatever each move keeps a step keeps.
use Prim.Native.Nat.{ℕ, zero, suc, ◌+◌, ◌≤◌, ◌<◌}
use mathlib.Core.Path.{◌≡◌, refl, sym, ◌∙◌, ap}
use mathlib.Core.Bool.{Bool, true, false, not, true≢false}
use mathlib.Core.List.{List, [], ◌∷◌, ◌++◌, Memᴰ}
use native.Mathlib.Omega.{arith}
use lib.Dec.{leb, ltb}
use lib.ListN.{length}
use borrow.Author.Tests.{leb-true, leb-false, ltb-true, ltb-false, le-leb, lt-leb, lt-ltb, le-ltb}
use Rattle.base_laws.specs.Lists.{any_of, same, first_of}
use Rattle.base_laws.proofs.Members.{either}
use Rattle.base_laws.proofs.Sets.{among_true, among_false, is_among, not_among}
use Rattle.base_model.specs.declared.Position.{Position}
use Rattle.rule_layouts.specs.Explore.{Outcome, Nothing, Extend, Wall}
use Rattle.rule_search.specs.State.{Reason, Running, Exhausted, StateLimit, ResultLimit, Extensions, Layout, State, state, stop, set_on, points_kept, frames_left}
use Rattle.rule_search.specs.Frames.{Plan, Frame, goes, ends, no_frame, push, at_state_limit, look, evaluated, pending_frame, list_frame, top_frame, frame, frames, advance, step}
use Rattle.rule_search.specs.Formed.{Fresh}

-- the state to which a frame leads
abbrev pub after : Frame → State
after (goes t) = t
after (ends t) = t

-- a list with its next placement taken
abbrev pub taking : Extensions → Extensions
taking l = record { entries = l.entries; next = suc l.next }

-- the looks change the reason alone
pub data Looked (p : Plan) (b : Bool) (ls : List Extensions) (v : List (List ℕ)) (ys : List Layout) : Reason → Type 0 where
  on : length ys < p.results → (b ≡ false → ls ≡ [] → ⊥) → length v < p.states → Looked p b ls v ys Running
  at_results : p.results ≤ length ys → Looked p b ls v ys ResultLimit
  none_left : length ys < p.results → b ≡ false → ls ≡ [] → Looked p b ls v ys Exhausted
  at_states : length ys < p.results → (b ≡ false → ls ≡ [] → ⊥) → p.states ≤ length v → Looked p b ls v ys StateLimit

-- a state by its parts
abbrev pub held : Reason → Bool → List Extensions → List (List ℕ) → List Layout → State
held r b ls v ys = record { reason = r; pending = b; lists = ls; visited = v; layouts = ys }

pub data Move (p : Plan) : State → Frame → Type 0 where
  idle : {r : Reason} {b : Bool} {ls : List Extensions} {v : List (List ℕ)} {ys : List Layout} → (r ≡ Running → ⊥) → Move p (held r b ls v ys) (ends (held r b ls v ys))
  limited : {b : Bool} {ls : List Extensions} {v : List (List ℕ)} {ys : List Layout} → p.states ≤ length v → Move p (held Running b ls v ys) (ends (held StateLimit b ls v ys))
  finished : {v : List (List ℕ)} {ys : List Layout} → length v < p.states → Move p (held Running false [] v ys) (ends (held Exhausted false [] v ys))
  repeated : {ls : List Extensions} {v : List (List ℕ)} {ys : List Layout} → length v < p.states → Memᴰ (set_on ls) v
      → Move p (held Running true ls v ys) (goes (held Running false ls v ys))
  spent : {l : Extensions} {ls : List Extensions} {v : List (List ℕ)} {ys : List Layout} → length v < p.states → length l.entries ≤ l.next
      → Move p (held Running false (l ∷ ls) v ys) (goes (held Running false ls v ys))
  taken : {l : Extensions} {ls : List Extensions} {v : List (List ℕ)} {ys : List Layout} {r : Reason} → length v < p.states → l.next < length l.entries
      → Looked p true (taking l ∷ ls) v ys r → Move p (held Running false (l ∷ ls) v ys) (goes (held r true (taking l ∷ ls) v ys))
  nothing : {ls : List Extensions} {v : List (List ℕ)} {ys : List Layout} {r : Reason} → Fresh p ls v → p.evaluate (set_on ls) ≡ Nothing
      → Looked p false ls (v ++ set_on ls ∷ []) ys r → Move p (held Running true ls v ys) (ends (held r false ls (v ++ set_on ls ∷ []) ys))
  extended : {ls : List Extensions} {v : List (List ℕ)} {ys : List Layout} {r : Reason} (es : List ℕ) → Fresh p ls v → p.evaluate (set_on ls) ≡ Extend es
      → Looked p false (push es ls) (v ++ set_on ls ∷ []) ys r → Move p (held Running true ls v ys) (ends (held r false (push es ls) (v ++ set_on ls ∷ []) ys))
  listed : {ls : List Extensions} {v : List (List ℕ)} {ys : List Layout} {r : Reason} (q : List Position) → Fresh p ls v → p.evaluate (set_on ls) ≡ Wall q
      → points_kept ys + length q ≤ 1000000 → Looked p false ls (v ++ set_on ls ∷ []) (ys ++ record { members = set_on ls; route = q } ∷ []) r
      → Move p (held Running true ls v ys) (ends (held r false ls (v ++ set_on ls ∷ []) (ys ++ record { members = set_on ls; route = q } ∷ [])))
  overfull : {ls : List Extensions} {v : List (List ℕ)} {ys : List Layout} (q : List Position) → Fresh p ls v → p.evaluate (set_on ls) ≡ Wall q
      → 1000000 < points_kept ys + length q → Move p (held Running true ls v ys) (ends (held ResultLimit false ls (v ++ set_on ls ∷ []) ys))

-- the three reasons to stop
pub exhausted_stops : Exhausted ≡ Running → ⊥
exhausted_stops e = let z : ◌≡◌ {A = ℕ} 0 1 = cc in omega arith

pub state_limit_stops : StateLimit ≡ Running → ⊥
state_limit_stops e = let z : ◌≡◌ {A = ℕ} 0 1 = cc in omega arith

pub result_limit_stops : ResultLimit ≡ Running → ⊥
result_limit_stops e = let z : ◌≡◌ {A = ℕ} 0 1 = cc in omega arith

pub running? : (r : Reason) → Dec (r ≡ Running)
running? Running = yes refl
running? Exhausted = no exhausted_stops
running? StateLimit = no state_limit_stops
running? ResultLimit = no result_limit_stops

no_frame_lem : (b : Bool) (ls : List Extensions) (v : List (List ℕ)) (ys : List Layout) → no_frame (held Running b ls v ys) ≡ true → (b ≡ false) × (ls ≡ [])
unfolding no_frame
no_frame_lem true [] v ys e = absurd (true≢false (sym e))
no_frame_lem false [] v ys e = (refl, refl)
no_frame_lem b (l ∷ ls) v ys e = absurd (true≢false (sym e))

is_no_frame : (b : Bool) (ls : List Extensions) (v : List (List ℕ)) (ys : List Layout) → b ≡ false → ls ≡ [] → no_frame (held Running b ls v ys) ≡ true
unfolding no_frame
is_no_frame b [] v ys e q = ap not e
is_no_frame b (l ∷ ls) v ys e q = absurd (let z : ◌≡◌ {A = ℕ} 0 1 = cc in let w : ⊥ = omega arith in w)

-- the looks, by their tests
pub looks : (p : Plan) (b : Bool) (ls : List Extensions) (v : List (List ℕ)) (ys : List Layout) → (r : Reason) × Looked p b ls v ys r × (look p (held Running b ls v ys) ≡ held r b ls v ys)
unfolding look first_of stop state at_state_limit
looks p b ls v ys =
    either (leb p.results (length ys))
    (λ t. (ResultLimit, at_results (leb-true p.results (length ys) t), rw (look, t)))
    (λ e.
    let few : length ys < p.results = leb-false p.results (length ys) e in
    either (no_frame (held Running b ls v ys))
    (λ t. let n = no_frame_lem b ls v ys t in (Exhausted, none_left few n.0 n.1, rw (look, e, t)))
    (λ f.
    let left : b ≡ false → ls ≡ [] → ⊥ = λ i j. true≢false (sym (is_no_frame b ls v ys i j) ∙ f) in
    either (leb p.states (length v))
    (λ t. (StateLimit, at_states few left (leb-true p.states (length v) t), rw (look, e, f, t)))
    (λ g. (Running, on few left (leb-false p.states (length v) g), rw (look, e, f, g)))))

pub looked_is : {p : Plan} {b : Bool} {ls : List Extensions} {v : List (List ℕ)} {ys : List Layout} {r : Reason} → Looked p b ls v ys r → look p (held Running b ls v ys) ≡ held r b ls v ys
unfolding look first_of stop state at_state_limit
looked_is {p} {b} {ls} {v} {ys} h = go h (no_frame (held Running b ls v ys)) refl
  where
    go : {r : Reason} → Looked p b ls v ys r → (t : Bool) → no_frame (held Running b ls v ys) ≡ t → look p (held Running b ls v ys) ≡ held r b ls v ys
    go (at_results h) t e = rw (look, le-leb p.results (length ys) h)
    go (none_left few i j) t e = rw (look, lt-leb p.results (length ys) few, is_no_frame b ls v ys i j)
    go (on few left h) true e = absurd (let n = no_frame_lem b ls v ys e in left n.0 n.1)
    go (on few left h) false e = rw (look, lt-leb p.results (length ys) few, e, lt-leb p.states (length v) h)
    go (at_states few left h) true e = absurd (let n = no_frame_lem b ls v ys e in left n.0 n.1)
    go (at_states few left h) false e = rw (look, lt-leb p.results (length ys) few, e, le-leb p.states (length v) h)

module _ (p : Plan) (ls : List Extensions) (v : List (List ℕ)) (ys : List Layout) where
  evaluated_moves : Fresh p ls v → (o : Outcome Position) → p.evaluate (set_on ls) ≡ o → Move p (held Running true ls v ys) (ends (evaluated p o (set_on ls) (held Running true ls v ys)))
  unfolding evaluated state
  evaluated_moves h Nothing e = let k = looks p false ls (v ++ set_on ls ∷ []) ys in rw k.2 (nothing h e k.1)
  evaluated_moves h (Extend es) e = let k = looks p false (push es ls) (v ++ set_on ls ∷ []) ys in rw k.2 (extended es h e k.1)
  evaluated_moves h (Wall q) e =
      let k = looks p false ls (v ++ set_on ls ∷ []) (ys ++ record { members = set_on ls; route = q } ∷ []) in
      either (leb (points_kept ys + length q) 1000000)
      (λ t. rw (evaluated, t, k.2) (listed q h e (leb-true (points_kept ys + length q) 1000000 t) k.1))
      (λ f. rw (evaluated, f) (overfull q h e (leb-false (points_kept ys + length q) 1000000 f)))

  pending_moves : length v < p.states → Move p (held Running true ls v ys) (pending_frame p (held Running true ls v ys))
  unfolding pending_frame state
  pending_moves room =
      either (any_of (same (set_on ls)) v)
      (λ t. rw (pending_frame, t) (repeated room (among_true (set_on ls) v t)))
      (λ e.
      rw (pending_frame, e)
      (evaluated_moves (record { room = room; new = among_false (set_on ls) v e }) (p.evaluate (set_on ls)) refl))

  list_moves : length v < p.states → (l : Extensions) → Move p (held Running false (l ∷ ls) v ys) (list_frame p l ls (held Running false (l ∷ ls) v ys))
  unfolding list_frame state
  list_moves room l =
      let k = looks p true (taking l ∷ ls) v ys in
      either (ltb l.next (length l.entries))
      (λ t. rw (list_frame, t, k.2) (taken room (ltb-true l.next (length l.entries) t) k.1))
      (λ e. rw (list_frame, e) (spent room (ltb-false l.next (length l.entries) e)))

module _ (p : Plan) where
  top_moves : (b : Bool) (ls : List Extensions) (v : List (List ℕ)) (ys : List Layout) → length v < p.states
      → Move p (held Running b ls v ys) (top_frame p b ls (held Running b ls v ys))
  unfolding top_frame stop state
  top_moves true ls v ys room = pending_moves p ls v ys room
  top_moves false [] v ys room = finished room
  top_moves false (l ∷ ls) v ys room = list_moves p ls v ys room l

  -- a frame is a move
  moves : (r : Reason) (b : Bool) (ls : List Extensions) (v : List (List ℕ)) (ys : List Layout) → Move p (held r b ls v ys) (frame p r (held r b ls v ys))
  unfolding frame at_state_limit stop state
  moves Running b ls v ys =
      either (leb p.states (length v))
      (λ t. rw (frame, t) (limited (leb-true p.states (length v) t)))
      (λ e. rw (frame, e) (top_moves b ls v ys (leb-false p.states (length v) e)))
  moves Exhausted b ls v ys = idle exhausted_stops
  moves StateLimit b ls v ys = idle state_limit_stops
  moves ResultLimit b ls v ys = idle result_limit_stops

  pub move : (s : State) → Move p s (frame p s.reason s)
  move s = moves s.reason s.pending s.lists s.visited s.layouts

-- and a move is what the frame does
module _ {p : Plan} where
  fresh_frame : (ls : List Extensions) (v : List (List ℕ)) (ys : List Layout) → Fresh p ls v
      → frame p Running (held Running true ls v ys) ≡ ends (evaluated p (p.evaluate (set_on ls)) (set_on ls) (held Running true ls v ys))
  unfolding frame at_state_limit top_frame pending_frame
  fresh_frame ls v ys h = rw (frame, lt-leb p.states (length v) h.room, pending_frame, not_among (set_on ls) v h.new)

  pub move_is : {s : State} {f : Frame} → Move p s f → frame p s.reason s ≡ f
  unfolding frame at_state_limit top_frame pending_frame list_frame evaluated stop state
  move_is (idle {r = Running} h) = absurd (h refl)
  move_is (idle {r = Exhausted} h) = refl
  move_is (idle {r = StateLimit} h) = refl
  move_is (idle {r = ResultLimit} h) = refl
  move_is (limited {v = v} h) = rw (frame, le-leb p.states (length v) h)
  move_is (finished {v = v} h) = rw (frame, lt-leb p.states (length v) h)
  move_is (repeated {ls = ls} {v = v} h m) = rw (frame, lt-leb p.states (length v) h, pending_frame, is_among (set_on ls) v m)
  move_is (spent {l = l} {v = v} h k) = rw (frame, lt-leb p.states (length v) h, list_frame, le-ltb l.next (length l.entries) k)
  move_is (taken {l = l} {v = v} h k o) = rw (frame, lt-leb p.states (length v) h, list_frame, lt-ltb l.next (length l.entries) k, looked_is o)
  move_is (nothing {ls = ls} {v = v} {ys = ys} h e o) = rw (fresh_frame ls v ys h, e, looked_is o)
  move_is (extended {ls = ls} {v = v} {ys = ys} es h e o) = rw (fresh_frame ls v ys h, e, looked_is o)
  move_is (listed {ls = ls} {v = v} {ys = ys} q h e k o) = rw (fresh_frame ls v ys h, e, evaluated, le-leb (points_kept ys + length q) 1000000 k, looked_is o)
  move_is (overfull {ls = ls} {v = v} {ys = ys} q h e k) = rw (fresh_frame ls v ys h, e, evaluated, lt-leb (points_kept ys + length q) 1000000 k)

-- whatever each move keeps, a step keeps
abbrev pub Keeps : Plan → (State → Type 0) → Type 0
Keeps p P = (s : State) (f : Frame) → Move p s f → P s → P (after f)

module _ (p : Plan) (P : State → Type 0) (keeps : Keeps p P) where
  pub frame_keeps : (s : State) → P s → P (after (frame p s.reason s))
  frame_keeps s h = keeps s (frame p s.reason s) (move p s) h

  pub frames_keep : (n : ℕ) (s : State) → P s → P (frames p n s)
  unfolding frames
  frames_keep zero s h = h
  frames_keep (suc n) s h = go (frame p s.reason s) (frame_keeps s h) (λ (t : State) (k : P t). frames_keep n t k)
    where
      go : (f : Frame) → P (after f) → ((t : State) → P t → P (frames p n t)) → P (elim f [ goes t ↦ frames p n t | ends t ↦ t ])
      go (goes t) k ih = ih t k
      go (ends t) k ih = k

  pub step_keeps : (n : ℕ) (s : State) → P s → P (step p n s)
  unfolding step advance
  step_keeps zero s h = h
  step_keeps (suc n) s h = step_keeps n (advance p s) (frames_keep (suc (frames_left s)) s h)
