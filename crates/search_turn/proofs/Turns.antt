-- A frame of the code that evaluates nothing is a frame of the definition: one law for each exit of `turn`. Each names the move that the frame is, and
-- shows record and lists to be those of the state to which it leads; the form is kept since every move keeps it.
use Prim.Native.Nat.{ℕ, suc, ◌+◌, ◌-◌, ◌*◌, ◌≤◌, ◌<◌}
use mathlib.Core.Path.{◌≡◌, refl, sym, ◌∙◌, ap, subst}
use mathlib.Core.Bool.{Bool, true, false, true≢false, false≢true}
use mathlib.Core.List.{List, [], ◌∷◌}
use native.Mathlib.Omega.{arith}
use native.Mathlib.Nat.{suc-mul, mul-le-mul_right}
use lib.ListN.{length, get_or}
use Rattle.base_laws.specs.Lists.{any_of, same}
use Rattle.base_laws.specs.Fill.{zeros, over}
use Rattle.base_laws.proofs.Sets.{among_true, among_false}
use Rattle.base_model.specs.declared.Limits.{Limits}
use Rattle.base_model.specs.declared.Record.{Record}
use Rattle.rule_layouts.specs.Boards.{Board}
use Rattle.rule_search.specs.State.{Running, Exhausted, StateLimit, Extensions, Layout, State, state, stop, set_on}
use Rattle.rule_search.specs.Frames.{Plan, Frame, goes, ends, frame, look, advance}
use Rattle.rule_search.specs.Formed.{Good}
use Rattle.rule_search.proofs.Moves.{after, held, taking, looks, limited, finished, repeated, spent, taken, move_is, frame_keeps, exhausted_stops, state_limit_stops}
use Rattle.rule_search.proofs.Steps.{goes_falls, advance_goes, advance_ends, frame_stopped}
use Rattle.rule_search.proofs.Formed.{move_good}
use Rattle.rule_calls.specs.Areas.{number_of, laid, record_of}
use Rattle.search_turn.specs.Portion.{stack_of, rows_flat, Sound, Fitting, Part, Ripe, Turned, stop_rec, seen_rec, taken_rec, popped_rec}
use Rattle.search_turn.proofs.Laying.{
  summed,
  is_running_lem,
  not_running,
  no_lists,
  as_running,
  as_pending,
  as_list,
  record_stop,
  next_is,
  long_is,
  top_is,
  record_taken,
  record_popped,
  lists_popped,
  record_seen,
  taking_stack,
  length_stack,
}
use Rattle.search_turn.proofs.Sights.{length_laid}

module _ (g : Board) (p : Plan) (sound : Sound g p) where
  pub good_goes : (s t : State) → frame p s.reason s ≡ goes t → Good g p s → Good g p t
  good_goes s t e h =
      subst (λ (f : Frame). Good g p (after f)) e (frame_keeps p (Good g p) (move_good g sound.at p sound.on sound.laid_out sound.six) s h)

  pub good_ends : (s t : State) → frame p s.reason s ≡ ends t → Good g p s → Good g p t
  good_ends s t e h =
      subst (λ (f : Frame). Good g p (after f)) e (frame_keeps p (Good g p) (move_good g sound.at p sound.on sound.laid_out sound.six) s h)

pub advance_stopped : (p : Plan) (t : State) → (t.reason ≡ Running → ⊥) → advance p t ≡ t
advance_stopped p t h = advance_ends p t t (frame_stopped p t h)

module _ (g : Board) (p : Plan) (lim : Limits) (n : ℕ) (fit : Fitting g p lim n) (l₀ v₀ : List ℕ) where
  abbrev c : ℕ
  c = g.places.count

  turned_still : (s : State) (r : Record) (a v : List ℕ) → Part g p l₀ v₀ s r a v → (r.reason ≡ 1 → Ripe p s) → Turned g p l₀ v₀ s r false a v
  turned_still s r a v h f = record { t = s; part = h; same = refl; kept = refl; less = λ e. absurd (false≢true e); due = λ e q. f q }

  turned_ends : (s t : State) (r : Record) (a v : List ℕ) → frame p s.reason s ≡ ends t → (t.reason ≡ Running → ⊥) → t.layouts ≡ s.layouts → r ≡ record_of c t
      → a ≡ laid (6 * c) (stack_of c t.lists) l₀ → v ≡ laid (7 * p.states) (rows_flat t.visited) v₀ → Good g p s → Turned g p l₀ v₀ s r false a v
  turned_ends s t r a v e stops k re ae ve h = record {
    t = t;
    part = record { rec = re; lists_are = ae; visited_are = ve; good = good_ends g p fit.sound s t e h };
    same = advance_ends p s t e ∙ sym (advance_stopped p t stops);
    kept = k;
    less = λ e. absurd (false≢true e);
    due = λ e q. absurd (not_running t.reason stops (sym (summed c t r re).reason_is ∙ q));
  }

  turned_goes : (s t : State) (r : Record) (a v : List ℕ) → frame p s.reason s ≡ goes t → t.layouts ≡ s.layouts → r ≡ record_of c t
      → a ≡ laid (6 * c) (stack_of c t.lists) l₀ → v ≡ laid (7 * p.states) (rows_flat t.visited) v₀ → Good g p s → Turned g p l₀ v₀ s r true a v
  turned_goes s t r a v e k re ae ve h = record {
    t = t;
    part = record { rec = re; lists_are = ae; visited_are = ve; good = good_goes g p fit.sound s t e h };
    same = advance_goes p s t e;
    kept = k;
    less = λ q. goes_falls p s t e;
    due = λ q. absurd (true≢false q);
  }

  module _ (r : Record) (a v : List ℕ) where
    abbrev Before : State → Type 0
    Before s = Part g p l₀ v₀ s r a v

    running : (s : State) → Before s → r.reason ≡ 1 → s.reason ≡ Running
    running s h e = is_running_lem s.reason (sym (summed c s r h.rec).reason_is ∙ e)

    pub x_stopped : (s : State) → Before s → (r.reason ≡ 1 → ⊥) → Turned g p l₀ v₀ s r false a v
    x_stopped s h f = turned_still s r a v h (λ e. absurd (f e))

    pub x_limit : (s : State) → Before s → r.reason ≡ 1 → lim.states ≤ r.evaluations → Turned g p l₀ v₀ s (stop_rec r 3) false a v
    unfolding number_of stop state
    x_limit s h e k =
        as_running (λ s. Before s → Turned g p l₀ v₀ s (stop_rec r 3) false a v)
        (λ b ls w ys h.
        turned_ends (held Running b ls w ys) (held StateLimit b ls w ys) (stop_rec r 3) a v
        (move_is (limited (let z = summed c (held Running b ls w ys) r h.rec in omega (arith, fit.states_are))))
        state_limit_stops refl (record_stop c (held Running b ls w ys) r StateLimit 3 refl h.rec) h.lists_are h.visited_are h.good)
        s (running s h e) h

    module _ (e : r.reason ≡ 1) (room : r.evaluations < lim.states) where
      in_room : (s : State) → Before s → length s.visited < p.states
      in_room s h = omega (arith, (summed c s r h.rec).evaluations_are, fit.states_are)

      pending : (s : State) → Before s → (b : Bool) → r.pending ≡ b → s.pending ≡ b
      pending s h b q = sym (summed c s r h.rec).pending_is ∙ q

      pub x_over : (s : State) → Before s → r.pending ≡ false → r.lists ≡ 0 → Turned g p l₀ v₀ s (stop_rec r 2) false a v
      unfolding number_of stop state
      x_over s h b z =
          as_pending (λ s. Before s → s.lists ≡ [] → Turned g p l₀ v₀ s (stop_rec r 2) false a v) false
          (λ ls w ys h q.
          subst (λ (ls : List Extensions). Before (held Running false ls w ys) → Turned g p l₀ v₀ (held Running false ls w ys) (stop_rec r 2) false a v) (sym q)
          (λ h.
          turned_ends (held Running false [] w ys) (held Exhausted false [] w ys) (stop_rec r 2) a v
          (move_is (finished (in_room (held Running false [] w ys) h)))
          exhausted_stops refl (record_stop c (held Running false [] w ys) r Exhausted 2 refl h.rec) h.lists_are h.visited_are h.good) h)
          s (running s h e) (pending s h false b) h
          (no_lists s.lists (sym (summed c s r h.rec).lists_are ∙ z))

      pub x_seen : (s : State) → Before s → r.pending ≡ true → any_of (same (set_on s.lists)) s.visited ≡ true → Turned g p l₀ v₀ s (seen_rec r) true a v
      x_seen s h b =
          as_pending (λ s. Before s → any_of (same (set_on s.lists)) s.visited ≡ true → Turned g p l₀ v₀ s (seen_rec r) true a v) true
          (λ ls w ys h m.
          turned_goes (held Running true ls w ys) (held Running false ls w ys) (seen_rec r) a v
          (move_is (repeated (in_room (held Running true ls w ys) h) (among_true (set_on ls) w m)))
          refl (record_seen c ls w ys r h.rec) h.lists_are h.visited_are h.good)
          s (running s h e) (pending s h true b) h

      pub x_new : (s : State) → Before s → r.pending ≡ true → any_of (same (set_on s.lists)) s.visited ≡ false → Turned g p l₀ v₀ s r false a v
      x_new s h b m =
          turned_still s r a v h
          (λ q. record { running = running s h e; pending = pending s h true b; fresh = record { room = in_room s h; new = among_false (set_on s.lists) s.visited m } })

      module _ (b : r.pending ≡ false) (some : r.lists ≡ 0 → ⊥) where
        top_by : (P : State → Type 0)
            → ((l : Extensions) (ls : List Extensions) (w : List (List ℕ)) (ys : List Layout) → Before (held Running false (l ∷ ls) w ys)
            → P (held Running false (l ∷ ls) w ys))
            → (s : State) → Before s → P s
        top_by P f s h =
            as_list (λ s. Before s → P s) f s (running s h e) (pending s h false b)
            (λ z. some ((summed c s r h.rec).lists_are ∙ z)) h

        pub x_take : (s : State) → Before s → get_or r.nexts (r.lists - 1) 0 < get_or r.lengths (r.lists - 1) 0 → (q u : Record) → q ≡ taken_rec r
            → ((t : State) → t.reason ≡ Running → q ≡ record_of c t → u ≡ record_of c (look p t)) → Turned g p l₀ v₀ s u true a v
        x_take s h lt q u qe ue =
            top_by (λ s. Turned g p l₀ v₀ s u true a v)
            (λ l ls w ys h.
            let k = looks p true (taking l ∷ ls) w ys in
            let N = next_is c l ls w ys r h.rec in
            let L = long_is c l ls w ys r h.rec in
            turned_goes (held Running false (l ∷ ls) w ys) (held k.0 true (taking l ∷ ls) w ys) u a v
            (move_is (taken (in_room (held Running false (l ∷ ls) w ys) h) (omega arith) k.1))
            refl
            (ue (held Running true (taking l ∷ ls) w ys) refl (qe ∙ record_taken c l ls w ys r h.rec h.good.formed.deep) ∙ ap (record_of c) k.2)
            (h.lists_are ∙ ap (λ (q : List ℕ). laid (6 * c) q l₀) (taking_stack c l ls)) h.visited_are h.good)
            s h

        pub x_pop : (s : State) → Before s → get_or r.lengths (r.lists - 1) 0 ≤ get_or r.nexts (r.lists - 1) 0 → (q : Record) (d : List ℕ)
            → (q ≡ popped_rec r) × (d ≡ over a ((r.lists - 1) * n) (zeros (get_or r.lengths (r.lists - 1) 0))) → Turned g p l₀ v₀ s q true d v
        x_pop s h le q d qe =
            top_by (λ s. Turned g p l₀ v₀ s q true d v)
            (λ l ls w ys h.
            let N = next_is c l ls w ys r h.rec in
            let L = long_is c l ls w ys r h.rec in
            let T = top_is c l ls w ys r h.rec in
            turned_goes (held Running false (l ∷ ls) w ys) (held Running false ls w ys) q d v
            (move_is (spent (in_room (held Running false (l ∷ ls) w ys) h) (omega arith)))
            refl
            (qe.0 ∙ record_popped c l ls w ys r h.rec h.good.formed.deep)
            (qe.1 ∙ ap (λ (j : ℕ). over a ((r.lists - 1) * j) (zeros (get_or r.lengths (r.lists - 1) 0))) (sym fit.count_is)
            ∙ lists_popped g l ls a l₀ (r.lists - 1) (get_or r.lengths (r.lists - 1) 0) h.good.formed.lists h.good.formed.deep T L h.lists_are)
            h.visited_are h.good)
            s h

        -- what the calls ask
        pub top_fits : (s : State) → Before s
            → (0 < r.lists) × (r.lists ≤ 6) × (get_or r.lengths (r.lists - 1) 0 ≤ 6144) × (n ≤ 6144) × ((r.lists - 1) * n + get_or r.lengths (r.lists - 1) 0 ≤ length a)
        top_fits =
            subst (λ (j : ℕ). (s : State) → Before s → (0 < r.lists) × (r.lists ≤ 6) × (get_or r.lengths (r.lists - 1) 0 ≤ 6144)
            × (j ≤ 6144) × ((r.lists - 1) * j + get_or r.lengths (r.lists - 1) 0 ≤ length a)) fit.count_is
            (top_by (λ s. (0 < r.lists) × (r.lists ≤ 6) × (get_or r.lengths (r.lists - 1) 0 ≤ 6144) × (c ≤ 6144) × ((r.lists - 1) * c + get_or r.lengths (r.lists - 1) 0 ≤ length a))
            (λ l ls w ys h.
            let L = long_is c l ls w ys r h.rec in
            let T = top_is c l ls w ys r h.rec in
            let S = (summed c (held Running false (l ∷ ls) w ys) r h.rec).lists_are in
            let D = h.good.formed.deep in
            let few = fit.sound.few in
            let short = h.good.formed.lists.0.short in
            let m : suc (length ls) * c ≤ 6 * c = mul-le-mul_right c D in
            let q = suc-mul (length ls) c in
            let z = length_stack g false (l ∷ ls) h.good.formed.lists in
            let A : 6 * c ≤ length a = omega (arith, ap (λ (q : List ℕ). length q) h.lists_are, length_laid (6 * c) (stack_of c (l ∷ ls)) l₀ (omega arith)) in
            let K : (r.lists - 1) * c ≡ length ls * c = ap (λ (j : ℕ). j * c) T in
            (omega arith, omega arith, omega arith, few, omega arith)))
