-- The looks after a frame, on the record.
use Prim.Native.Nat.{ℕ, ◌≤◌, ◌<◌}
use mathlib.Core.Path.{◌≡◌, refl, sym, ◌∙◌, ap}
use mathlib.Core.Bool.{false}
use mathlib.Core.List.{List, []}
use native.Mathlib.Omega.{arith}
use lib.ListN.{length}
use Rattle.base_model.specs.declared.Record.{Record}
use Rattle.base_model.specs.declared.Limits.{Limits}
use Rattle.rule_search.specs.State.{Reason, Running, Exhausted, StateLimit, ResultLimit, Extensions, State, state, stop}
use Rattle.rule_search.specs.Frames.{Plan, look}
use Rattle.rule_search.proofs.Moves.{held, Looked, on, at_results, none_left, at_states, looked_is}
use Rattle.rule_calls.specs.Areas.{number_of, record_of}
use Rattle.search_turn.specs.Portion.{stop_rec}
use Rattle.search_turn.proofs.Laying.{Summed, summed, no_lists, record_stop}

looked_stop : (p : Plan) (s : State) (c : Reason) → s.reason ≡ Running → Looked p s.pending s.lists s.visited s.layouts c → look p s ≡ stop c s
unfolding stop state
looked_stop p s c e h =
    ap (λ (r : Reason). look p (held r s.pending s.lists s.visited s.layouts)) e ∙ looked_is h

module _ (l : Limits) (r : Record) (p : Plan) (n : ℕ) (s : State) (es : p.states ≡ l.states) (er : p.results ≡ l.results) (run : s.reason ≡ Running) (e : r ≡ record_of n s) where
  sums : Summed n s r
  sums = summed n s r e

  stops : (c : Reason) (k : ℕ) → k ≡ number_of c → Looked p s.pending s.lists s.visited s.layouts c → stop_rec r k ≡ record_of n (look p s)
  stops c k q h = record_stop n s r c k q e ∙ ap (record_of n) (sym (looked_stop p s c run h))

  pub look_results : l.results ≤ r.layouts → stop_rec r 4 ≡ record_of n (look p s)
  unfolding number_of
  look_results h = stops ResultLimit 4 refl (at_results (omega (arith, sums.layouts_are)))

  module _ (few : r.layouts < l.results) where
    low : length s.layouts < p.results
    low = omega (arith, sums.layouts_are)

    pub look_none : r.pending ≡ false → r.lists ≡ 0 → stop_rec r 2 ≡ record_of n (look p s)
    unfolding number_of
    look_none b k = stops Exhausted 2 refl (none_left low (sym sums.pending_is ∙ b) (no_lists s.lists (sym sums.lists_are ∙ k)))

    module _ (left : r.pending ≡ false → r.lists ≡ 0 → ⊥) where
      some : s.pending ≡ false → s.lists ≡ [] → ⊥
      some b k = left (sums.pending_is ∙ b) (sums.lists_are ∙ ap (λ (ls : List Extensions). length ls) k)

      pub look_states : l.states ≤ r.evaluations → stop_rec r 3 ≡ record_of n (look p s)
      unfolding number_of
      look_states h = stops StateLimit 3 refl (at_states low some (omega (arith, sums.evaluations_are)))

      pub look_on : r.evaluations < l.states → r ≡ record_of n (look p s)
      look_on h =
          ap (λ (k : ℕ). stop_rec r k) (sums.reason_is ∙ ap number_of run)
          ∙ stops Running (number_of Running) refl (on low some (omega (arith, sums.evaluations_are)))
