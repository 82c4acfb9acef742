-- The invariant of a centre's turn over the step table, and that each step keeps it: trying the steps left comes to trying the whole steps.
use mathlib.Core.Path.{◌≡◌, sym, ap, ◌∙◌}
use mathlib.Core.List.{List, [], ◌∷◌}
use Prim.Native.Nat.{ℕ, ◌+◌, ◌*◌, ◌≤◌, ◌<◌}
use native.Mathlib.Omega.{arith}
use lib.IntN.{ℤ, pos}
use lib.ListN.{length, get_or, drop, length-drop}
use Rattle.rule_routes.specs.Edges.{Step, step_by, steps_of}
use Rattle.rule_routes.proofs.StepLaws.{steps_cons, steps_few}
use Rattle.route_step.specs.Areas.{Area, SearchRoom, tried}
use Rattle.route_step.specs.Ground.{leads}
use Rattle.route_step.proofs.Steps.{leads_nil, leads_cons, leads_below}
use Rattle.route_step.proofs.Marks.{tried_none, tried_append, tried_lengths, tried_room}

module _ (cells : List ℕ) (width height : ℕ) (steps : List ℤ) (u : ℕ) (x y : ℤ) (a₀ : Area) where
  pub record Expanding (a : Area) (k : ℕ) : Type 0 where
    pub within : k ≤ length steps
    pub room : SearchRoom (width * height) a
    pub queue_size : length a.queue ≡ length a₀.queue
    pub predecessors_size : length a.predecessors ≡ length a₀.predecessors
    pub done : tried u (leads cells width height x y (steps_of (drop k steps))) a ≡ tried u (leads cells width height x y (steps_of steps)) a₀

  module _ (a : Area) (k : ℕ) (i : Expanding a k) where
    pub expanding_next : k + 1 < length steps → (b : Area)
        → b ≡ tried u (leads cells width height x y (step_by (get_or steps k (pos 0)) (get_or steps (k + 1) (pos 0)) ∷ [])) a → Expanding b (k + 2)
    expanding_next h b e =
        record {
          within = omega arith;
          room = rw e (tried_room (width * height) u now a (leads_below cells width height x y (step ∷ [])) i.room);
          queue_size = ap (λ (x : Area). length x.queue) e ∙ (tried_lengths u now a).0 ∙ i.queue_size;
          predecessors_size = ap (λ (x : Area). length x.predecessors) e ∙ (tried_lengths u now a).1 ∙ i.predecessors_size;
          done =
              ap (tried u (leads cells width height x y (steps_of (drop (k + 2) steps)))) e
              ∙ sym (tried_append u now (leads cells width height x y (steps_of (drop (k + 2) steps))) a)
              ∙ ap (λ (vs : List ℕ). tried u vs a) (sym (leads_cons cells width height x y step (steps_of (drop (k + 2) steps))))
              ∙ ap (λ (steps : List Step). tried u (leads cells width height x y steps) a) (sym (steps_cons steps k h)) ∙ i.done;
        }
      where
        step : Step
        step = step_by (get_or steps k (pos 0)) (get_or steps (k + 1) (pos 0))

        now : List ℕ
        now = leads cells width height x y (step ∷ [])

    pub expanding_last : length steps ≤ k + 1 → a ≡ tried u (leads cells width height x y (steps_of steps)) a₀
    expanding_last h =
        tried_none u _ a (ap (leads cells width height x y) (steps_few (drop k steps) (rw length-drop (omega arith))) ∙ leads_nil cells width height x y)
        ∙ i.done
