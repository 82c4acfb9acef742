-- Portions: from turn to turn record and areas hold the state after so many steps. A turn seeks the next set to evaluate and evaluates it; a search that has
-- stopped stays as it is for all steps to come.
use Prim.Native.Nat.{ℕ, suc, ◌+◌, ◌-◌, ◌≤◌, ◌<◌}
use mathlib.Core.Path.{◌≡◌, sym, ◌∙◌, ap, subst}
use mathlib.Core.List.{List}
use native.Mathlib.Omega.{arith}
use lib.ListN.{length, replicate}
use Rattle.base_model.specs.declared.Record.{Record}
use Rattle.rule_layouts.specs.Boards.{Board}
use Rattle.rule_search.specs.State.{Running, Layout, State}
use Rattle.rule_search.specs.Frames.{Plan, advance, step}
use Rattle.rule_search.proofs.Steps.{step_zero, step_add, step_stopped}
use Rattle.rule_calls.specs.Areas.{Store, number_of, store_in}
use Rattle.search_turn.specs.Portion.{Fitting, Part, SomePart, Ripe, Sought}
use Rattle.search_turn.proofs.Laying.{summed, running_number}
use Rattle.search_turn.proofs.Turns.{advance_stopped}
use Rattle.search_steps.specs.Terms.{Terms, count_in, board_in, plan_in, Given, Holds, HoldsSome, HoldsRipe}
use Rattle.search_steps.proofs.Whole.{LayoutsAre, PointsAre, fitting, holds_part, part_holds, layouts_are_lem, points_are_lem, some_part}

pub record Stepping (t : Terms) (i : ℕ) (r₁ : Record) (a₁ : Store) (r : Record) (a : Store) : Type 0 where
  pub held : HoldsSome t r a
  pub on : (s : State) (a₀ : Store) → Holds t a₀ s r₁ a₁ → Holds t a₀ (step (plan_in t) i s) r a

pub stepping_begin : (t : Terms) (r : Record) (a : Store) → HoldsSome t r a → Stepping t 0 r a r a
stepping_begin t r a x = record { held = x; on = λ s a₀ h. subst (λ (u : State). Holds t a₀ u r a) (sym (step_zero (plan_in t) s)) h }

pub both_blank : (c : ℕ) (x y : List ℕ) → x ≡ replicate c 0 → y ≡ replicate c 0 → length x ≡ length y
both_blank c x y e f = ap (λ (q : List ℕ). length q) (e ∙ sym f)

module _ (t : Terms) (n : ℕ) (en : count_in t ≡ n) where
  fits : Given t → Fitting (board_in t) (plan_in t) t.limits n
  fits g = subst (λ (k : ℕ). Fitting (board_in t) (plan_in t) t.limits k) en (fitting t g)

  pub seek_asks : (r : Record) (a : Store) → HoldsSome t r a → SomePart t.limits n r a.lists a.visited
  seek_asks r a x = subst (λ (k : ℕ). SomePart t.limits k r a.lists a.visited) en (some_part t r a x)

  module _ (r : Record) (a : Store) (q : Record) (la : List ℕ)
      (f : (g : Board) (p : Plan) (l₀ v₀ : List ℕ) (s : State) → Fitting g p t.limits n → Part g p l₀ v₀ s r a.lists a.visited → Sought g p l₀ v₀ s q la a.visited) where
    sought : (given : Given t) (a₀ : Store) (s : State) → Holds t a₀ s r a → Sought (board_in t) (plan_in t) a₀.lists a₀.visited s q la a.visited
    sought given a₀ s h = f (board_in t) (plan_in t) a₀.lists a₀.visited s (fits given) (holds_part t a₀ s r a h)

    sought_holds : (given : Given t) (a₀ : Store) (s : State) (h : Holds t a₀ s r a) → Holds t a₀ (sought given a₀ s h).t q (store_in la a.visited a.layouts a.points)
    sought_holds given a₀ s h =
        let x = sought given a₀ s h in
        part_holds t a₀ x.t q la a.visited a.layouts a.points x.part
        (subst (λ (ys : List Layout). LayoutsAre t ys a₀.layouts a.layouts) (sym x.kept) (layouts_are_lem t a₀ s r a h))
        (subst (λ (ys : List Layout). PointsAre t ys a₀.points a.points) (sym x.kept) (points_are_lem t a₀ s r a h))

    pub visit_asks : HoldsSome t r a → q.reason ≡ 1 → HoldsRipe t q (store_in la a.visited a.layouts a.points)
    visit_asks x e = record {
      held = record { given = x.given; s = (sought x.given x.a₀ x.s x.holds).t; a₀ = x.a₀; holds = sought_holds x.given x.a₀ x.s x.holds };
      ripe = (sought x.given x.a₀ x.s x.holds).due e;
    }

    module _ (i : ℕ) (r₁ : Record) (a₁ : Store) (st : Stepping t i r₁ a₁ r a) where
      pub stepping_stopped : (m : ℕ) → i < m → (q.reason ≡ 1 → ⊥) → (s : State) (a₀ : Store) → Holds t a₀ s r₁ a₁
          → Holds t a₀ (step (plan_in t) m s) q (store_in la a.visited a.layouts a.points)
      unfolding step
      stepping_stopped m k e s a₀ h =
          let w = step (plan_in t) i s in
          let x = sought st.held.given a₀ w (st.on s a₀ h) in
          let stops : x.t.reason ≡ Running → ⊥ = λ z. e ((summed (board_in t).places.count x.t q x.part.rec).reason_is ∙ ap number_of z ∙ running_number) in
          let me : m ≡ i + suc (m - suc i) = omega arith in
          let so : step (plan_in t) m s ≡ x.t =
          ap (λ (j : ℕ). step (plan_in t) j s) me
          ∙ step_add (plan_in t) i (suc (m - suc i)) s
          ∙ ap (λ (u : State). step (plan_in t) (m - suc i) u) (x.same ∙ advance_stopped (plan_in t) x.t stops)
          ∙ step_stopped (plan_in t) (m - suc i) x.t stops in
          subst (λ (u : State). Holds t a₀ u q (store_in la a.visited a.layouts a.points)) (sym so) (sought_holds st.held.given a₀ w (st.on s a₀ h))

      pub stepping_on : q.reason ≡ 1 → (u : Record) (b : Store)
          → ((s : State) (a₀ : Store) → Holds t a₀ s q (store_in la a.visited a.layouts a.points) → Ripe (plan_in t) s → Holds t a₀ (advance (plan_in t) s) u b)
          → Stepping t (i + 1) r₁ a₁ u b
      unfolding step
      stepping_on e u b v =
          let x = st.held in
          record {
            held = record {
              given = x.given;
              s = advance (plan_in t) (sought x.given x.a₀ x.s x.holds).t;
              a₀ = x.a₀;
              holds = v (sought x.given x.a₀ x.s x.holds).t x.a₀ (sought_holds x.given x.a₀ x.s x.holds) ((sought x.given x.a₀ x.s x.holds).due e);
            };
            on = λ s a₀ h.
                let w = step (plan_in t) i s in
                let y = sought x.given a₀ w (st.on s a₀ h) in
                subst (λ (z : State). Holds t a₀ z u b) (sym (step_add (plan_in t) i 1 s ∙ y.same)) (v y.t a₀ (sought_holds x.given a₀ w (st.on s a₀ h)) (y.due e));
          }

pub stepping_end : (t : Terms) (i m : ℕ) (r₁ : Record) (a₁ : Store) (r : Record) (a : Store) → Stepping t i r₁ a₁ r a → i ≤ m → m ≤ i
    → (s : State) (a₀ : Store) → Holds t a₀ s r₁ a₁ → Holds t a₀ (step (plan_in t) m s) r a
stepping_end t i m r₁ a₁ r a st h k s a₀ w = subst (λ (j : ℕ). Holds t a₀ (step (plan_in t) j s) r a) (let e : i ≡ m = omega arith in e) (st.on s a₀ w)

pub places_are : (t : Terms) (r : Record) (a : Store) → HoldsSome t r a → (n : ℕ) → n ≡ r.placements → count_in t ≡ n
places_are t r a x n e = sym (e ∙ (summed (count_in t) x.s r x.holds.rec).placements_are)
