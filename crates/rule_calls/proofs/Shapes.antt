-- The arrays of the record that an accepted begin or step leaves have their lengths: layouts and lists are few enough, since the next step accepts them.
use Prim.Native.Nat.{ℕ, ◌≤◌}
use mathlib.Core.Path.{◌≡◌, refl, sym, ap, subst}
use mathlib.Core.Bool.{true}
use mathlib.Core.Option.{none}
use mathlib.Core.List.{List, reverse}
use native.Mathlib.Omega.{arith}
use lib.ListN.{length, length-map, length-reverse}
use Rattle.base_laws.specs.Lists.{padded}
use Rattle.base_laws.proofs.Stores.{length_padded}
use Rattle.base_model.specs.declared.Limits.{Limits}
use Rattle.base_model.specs.declared.Record.{Record}
use Rattle.rule_routes.specs.Edges.{Step, each_once}
use Rattle.rule_layouts.specs.Inputs.{Inputs}
use Rattle.rule_search.specs.State.{Extensions, Layout, State, state}
use Rattle.rule_search.specs.Frames.{step, begun}
use Rattle.rule_calls.specs.Areas.{Work, Store, state_of, record_of}
use Rattle.rule_calls.specs.Calls.{After, begin_over, plan_of, step_over}
use Rattle.rule_calls.proofs.Whole.{Shape}
use Rattle.rule_calls.proofs.Sound.{sound}
use Rattle.rule_calls.proofs.StepLaws.{left, step_passed, step_checks_lem, step_is, step_accepted, begin_is}

laid_shape : (places : ℕ) (s : State) → length s.layouts ≤ 32 → length s.lists ≤ 6 → Shape (record_of places s)
unfolding record_of
laid_shape places s few deep =
    let r = length-reverse s.lists in
    record {
      routes = length_padded 32 _ (omega (arith, length-map s.layouts (λ (y : Layout). length y.route)));
      lengths = length_padded 6 _ (omega (arith, length-map (reverse s.lists) (λ (e : Extensions). length e.entries)));
      nexts = length_padded 6 _ (omega (arith, length-map (reverse s.lists) (λ (e : Extensions). e.next)));
    }

module _ (steps : List Step) (once : each_once steps ≡ true) (i : Inputs) (l : Limits) where
  pub begin_shape : (work : Work) (store : Store) → (begin_over steps i l work store).answer ≡ none → Shape (begin_over steps i l work store).rec
  unfolding left record_of begun state padded
  begin_shape work store ok =
      subst (λ (x : After). Shape x.rec) (sym (begin_is steps once i l work store ok)) (record { routes = refl; lengths = refl; nexts = refl })

  pub step_shape : (r : Record) (n : ℕ) (work : Work) (store : Store) → Shape r → (step_over steps i l r n work store).answer ≡ none
      → Shape (step_over steps i l r n work store).rec
  unfolding left record_of
  step_shape r n work store shape ok =
      let o = step_over steps i l r n work store in
      let again = step_checks_lem steps once i l o.rec o.work o.store 0 (step_accepted steps once i l r work store shape n ok n 0) in
      let p = step_passed steps once i l o.rec o.work o.store again in
      let s = sound i o.rec o.store l p.fits in
      let t : State = step (plan_of steps i l) n (state_of r store) in
      let e = ap (λ (x : After). x.rec) (step_is steps once i l r work store (step_checks_lem steps once i l r work store n ok) n) in
      subst Shape (sym e)
      (laid_shape (length i.places) t (omega (arith, ap (λ (x : Record). x.layouts) e, s.shown, p.fair.few)) (omega (arith, ap (λ (x : Record). x.lists) e, s.deep)))
