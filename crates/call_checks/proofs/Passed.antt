-- The checks of begin, one part after another, and what holds where all pass.
use Prim.Native.Nat.{ℕ, ◌≤◌}
use mathlib.Core.Path.{◌≡◌, sym, ap, ◌∙◌}
use mathlib.Core.Bool.{Bool, true, ◌&&◌}
use mathlib.Core.Option.{Option, none, some}
use mathlib.Core.List.{List, ◌++◌}
use lib.ListN.{length}
use native.Mathlib.Omega.{arith}
use Rattle.std.proofs.lemmas.Grind.{common_steps}
use Rattle.base_laws.specs.Lists.{total}
use Rattle.base_laws.proofs.Members.{both}
use Rattle.rule_calls.proofs.StepLaws.{first_both}
use Rattle.base_model.specs.Answers.{Said, ask, first, reply_of, said_of}
use Rattle.std.specs.Prelude.{Result, Ok, Err}
use Rattle.base_model.specs.declared.Refusal.{Refusal}
use Rattle.base_model.specs.declared.Limits.{Limits}
use Rattle.base_model.specs.declared.Query.{Query}
use Rattle.ground_rects.specs.Rects.{small}
use Rattle.ground_rects.specs.Windows.{centres, window_fits, in_window}
use Rattle.rule_layouts.specs.Inputs.{Inputs}
use Rattle.rule_calls.specs.Areas.{Work, Store, work_fits, store_fits}
use Rattle.rule_calls.specs.Checks.{group_checks, limit_checks}
use Rattle.rule_calls.specs.Calls.{begin_checks}
use Rattle.call_checks.specs.Parts.{allow_small, allow_long, frames_of, frame_checks, areas_of, area_checks}
use Rattle.call_checks.proofs.Asked.{first_then, first_stops, query_parts}

-- ---- an answer of the code as one of the definitions'
pub done_passes : {A : Type 0} {o : Option Said} {a : Result A Refusal} {x : A} → reply_of a ≡ o → a ≡ Ok x → o ≡ none
unfolding reply_of
done_passes e d = sym e ∙ ap reply_of d

pub refused_says : {A : Type 0} {o : Option Said} {a : Result A Refusal} {r : Refusal} → reply_of a ≡ o → a ≡ Err r → o ≡ some (said_of r)
unfolding reply_of
refused_says e d = sym e ∙ ap reply_of d

-- ---- what each part finds
pub record Grouping (gs : List ℕ) : Type 0 where
  pub few : length gs ≤ 6
  pub slots : total gs ≤ 6

pub groups_found : (i : Inputs) → first (group_checks i) ≡ none → Grouping i.groups
unfolding group_checks ask first
groups_found i e = record { few = grind (arith, common_steps, e); slots = grind (arith, common_steps, e) }

pub record Limiting (l : Limits) : Type 0 where
  pub some_states : 1 ≤ l.states
  pub states : l.states ≤ 100000
  pub some_results : 1 ≤ l.results
  pub results : l.results ≤ 32

pub limits_found : (l : Limits) → first (limit_checks l) ≡ none → Limiting l
unfolding limit_checks ask first
limits_found l e = record {
  some_states = grind (arith, common_steps, e);
  states = grind (arith, common_steps, e);
  some_results = grind (arith, common_steps, e);
  results = grind (arith, common_steps, e);
}

pub record Framing (q : Query) : Type 0 where
  pub window : window_fits 8192 8192 q.window ≡ true
  pub start_in : in_window q.window q.start ≡ true
  pub end_in : in_window q.window q.end ≡ true
  pub block_small : small q.block ≡ true
  pub allowed_small : allow_small q.allow ≡ true

pub frames_found : (i : Inputs) → first (frame_checks i) ≡ none → Framing i.query
unfolding frame_checks frames_of ask first
frames_found i e = record {
  window = grind (arith, common_steps, e);
  start_in = grind (arith, common_steps, e);
  end_in = grind (arith, common_steps, e);
  block_small = grind (arith, common_steps, e);
  allowed_small = grind (arith, common_steps, e);
}

pub record Spacious (i : Inputs) (long : Bool) : Type 0 where
  pub block : centres i.query.window ≤ length i.block_base
  pub allow : allow_long (centres i.query.window) i.query.allow (length i.allow_base) ≡ true
  pub others : long ≡ true

pub areas_found : (i : Inputs) (long : Bool) → first (area_checks i long) ≡ none → Spacious i long
unfolding area_checks areas_of ask first
areas_found i long e = record { block = grind (arith, common_steps, e); allow = grind (arith, common_steps, e); others = grind (arith, common_steps, e) }

-- ---- begin's checks
module _ (i : Inputs) (l : Limits) (w : Work) (s : Store) where
  begin_parts : begin_checks i l w s ≡ (group_checks i ++ limit_checks l) ++ (frame_checks i ++ area_checks i (work_fits i.query.window w && store_fits i l s))
  unfolding begin_checks
  begin_parts = ap (λ (cs : List (Option Said)). (group_checks i ++ limit_checks l) ++ cs) (query_parts i (work_fits i.query.window w && store_fits i l s))

  pub groups_stop : {r : Said} → first (group_checks i) ≡ some r → first (begin_checks i l w s) ≡ some r
  groups_stop {r} e = rw begin_parts (first_stops (group_checks i ++ limit_checks l) _ r (first_stops (group_checks i) (limit_checks l) r e))

  module _ (g : first (group_checks i) ≡ none) where
    pub limits_stop : {r : Said} → first (limit_checks l) ≡ some r → first (begin_checks i l w s) ≡ some r
    limits_stop {r} e = rw begin_parts (first_stops (group_checks i ++ limit_checks l) _ r (first_then (group_checks i) (limit_checks l) g ∙ e))

    module _ (h : first (limit_checks l) ≡ none) where
      after : first (begin_checks i l w s) ≡ first (frame_checks i ++ area_checks i (work_fits i.query.window w && store_fits i l s))
      after = rw begin_parts (first_then (group_checks i ++ limit_checks l) _ (first_then (group_checks i) (limit_checks l) g ∙ h))

      pub frames_stop : {r : Said} → first (frame_checks i) ≡ some r → first (begin_checks i l w s) ≡ some r
      frames_stop {r} e = after ∙ first_stops (frame_checks i) _ r e

      pub areas_last : first (frame_checks i) ≡ none → first (begin_checks i l w s) ≡ first (area_checks i (work_fits i.query.window w && store_fits i l s))
      areas_last e = after ∙ first_then (frame_checks i) _ e

  -- what all of them find
  pub record Begun : Type 0 where
    pub grouping : Grouping i.groups
    pub limiting : Limiting l
    pub framing : Framing i.query
    pub baselines : Spacious i (work_fits i.query.window w && store_fits i l s)
    pub work_long : work_fits i.query.window w ≡ true
    pub store_long : store_fits i l s ≡ true

  pub begun_found : first (begin_checks i l w s) ≡ none → Begun
  begun_found e =
      let x = first_both (group_checks i ++ limit_checks l) _ (rw begin_parts at e) in
      let y = first_both (group_checks i) (limit_checks l) x.0 in
      let z = first_both (frame_checks i) (area_checks i (work_fits i.query.window w && store_fits i l s)) x.1 in
      let b = areas_found i (work_fits i.query.window w && store_fits i l s) z.1 in
      let f = both (work_fits i.query.window w) (store_fits i l s) b.others in
      record {
        grouping = groups_found i y.0;
        limiting = limits_found l y.1;
        framing = frames_found i z.0;
        baselines = b;
        work_long = f.0;
        store_long = f.1;
      }
