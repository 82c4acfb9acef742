-- The checks of judging, one after another, and what holds of a selection that passes them.
use Prim.Native.Nat.{ℕ, ◌/◌}
use mathlib.Core.Path.{◌≡◌, refl, sym, ap, ◌∙◌, subst}
use mathlib.Core.Bool.{Bool, true, false}
use mathlib.Core.Option.{Option, none, some}
use mathlib.Core.List.{List, [], ◌∷◌, ◌++◌}
use native.Mathlib.Omega.{arith}
use lib.IntN.{ℤ}
use lib.ListN.{length}
use borrow.Author.Tests.{leb-true}
use Rattle.base_model.specs.Answers.{Said, ask, first, reply_of, said_of}
use Rattle.base_model.proofs.Asking.{ask_passes, first_passes}
use Rattle.base_model.specs.declared.Rect.{Rect}
use Rattle.base_model.specs.declared.Refusal.TheVariants.{SelectionInvalid}
use Rattle.base_model.specs.Allow.{Allow}
use Rattle.std.specs.Prelude.{None, Some}
use Rattle.base_model.specs.declared.Query.{Query}
use Rattle.ground_rects.specs.Windows.{centres}
use Rattle.rule_routes.specs.Edges.{steps_of, each_once}
use Rattle.rule_layouts.specs.Inputs.{Inputs}
use Rattle.rule_layouts.specs.Flat.{placements_of, inputs_of}
use Rattle.rule_calls.specs.Areas.{Work, work_fits}
use Rattle.rule_calls.specs.Checks.{group_checks, place_checks}
use Rattle.rule_calls.specs.Calls.{selection_fits, judge_checks}
use Rattle.rule_calls.proofs.StepLaws.{first_both}
use Rattle.rule_calls.proofs.Selected.{selected_is}
use Rattle.call_checks.specs.Parts.{asked, allow_small, allow_long, frames_of, frame_checks, areas_of, area_checks}
use Rattle.call_checks.proofs.Asked.{first_then, first_stops, query_parts}
use Rattle.call_checks.proofs.Passed.{Framing, Spacious, frames_found, areas_found}
use Rattle.call_checks.proofs.Placed.{places_whole}
use Rattle.set_extend.specs.Join.{Rowed}
use Rattle.set_blocked.specs.Blocked.{AllowReady}
use Rattle.set_board.specs.Ready.{Ready}

-- ---- the checks, in parts
module _ (i : Inputs) (s : List ℕ) (w : Work) where
  abbrev long : Bool
  long = work_fits i.query.window w

  abbrev last : List (Option Said)
  last = ask 17 (selection_fits (length i.places) s) ∷ []

  judge_parts : judge_checks i s w ≡ group_checks i ++ (frame_checks i ++ (area_checks i long ++ (place_checks i ++ last)))
  unfolding judge_checks group_checks frame_checks frames_of area_checks areas_of place_checks
  judge_parts = ap (λ (cs : List (Option Said)). group_checks i ++ cs ++ place_checks i ++ last) (query_parts i long)

  pub groups_stop : {r : Said} → first (group_checks i) ≡ some r → first (judge_checks i s w) ≡ some r
  groups_stop {r} e = ap first judge_parts ∙ first_stops (group_checks i) _ r e

  module _ (g : first (group_checks i) ≡ none) where
    after_groups : first (judge_checks i s w) ≡ first (frame_checks i ++ (area_checks i long ++ (place_checks i ++ last)))
    after_groups = ap first judge_parts ∙ first_then (group_checks i) _ g

    pub frames_stop : {r : Said} → first (frame_checks i) ≡ some r → first (judge_checks i s w) ≡ some r
    frames_stop {r} e = after_groups ∙ first_stops (frame_checks i) _ r e

    module _ (f : first (frame_checks i) ≡ none) where
      after_frames : first (judge_checks i s w) ≡ first (area_checks i long ++ (place_checks i ++ last))
      after_frames = after_groups ∙ first_then (frame_checks i) _ f

      pub areas_stop : {r : Said} → first (area_checks i long) ≡ some r → first (judge_checks i s w) ≡ some r
      areas_stop {r} e = after_frames ∙ first_stops (area_checks i long) _ r e

      module _ (a : first (area_checks i long) ≡ none) where
        after_areas : first (judge_checks i s w) ≡ first (place_checks i ++ last)
        after_areas = after_frames ∙ first_then (area_checks i long) _ a

        pub places_stop : {r : Said} → first (place_checks i) ≡ some r → first (judge_checks i s w) ≡ some r
        places_stop {r} e = after_areas ∙ first_stops (place_checks i) _ r e

        pub selection_last : first (place_checks i) ≡ none → first (judge_checks i s w) ≡ first last
        selection_last p = after_areas ∙ first_then (place_checks i) _ p

  -- ---- what all of them find
  pub record Passed : Type 0 where
    pub framing : Framing i.query
    pub baselines : Spacious i long
    pub placed : first (place_checks i) ≡ none
    pub selected : selection_fits (length i.places) s ≡ true

  pub passed : first (judge_checks i s w) ≡ none → Passed
  passed e =
      let a = first_both (group_checks i) (frame_checks i ++ (area_checks i long ++ (place_checks i ++ last))) (ap first (sym judge_parts) ∙ e) in
      let b = first_both (frame_checks i) (area_checks i long ++ (place_checks i ++ last)) a.1 in
      let c = first_both (area_checks i long) (place_checks i ++ last) b.1 in
      let d = first_both (place_checks i) last c.1 in
      record {
        framing = frames_found i b.0;
        baselines = areas_found i long c.0;
        placed = d.0;
        selected = ask_passes 17 (selection_fits (length i.places) s) (first_passes _ [] d.1).0;
      }

-- ---- the selection
pub selection_told : (b : Bool) → reply_of (asked b SelectionInvalid) ≡ first (ask 17 b ∷ [])
unfolding reply_of said_of ask first
selection_told true = refl
selection_told false = refl

allow_ready : (w : Rect) (a : Allow) (base : List ℕ) → allow_small a ≡ true → allow_long (centres w) a (length base) ≡ true → AllowReady w a base
unfolding allow_small allow_long AllowReady
allow_ready w None base e f = tt
allow_ready w (Some m) base e f = (e, leb-true (centres w) (length base) f)

pub chosen : (q : Query) (groups numbers : List ℕ) (edges : List ℤ) (block_base allow_base : List ℕ) (steps : List ℤ) (s : List ℕ) (w : Work)
    → first (judge_checks (inputs_of q groups numbers edges block_base allow_base) s w) ≡ none → each_once (steps_of steps) ≡ true
    → Ready q groups numbers edges block_base allow_base steps s (length numbers / 4)
unfolding inputs_of
chosen q groups numbers edges block_base allow_base steps s w e once =
    let i = inputs_of q groups numbers edges block_base allow_base in
    let p = passed i s w e in
    let r = places_whole i numbers edges refl p.placed in
    let k = selected_is (length (placements_of numbers edges)) s p.selected in
    let n : length (placements_of numbers edges) ≡ length numbers / 4 = omega (arith, r.fours) in
    record {
      fits = p.framing.window;
      start_in = p.framing.start_in;
      end_in = p.framing.end_in;
      slim = p.framing.block_small;
      bytes = p.baselines.block;
      allowed = allow_ready q.window q.allow allow_base p.framing.allowed_small p.baselines.allow;
      rows = subst (λ (m : ℕ). Rowed m groups numbers edges s) n
          (record { fours = r.fours; eights = r.eights; few = r.few; grouped = r.grouped; named = k.named });
      once = once;
      rising = k.rising;
    }

pub work_passes : (q : Query) (groups numbers : List ℕ) (edges : List ℤ) (block_base allow_base s : List ℕ) (w : Work)
    → first (judge_checks (inputs_of q groups numbers edges block_base allow_base) s w) ≡ none → work_fits q.window w ≡ true
unfolding inputs_of
work_passes q groups numbers edges block_base allow_base s w e = (passed (inputs_of q groups numbers edges block_base allow_base) s w e).baselines.others
