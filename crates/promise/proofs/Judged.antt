-- The theorem of specs/Judging. An accepted judging has passed its checks: the ends stand in the window, so the board is regular, and the selection ascends and names
-- placements. What is then said of verdict and ground is that of rule_layouts (Judged, Ground), and another table leaves the same ground (Alike).
use Prim.Native.Nat.{ℕ}
use mathlib.Core.Path.{◌≡◌, refl, sym, ◌∙◌, subst}
use mathlib.Core.Bool.{Bool, true, false}
use mathlib.Core.Logic.{◌↔◌}
use mathlib.Core.Option.{Option, none, some}
use mathlib.Core.List.{List, [], ◌∷◌, ◌++◌}
use native.Mathlib.Omega.{arith}
use lib.IntN.{ℤ}
use lib.ListN.{length}
use Rattle.base_laws.specs.Lists.{HowMany}
use Rattle.base_model.specs.Answers.{Said, refusal, ask, first}
use Rattle.base_model.proofs.Asking.{ask_passes, first_passes}
use Rattle.base_model.specs.declared.Verdict.{Verdict}
use Rattle.base_model.specs.declared.Verdict.TheVariants.{Wall}
use Rattle.rule_routes.specs.Edges.{steps_of, table_fits}
use Rattle.rule_layouts.specs.Boards.{Board}
use Rattle.rule_layouts.specs.Inputs.{Inputs, places_of, board_of}
use Rattle.rule_layouts.specs.Walls.{IsWall}
use Rattle.rule_layouts.specs.Judge.{verdict, ground_left}
use Rattle.rule_layouts.specs.Regular.{Regular}
use Rattle.rule_layouts.proofs.Regular.{regular_board}
use Rattle.rule_layouts.proofs.Judged.{verdict_wall}
use Rattle.rule_layouts.proofs.Alike.{ground_order}
use Rattle.rule_layouts.proofs.Ground.{ground_joined, ground_closed, ground_shrinks}
use Rattle.rule_calls.specs.Areas.{Work, work_fits}
use Rattle.rule_calls.specs.Checks.{group_checks, query_checks, place_checks}
use Rattle.rule_calls.specs.Calls.{refuses, judges, selection_fits, judge_checks, judge_over, judge_call}
use Rattle.rule_calls.proofs.StepLaws.{first_both}
use Rattle.rule_calls.proofs.Selected.{Selected, selected_is}
use Rattle.rule_calls.proofs.Tables.{table_once}
use Rattle.promise.specs.Judging.{ComesTo, JudgedRight}
use Rattle.promise.proofs.Alike.{judge_ends}

-- an accepted judging: its table fits, its checks pass, and verdict and ground are those of the rules
record Found (table : List ℤ) (i : Inputs) (s : List ℕ) (work : Work) (v : Verdict) (ground : ℕ) : Type 0 where
  fits : table_fits table ≡ true
  passes : first (judge_checks i s work) ≡ none
  judged : verdict (board_of (steps_of table) i) s ≡ v
  left : ground_left (board_of (steps_of table) i) s ≡ ground

found : (table : List ℤ) (i : Inputs) (s : List ℕ) (work : Work) (v : Verdict) (ground : ℕ) → (judge_call table i s work).answer ≡ judges v ground
    → Found table i s work v ground
unfolding judge_call judge_over
found table i s work v ground e = go (table_fits table) refl (first (judge_checks i s work)) refl
  where
    other : (x : Said) → refuses x ≡ judges v ground → ⊥
    other x h = let z : ◌≡◌ {A = ℕ} 0 1 = cc in omega arith

    go : (b : Bool) → table_fits table ≡ b → (o : Option Said) → first (judge_checks i s work) ≡ o → Found table i s work v ground
    go false f o q = absurd (other (refusal 19) (rw (judge_call, f) at e))
    go true f none q =
        let h : judges (verdict (board_of (steps_of table) i) s) (ground_left (board_of (steps_of table) i) s) ≡ judges v ground = rw (judge_call, f, judge_over, q) at e in
        record { fits = f; passes = q; judged = cc; left = cc }
    go true f (some x) q = absurd (other x (rw (judge_call, f, judge_over, q) at e))

-- what check 17 says
selected : (i : Inputs) (s : List ℕ) (work : Work) → first (judge_checks i s work) ≡ none → Selected (length i.places) s
unfolding judge_checks
selected i s work passes =
    let a = first_both (group_checks i ++ query_checks i (work_fits i.query.window work) ++ place_checks i) (ask 17 (selection_fits (length i.places) s) ∷ []) passes in
    selected_is (length i.places) s (ask_passes 17 (selection_fits (length i.places) s) (first_passes _ [] a.1).0)

pub judged_right : (table : List ℤ) (i : Inputs) (s : List ℕ) (work : Work) (v : Verdict) (ground : ℕ)
    → (judge_call table i s work).answer ≡ judges v ground → JudgedRight table i s v ground
unfolding ComesTo board_of places_of
judged_right table i s work v ground e =
    let g : Board = board_of (steps_of table) i in
    let f = found table i s work v ground e in
    let once = table_once table f.fits in
    let ends = judge_ends i s work f.passes in
    let k = selected i s work f.passes in
    let regular : Regular g = regular_board (steps_of table) i once ends.0 ends.1 in
    record {
      wall = subst (λ (x : Verdict). (x ≡ Wall) ↔ IsWall g s) f.judged (verdict_wall g s regular k.rising k.named);
      reached = subst (HowMany (ComesTo table i s)) f.left (ground_joined g regular s);
      closed = λ c. sym f.left ∙ ground_closed g regular s c;
      shrinks = λ other t sub again u less d.
          let o = found other i t again u less d in
          omega (
            arith,
            ground_shrinks g regular s t sub,
            f.left,
            o.left,
            ground_order i (steps_of table) (steps_of other) once (table_once other o.fits) ends t,
          );
    }
