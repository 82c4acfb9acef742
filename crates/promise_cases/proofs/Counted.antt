-- Calls over counts of 2, 7 and 255, computed by the checker: begun, stepped, read and judged they come to what they come to over 1, and so do those over a prepared
-- baseline on which buildings were covered. On open ground the same search lists nothing.
use Prim.Native.Nat.{ℕ}
use mathlib.Core.Path.{◌≡◌, refl}
use mathlib.Core.List.{List, [], ◌∷◌, ◌++◌}
use lib.IntN.{ℤ, pos}
use Rattle.base_laws.specs.Fill.{filled}
use Rattle.base_model.specs.declared.Rect.{Rect}
use Rattle.std.specs.Prelude.{Some}
use Rattle.base_model.specs.declared.Limits.{Limits}
use Rattle.base_model.specs.declared.Verdict.TheVariants.{Open, Shut, Wall}
use Rattle.rule_covers.specs.Covers.{one_more, may_rise, off_centre, changed, may_change, change_checks, change_call, cover_call}
use Rattle.rule_routes.specs.Edges.{original_steps}
use Rattle.rule_layouts.specs.Inputs.{Inputs}
use Rattle.rule_search.specs.State.{Exhausted}
use Rattle.rule_calls.specs.Calls.{prepare_call, After, judges, judge_call}
use Rattle.rule_calls.proofs.Computing.{computing}
use Rattle.rule_calls.proofs.Drive.{
  Row,
  ◌gives◌,
  gots,
  wants,
  at,
  box,
  plain,
  limits,
  nines,
  work_for,
  begins,
  stepped,
  layout,
  Shown,
  refused_with,
  judged,
  result,
  shown_by,
  still0,
  W,
  given,
  driving,
}

-- the window of input P (RULES 9.7); a place in the middle of its centre column, and one in a corner
unfoldable over_bases : (block allow : List ℕ) → Inputs
over_bases block allow = given W (at 0 1) (at 4 1) still0 (Some still0) (1 ∷ []) (plain (box 2 1 3 2) ∷ plain (box 0 2 1 3) ∷ []) block allow

-- begun, stepped by 1 and by 9, and every layout read; or the refusal
unfoldable searched : Inputs → Shown
searched i =
    let l : Limits = limits 9 4 in
    let b : After = stepped i l (1 ∷ 9 ∷ []) (begins i l) in
    shown_by i l (begins i l).answer b

unfoldable judged_on : Inputs → List ℕ → Shown
judged_on i s = judged (judge_call original_steps i s (work_for W)).answer

-- a count above the middle and one below it; in each row of the centre column; at the start and at the end
unfoldable around : (top bottom : ℕ) → List ℕ
around top bottom = 0 ∷ 0 ∷ top ∷ 0 ∷ 0 ∷ 0 ∷ 0 ∷ 0 ∷ 0 ∷ 0 ∷ 0 ∷ 0 ∷ bottom ∷ 0 ∷ 0 ∷ []

unfoldable column : (top middle bottom : ℕ) → List ℕ
column top middle bottom = 0 ∷ 0 ∷ top ∷ 0 ∷ 0 ∷ 0 ∷ 0 ∷ middle ∷ 0 ∷ 0 ∷ 0 ∷ 0 ∷ bottom ∷ 0 ∷ 0 ∷ []

unfoldable ends : (start end : ℕ) → List ℕ
ends start end = 0 ∷ 0 ∷ 0 ∷ 0 ∷ 0 ∷ start ∷ 0 ∷ 0 ∷ 0 ∷ end ∷ 0 ∷ 0 ∷ 0 ∷ 0 ∷ 0 ∷ []

-- the first place shuts the gap that is left to the blocked mover; the allowed one gets by below it
unfoldable wall : Shown
wall = result Exhausted 2 2 (layout (0 ∷ []) (0 ∷ 1 ∷ 1 ∷ 2 ∷ 2 ∷ 2 ∷ 3 ∷ 2 ∷ 4 ∷ 1 ∷ []) ∷ [])

-- ---- buildings covered on what prepare leaves
-- P's window on a map of one open cell, with these obstacles, for a mover of one pixel
unfoldable ground : List ℤ → List ℕ
ground obstacles =
    (prepare_call original_steps
    (record { map = record { across = 1; down = 1; cells = 1 ∷ [] }; obstacles = obstacles; window = W; start = at 0 1; end = at 4 1; mover = still0 })
    (nines 15) (work_for W)).baseline

unfoldable cover_with : Rect → List ℕ → List ℕ
cover_with r counts = (cover_call W still0 r counts).baseline

unfoldable above : Rect
above = box 2 0 3 1

unfoldable under : Rect
under = box 2 2 3 3

-- an obstacle above the middle and a building on it, and a building below
unfoldable covered : List ℕ
covered = cover_with under (cover_with above (ground (pos 2 ∷ pos 0 ∷ pos 3 ∷ pos 1 ∷ [])))

-- a name under which all of this unfolds
unfoldable covering : ℕ
unfolding filled one_more may_rise off_centre changed may_change change_checks change_call cover_call over_bases searched judged_on around column ends wall ground cover_with above under covered
covering = 0

-- ---- the rows
over_counts : List (Row Shown)
over_counts =
    (searched (over_bases (around 1 1) (around 1 0)) gives wall)
    ∷ (searched (over_bases (around 7 255) (around 2 0)) gives wall)
    ∷ (searched (over_bases covered (cover_with above (ground []))) gives wall)
    ∷ (searched (over_bases (around 0 0) (around 2 0)) gives result Exhausted 2 2 [])
    ∷ (judged_on (over_bases (around 7 255) (around 2 0)) [] gives judged (judges Open 13))
    ∷ (judged_on (over_bases (around 7 255) (around 2 0)) (0 ∷ []) gives judged (judges Wall 6))
    ∷ (judged_on (over_bases (around 7 255) (around 2 2)) (0 ∷ []) gives judged (judges Shut 6))
    ∷ (searched (over_bases (ends 255 0) (ends 0 0)) gives refused_with 7)
    ∷ (searched (over_bases (ends 0 0) (ends 0 2)) gives refused_with 8)
    ∷ (searched (over_bases (column 2 7 255) (ends 0 0)) gives refused_with 9)
    ∷ []

over_counts_lem : gots over_counts ≡ wants over_counts
unfolding computing driving covering over_counts
over_counts_lem = refl

-- the obstacle and the building on it count 2, and what lies past the centres is kept
covered_counts : covered ≡ around 2 1 ++ 9 ∷ []
unfolding computing driving covering
covered_counts = refl
