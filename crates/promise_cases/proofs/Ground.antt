-- The ground left, computed by the checker through judging on small windows: with each verdict, from either side of a wall, past a diagonal gap and over counts; and what
-- the theorems of promise/specs/Judging and promise_c/specs/JudgedOn say of two of these.
use Prim.Native.Nat.{ℕ, suc, ◌≤◌}
use mathlib.Core.Path.{◌≡◌, refl}
use mathlib.Core.List.Memᴰ
use mathlib.Core.List.{List, [], ◌∷◌}
use lib.IntN.{ℤ}
use lib.ListN.{replicate}
use Rattle.base_laws.specs.Lists.{HowMany}
use Rattle.base_model.specs.declared.Placement.{Placement}
use Rattle.base_model.specs.Allow.{Allow}
use Rattle.std.specs.Prelude.{None, Some}
use Rattle.base_model.specs.declared.Verdict.TheVariants.{Slots, Overlap, EndCovered, Open, Spare, Shut, Wall}
use Rattle.rule_routes.specs.Edges.{steps_of, original_steps}
use Rattle.rule_layouts.specs.Inputs.{Inputs, board_of}
use Rattle.rule_layouts.specs.Walls.{IsWall}
use Rattle.rule_calls.specs.Areas.{Work}
use Rattle.rule_calls.specs.Calls.{Judgement, judges, judge_call}
use Rattle.rule_calls.proofs.Computing.{computing}
use Rattle.rule_calls.proofs.Drive.{Row, ◌gives◌, gots, wants, at, box, bounds, plain, work_for, still0, given, driving}
use Rattle.promise.specs.Judging.{ComesTo}
use Rattle.promise.proofs.Judged.{judged_right}
use Rattle.walls_numbers.specs.Left.{judge_on}
use Rattle.walls_numbers.proofs.Rows.{numbering}
use Rattle.promise_c.proofs.JudgedKept.{judged_right_on}

-- ---- a row of four centres
unfoldable on : ℕ → Placement
on x = plain (box x 0 (suc x) 1)

-- placement k stands on centre k, the fourth on the second and third together; one group of two slots
unfoldable lane : (start end : ℕ) → Allow → (counts : List ℕ) → Inputs
lane a b allow counts =
    given (box 0 0 4 1) (at a 0) (at b 0) still0 allow (2 ∷ []) (on 0 ∷ on 1 ∷ on 2 ∷ on 3 ∷ plain (box 1 0 3 1) ∷ []) counts (replicate 4 0)

-- over open ground, without an allowed mover
unfoldable clear : (start end : ℕ) → Inputs
clear a b = lane a b None (replicate 4 0)

unfoldable judged_on : Inputs → List ℕ → Judgement
judged_on i s = (judge_call original_steps i s (work_for i.query.window)).answer

along : List (Row Judgement)
along =
    (judged_on (clear 0 3) [] gives judges Open 4)
    -- what lies past the end counts too
    ∷ (judged_on (clear 0 1) [] gives judges Open 4)
    ∷ (judged_on (clear 1 1) [] gives judges Open 4)
    -- cut after the first centre, seen from the one side and from the other
    ∷ (judged_on (clear 0 3) (1 ∷ []) gives judges Wall 1)
    ∷ (judged_on (clear 3 0) (1 ∷ []) gives judges Wall 2)
    -- the start covered; the end covered, with all on the start's side and with a part of it
    ∷ (judged_on (clear 0 3) (0 ∷ []) gives judges EndCovered 0)
    ∷ (judged_on (clear 0 3) (3 ∷ []) gives judges EndCovered 3)
    ∷ (judged_on (clear 0 3) (1 ∷ 3 ∷ []) gives judges EndCovered 1)
    -- the other verdicts have their ground too
    ∷ (judged_on (clear 0 3) (1 ∷ 2 ∷ 3 ∷ []) gives judges Slots 1)
    ∷ (judged_on (clear 0 3) (0 ∷ 1 ∷ 2 ∷ []) gives judges Slots 0)
    ∷ (judged_on (clear 3 0) (1 ∷ 4 ∷ []) gives judges Overlap 1)
    ∷ (judged_on (clear 0 3) (1 ∷ 2 ∷ []) gives judges Spare 1)
    ∷ (judged_on (lane 3 0 (Some still0) (replicate 4 0)) (1 ∷ []) gives judges Shut 2)
    -- counts close: the start, ground beyond the end, ground between the ends
    ∷ (judged_on (lane 0 3 None (2 ∷ 0 ∷ 0 ∷ 0 ∷ [])) [] gives judges EndCovered 0)
    ∷ (judged_on (lane 0 1 None (0 ∷ 0 ∷ 255 ∷ 0 ∷ [])) [] gives judges Open 2)
    ∷ (judged_on (lane 0 3 None (0 ∷ 2 ∷ 0 ∷ 0 ∷ [])) [] gives judges Wall 1)
    ∷ (judged_on (lane 3 0 None (0 ∷ 255 ∷ 0 ∷ 0 ∷ [])) [] gives judges Wall 2)
    ∷ []

lane_ground : gots along ≡ wants along
unfolding computing driving on lane clear judged_on along
lane_ground = refl

-- ---- two by two centres, from one corner to the other, in a window away from the map's corner; a placement on each of the other two
unfoldable gap : (counts : List ℕ) → Inputs
gap counts = given (box 5 7 7 9) (at 5 7) (at 6 8) still0 None (2 ∷ []) (plain (box 6 7 7 8) ∷ plain (box 5 8 6 9) ∷ []) counts []

-- round one of them a way is left; between both no step leads, nor between two that counts close, nor between one of each
diagonal : List (Row Judgement)
diagonal =
    (judged_on (gap (replicate 4 0)) (0 ∷ []) gives judges Open 3)
    ∷ (judged_on (gap (replicate 4 0)) (0 ∷ 1 ∷ []) gives judges Wall 1)
    ∷ (judged_on (gap (0 ∷ 2 ∷ 255 ∷ 0 ∷ [])) [] gives judges Wall 1)
    ∷ (judged_on (gap (0 ∷ 2 ∷ 0 ∷ 0 ∷ [])) (1 ∷ []) gives judges Wall 1)
    -- a mover that reaches one to the left is kept off the placement's centre and off the next
    ∷ (judged_on (given (box 5 7 9 8) (at 8 7) (at 5 7) (bounds 1 0 0 0) None (1 ∷ []) (plain (box 6 7 7 8) ∷ []) (replicate 4 0) []) (0 ∷ []) gives judges Wall 1)
    ∷ []

diagonal_ground : gots diagonal ≡ wants diagonal
unfolding computing driving gap judged_on diagonal
diagonal_ground = refl

-- ---- what the theorems say
-- of the cut row: it is a wall, and one centre is joined to the start
walled : IsWall (board_of (steps_of original_steps) (clear 0 3)) (1 ∷ []) × HowMany (ComesTo original_steps (clear 0 3) (1 ∷ [])) 1
unfolding computing driving on lane clear
walled = let j = judged_right original_steps (clear 0 3) (1 ∷ []) (work_for (box 0 0 4 1)) Wall 1 refl in (j.wall.0 refl, j.reached)

-- of the whole row, through the C function: no selection leaves more, by whatever table
never_more : (table : List ℤ) (s : List ℕ) (work : Work) → (judge_on table (clear 0 3) s work).answer ≡ 0 → (judge_on table (clear 0 3) s work).ground ≤ 4
unfolding numbering on lane clear
never_more table s work e = (judged_right_on original_steps (clear 0 3) [] (work_for (box 0 0 4 1)) refl).shrinks table s (λ k m. absurd (Memᴰ.not-nil m)) work e
