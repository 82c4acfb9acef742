-- The table of steps through the calls: 19 before every other check, and nothing is written.
use mathlib.Core.Path.{◌≡◌, refl}
use mathlib.Core.List.{List, [], ◌∷◌, map}
use lib.IntN.{ℤ}
use lib.ListN.{replicate}
use Rattle.base_model.specs.Answers.{refusal}
use Rattle.std.specs.Prelude.{None}
use Rattle.rule_routes.proofs.Cases.{diagonals_first, unfit}
use Rattle.rule_layouts.specs.Inputs.{Inputs}
use Rattle.rule_calls.specs.Calls.{Prepared, prepare_call, After, no_record, begin_call, step_call, refuses, AfterJudge, judge_call}
use Rattle.rule_calls.proofs.Computing.{computing}
use Rattle.rule_calls.proofs.Drive.{at, box, limits, work_for, store_for, still0, W, refused_by, given, driving}

-- ---- 19, where all else is wrong too: a cell of 2, seven slots, limits of 0, an empty window, a record of no search, a selection that names no placement
wrong_inputs : Inputs
wrong_inputs = given (box 0 0 0 0) (at 9 9) (at 9 9) still0 None (7 ∷ []) [] [] []

by_prepare : List ℤ → Prepared
by_prepare table = prepare_call table
    (record { map = record { across = 1; down = 1; cells = 2 ∷ [] }; obstacles = []; window = box 0 0 0 0; start = at 9 9; end = at 9 9; mover = still0 })
    (replicate 3 9) (work_for W)

by_begin : List ℤ → After
by_begin table = begin_call table wrong_inputs (limits 0 0) (work_for W) (store_for wrong_inputs (limits 1 1))

by_step : List ℤ → After
by_step table = step_call table wrong_inputs (limits 0 0) no_record 3 (work_for W) (store_for wrong_inputs (limits 1 1))

by_judge : List ℤ → AfterJudge
by_judge table = judge_call table wrong_inputs (9 ∷ []) (work_for W)

nineteen_first :
    (map by_prepare unfit ≡ replicate 6 (record { answer = refused_by 19 []; baseline = replicate 3 9; work = work_for W }))
    × (map by_begin unfit ≡ replicate 6 (record { answer = refused_by 19 []; rec = no_record; work = work_for W; store = store_for wrong_inputs (limits 1 1) }))
    × (map by_step unfit ≡ replicate 6 (record { answer = refused_by 19 []; rec = no_record; work = work_for W; store = store_for wrong_inputs (limits 1 1) }))
    × (map by_judge unfit ≡ replicate 6 (record { answer = refuses (refusal 19); work = work_for W }))
unfolding computing driving unfit wrong_inputs by_prepare by_begin by_step by_judge
nineteen_first = (refl, refl, refl, refl)

-- with a table that fits, the next check answers
then_the_others : ((by_prepare diagonals_first).answer ≡ refused_by 1 []) × ((by_begin diagonals_first).answer ≡ refused_by 10 [])
    × ((by_step diagonals_first).answer ≡ refused_by 10 []) × ((by_judge diagonals_first).answer ≡ refuses (refusal 10))
unfolding computing driving wrong_inputs diagonals_first by_prepare by_begin by_step by_judge
then_the_others = (refl, refl, refl, refl)
