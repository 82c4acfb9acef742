-- The checks that begin, step, reading and judging share, in the order of RULES 8.1, through each of the four. In each row two things are wrong, the second of them
-- what is looked at next; beside them step and reading have a record that 16 refuses, and judging a selection that 17 refuses.
use Prim.Native.Nat.{ℕ}
use mathlib.Core.Path.{◌≡◌, refl}
use mathlib.Core.Option.{some}
use mathlib.Core.List.{List, [], ◌∷◌, ◌++◌, map}
use lib.ListN.{replicate}
use Rattle.std.specs.Prelude.{None, Some}
use Rattle.base_model.specs.declared.Limits.{Limits}
use Rattle.rule_routes.specs.Edges.{original_steps}
use Rattle.rule_layouts.specs.Inputs.{Inputs}
use Rattle.rule_calls.specs.Calls.{no_record, step_call, read_call, Judgement, refuses, judges, judge_call}
use Rattle.rule_calls.proofs.Computing.{computing}
use Rattle.rule_calls.proofs.Drive.{at, box, place, limits, work_for, store_for, still0, W, given, open0, alone, good, driving}
use Rattle.rule_calls.proofs.Refusals.{said, number, reach, begin_answer}

-- inputs and limits, and what each call answers
pub record Faulty : Type 0 where
  pub inputs : Inputs
  pub limits : Limits
  pub answer : ℕ × List ℕ

unfoldable pub ◌with◌is◌ : Inputs → Limits → ℕ × List ℕ → Faulty
i with l is a = record { inputs = i; limits = l; answer = a }

infix 3 ◌with◌is◌
unfoldable pub few : Limits
few = limits 5 5

-- ---- the calls
unfoldable pub by_begin : Faulty → ℕ × List ℕ
by_begin f = begin_answer f.inputs f.limits

unfoldable pub by_step : Faulty → ℕ × List ℕ
by_step f = said (step_call original_steps f.inputs f.limits no_record 3 (work_for f.inputs.query.window) (store_for f.inputs f.limits)).answer

unfoldable pub by_reading : Faulty → ℕ × List ℕ
by_reading f = said (read_call f.inputs f.limits no_record 0 (store_for f.inputs f.limits)).answer

unfoldable pub said_in : Judgement → ℕ × List ℕ
said_in (refuses e) = said (some e)
said_in (judges v n) = number 0

unfoldable pub by_judging : Faulty → ℕ × List ℕ
by_judging f = said_in (judge_call original_steps f.inputs (9 ∷ []) (work_for f.inputs.query.window)).answer

unfoldable pub wanted : Faulty → ℕ × List ℕ
wanted f = f.answer

-- ---- the limits, which judging does not take
pub limited : List Faulty
limited =
    (alone [] with limits 0 33 is number 11)
    ∷ (alone [] with limits 100001 0 is number 11)
    ∷ (given (box 0 0 0 0) (at 0 1) (at 4 1) still0 None (2 ∷ []) [] open0 [] with limits 5 33 is number 12)
    ∷ (given (box 0 0 0 0) (at 0 1) (at 4 1) still0 None (2 ∷ []) [] open0 [] with limits 5 0 is number 12)
    ∷ []

pub limits_in_order : map by_begin limited ∷ map by_step limited ∷ map by_reading limited ∷ [] ≡ replicate 3 (map wanted limited)
unfolding computing driving begin_answer ◌with◌is◌ by_begin by_step by_reading wanted limited
limits_in_order = refl

-- ---- the others
pub faulty : List Faulty
faulty =
    -- 10, then 2
    (given (box 0 0 0 0) (at 0 1) (at 4 1) still0 None (7 ∷ []) [] open0 [] with few is number 10)
    -- 2, then 3
    ∷ (given (box 0 0 8193 1) (at 0 9) (at 0 0) still0 None (2 ∷ []) [] [] [] with few is number 2)
    -- 3 for the start and for the end, then 4
    ∷ (given W (at 5 1) (at 4 1) (reach 257) None (2 ∷ []) [] open0 [] with few is number 3)
    ∷ (given W (at 0 1) (at 4 3) (reach 257) None (2 ∷ []) [] open0 [] with few is number 3)
    -- 4 for each mover, then 6
    ∷ (given W (at 0 1) (at 4 1) (reach 257) None (2 ∷ []) [] [] [] with few is number 4)
    ∷ (given W (at 0 1) (at 4 1) still0 (Some (reach 257)) (2 ∷ []) [] [] [] with few is number 4)
    -- 6 for each baseline, then 15 (7 for begin)
    ∷ (given W (at 0 1) (at 4 1) still0 None (2 ∷ []) (place 6 0 W W ∷ []) (replicate 14 2) [] with few is number 6)
    ∷ (given W (at 0 1) (at 4 1) still0 (Some still0) (2 ∷ []) (place 6 0 W W ∷ []) open0 (replicate 14 2) with few is number 6)
    -- 15 with its index, then 16 or 17; counts above 1 in a baseline are no fault
    ∷ (given W (at 0 1) (at 4 1) still0 None (2 ∷ []) (place 6 0 W W ∷ []) (2 ∷ replicate 13 0 ++ 255 ∷ []) [] with few is (15, 0 ∷ []))
    ∷ (given W (at 0 1) (at 4 1) still0 (Some still0) (2 ∷ []) (place 6 0 W W ∷ []) open0 (255 ∷ replicate 13 0 ++ 2 ∷ []) with few is (15, 0 ∷ []))
    ∷ (alone (good ∷ place 6 0 W W ∷ []) with few is (15, 1 ∷ []))
    ∷ []

pub in_order : map by_begin faulty ∷ map by_step faulty ∷ map by_reading faulty ∷ map by_judging faulty ∷ [] ≡ replicate 4 (map wanted faulty)
unfolding computing driving reach begin_answer ◌with◌is◌ few by_begin by_step by_reading said_in by_judging wanted faulty
in_order = refl

-- 14, then 15
pub crowded : Faulty
crowded = alone (replicate 6145 (place 6 0 W W)) with few is number 14

pub too_many_first : by_begin crowded ∷ by_step crowded ∷ by_reading crowded ∷ by_judging crowded ∷ [] ≡ replicate 4 (number 14)
unfolding computing driving begin_answer ◌with◌is◌ few by_begin by_step by_reading said_in by_judging crowded
too_many_first = refl
