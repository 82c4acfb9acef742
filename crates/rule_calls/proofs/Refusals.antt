-- Each refusal through the calls, with one thing wrong or two, so that the order shows; and all that refused and accepted calls leave of soiled areas.
use Prim.Native.Nat.{ℕ}
use mathlib.Core.Path.{◌≡◌, refl}
use mathlib.Core.Bool.{true}
use mathlib.Core.Option.{Option, none, some}
use mathlib.Core.List.{List, [], ◌∷◌, ◌++◌}
use lib.IntN.{ℤ, pos, negsuc}
use lib.ListN.{replicate}
use Rattle.base_model.specs.Answers.{Said}
use Rattle.base_model.specs.declared.Rect.{Rect}
use Rattle.base_model.specs.declared.Bounds.{Bounds}
use Rattle.base_model.specs.declared.Position.{Position}
use Rattle.std.specs.Prelude.{None, Some}
use Rattle.base_model.specs.declared.Limits.{Limits}
use Rattle.base_model.specs.declared.Refusal.TheVariants.{PlacementInvalid}
use Rattle.base_model.specs.declared.Verdict.TheVariants.{Slots, Spare, Wall}
use Rattle.std.specs.Prelude.{Ok, Err}
use Rattle.rule_routes.specs.Edges.{original_steps}
use Rattle.rule_layouts.specs.Inputs.{Inputs}
use Rattle.rule_layouts.specs.Flat.{placements_of}
use Rattle.rule_calls.specs.Areas.{Work}
use Rattle.rule_calls.specs.Calls.{Prepared, prepare_call, After, no_record, begin_call, judges, refuses, judgement_of, AfterJudge, judge_call}
use Rattle.rule_calls.proofs.Computing.{computing}
use Rattle.rule_calls.proofs.Drive.{Row, ◌gives◌, gots, wants, at, box, bounds, place, plain, limits, work_for, store_for, begins, still0, W, refused_by, given, open0, alone, good, driving}

-- the number and the values of an answer; 0 and none where it is accepted
abbrev pub said : Option Said → ℕ × List ℕ
said none = (0, [])
said (some r) = (r.number, r.values)

abbrev pub number : ℕ → ℕ × List ℕ
number n = (n, [])

-- the mover's left bound alone
unfoldable pub reach : ℕ → Bounds
reach n = bounds n 0 0 0

-- ---- prepare, on a map one cell high, with a baseline of so many entries
pub prepares : (across : ℕ) → List ℕ → List ℤ → Rect → Position → Position → Bounds → (long : ℕ) → Prepared
prepares across cells obstacles w a b m long = prepare_call original_steps
    (record { map = record { across = across; down = 1; cells = cells }; obstacles = obstacles; window = w; start = a; end = b; mover = m })
    (replicate long 9) (work_for W)

-- on P's window
pub prepared0 : List ℤ → Bounds → (long : ℕ) → Prepared
prepared0 obstacles m long = prepares 1 (1 ∷ []) obstacles W (at 0 1) (at 4 1) m long

pub preparing : List (Row (ℕ × List ℕ))
preparing =
    (said (prepares 1 (2 ∷ []) [] (box 0 0 0 0) (at 0 1) (at 4 1) still0 15).answer gives number 1)
    ∷ (said (prepares 1 (1 ∷ 1 ∷ []) [] W (at 0 1) (at 4 1) still0 15).answer gives number 1)
    ∷ (said (prepares 0 [] [] W (at 0 1) (at 4 1) still0 15).answer gives number 1)
    ∷ (said (prepares 1025 (replicate 1025 1) [] W (at 0 1) (at 4 1) still0 15).answer gives number 1)
    ∷ (said (prepares 1 (1 ∷ []) [] (box 0 0 5 0) (at 9 9) (at 4 1) still0 15).answer gives number 2)
    ∷ (said (prepares 1 (1 ∷ []) [] (box 3 0 2 3) (at 9 9) (at 4 1) still0 15).answer gives number 2)
    ∷ (said (prepares 1 (1 ∷ []) [] (box 0 0 9 3) (at 9 9) (at 4 1) still0 15).answer gives number 2)
    ∷ (said (prepares 1 (1 ∷ []) [] W (at 5 1) (at 4 1) (reach 257) 15).answer gives number 3)
    ∷ (said (prepares 1 (1 ∷ []) [] W (at 0 1) (at 5 1) (reach 257) 15).answer gives number 3)
    ∷ (said (prepared0 (pos 1 ∷ []) (reach 257) 15).answer gives number 4)
    ∷ (said (prepared0 (pos 1 ∷ pos 1 ∷ pos 2 ∷ []) still0 0).answer gives number 5)
    ∷ (said (prepared0 (pos 1 ∷ pos 1 ∷ pos 1 ∷ pos 2 ∷ []) still0 0).answer gives number 5)
    ∷ (said (prepared0 [] (reach 1) 14).answer gives number 6)
    ∷ (said (prepared0 [] (reach 1) 15).answer gives number 7)
    ∷ (said (prepared0 (pos 4 ∷ pos 0 ∷ pos 5 ∷ pos 3 ∷ []) still0 15).answer gives number 8)
    ∷ (said (prepared0 (pos 2 ∷ negsuc 4 ∷ pos 3 ∷ pos 3 ∷ []) still0 15).answer gives number 9)
    ∷ (said (prepared0 (pos 2 ∷ pos 0 ∷ pos 3 ∷ pos 2 ∷ []) still0 15).answer gives number 0)
    ∷ []

pub prepare_refuses : gots preparing ≡ wants preparing
unfolding computing driving reach prepares prepared0 preparing
prepare_refuses = refl

-- the working areas with zeros up to their lengths
unfoldable pub zeroed : Work
zeroed = record {
  counts = replicate 24 (pos 0) ++ pos 9 ∷ [];
  map = replicate 15 0 ++ 9 ∷ [];
  queue = replicate 15 0 ++ 9 ∷ [];
  predecessors = replicate 15 0 ++ 9 ∷ [];
  route = replicate 15 0 ++ 9 ∷ [];
}

-- 4 writes nothing; 7 leaves zeros; an accepted one leaves its baseline
pub prepare_leaves : List (Row Prepared)
prepare_leaves =
    (prepared0 [] (reach 257) 16 gives record { answer = refused_by 4 []; baseline = replicate 16 9; work = work_for W })
    ∷ (prepared0 [] (reach 1) 16 gives record { answer = refused_by 7 []; baseline = replicate 15 0 ++ 9 ∷ []; work = zeroed })
    ∷ (prepared0 (pos 2 ∷ pos 0 ∷ pos 3 ∷ pos 2 ∷ []) still0 16
    gives record { answer = none; baseline = 0 ∷ 0 ∷ 1 ∷ 0 ∷ 0 ∷ 0 ∷ 0 ∷ 1 ∷ replicate 7 0 ++ 9 ∷ []; work = zeroed })
    ∷ []

pub prepare_leaves_lem : gots prepare_leaves ≡ wants prepare_leaves
unfolding computing driving reach prepares prepared0 zeroed prepare_leaves
prepare_leaves_lem = refl

-- ---- begin
-- P's window with an allowed mover
pub both : List ℕ → List ℕ → Inputs
both base other = given W (at 0 1) (at 4 1) still0 (Some still0) (2 ∷ []) [] base other

unfoldable pub begin_answer : Inputs → Limits → ℕ × List ℕ
begin_answer i l = said (begins i l).answer

pub beginning : List (Row (ℕ × List ℕ))
beginning =
    (begin_answer (given W (at 9 1) (at 4 1) still0 None (4 ∷ 3 ∷ []) (good ∷ []) open0 []) (limits 0 0) gives number 10)
    ∷ (begin_answer (given W (at 0 1) (at 4 1) still0 None (0 ∷ []) (good ∷ []) open0 []) (limits 5 5) gives number 10)
    ∷ (begin_answer (given W (at 0 1) (at 4 1) still0 None (replicate 7 1) [] open0 []) (limits 5 5) gives number 10)
    ∷ (begin_answer (alone []) (limits 0 0) gives number 11)
    ∷ (begin_answer (alone []) (limits 100001 0) gives number 11)
    ∷ (begin_answer (given (box 0 0 0 0) (at 0 1) (at 4 1) still0 None [] [] [] []) (limits 5 33) gives number 12)
    ∷ (begin_answer (given (box 0 0 8193 1) (at 9 9) (at 4 1) still0 None [] [] [] []) (limits 5 5) gives number 2)
    ∷ (begin_answer (given W (at 0 3) (at 4 1) (reach 257) None [] [] [] []) (limits 5 5) gives number 3)
    ∷ (begin_answer (given W (at 0 1) (at 4 1) still0 (Some (reach 257)) [] [] [] []) (limits 5 5) gives number 4)
    ∷ (begin_answer (both open0 (replicate 14 2)) (limits 5 5) gives number 6)
    ∷ (said (begin_call original_steps (both (replicate 15 2) open0) (limits 5 5) (work_for W) (store_for (alone []) (limits 5 5))).answer gives number 6)
    -- any count that isn't zero blocks, and none is turned away
    ∷ (begin_answer (both (replicate 15 2) open0) (limits 5 5) gives number 7)
    ∷ (begin_answer (both open0 (replicate 15 255)) (limits 5 5) gives number 7)
    ∷ (begin_answer (both (replicate 9 0 ++ replicate 6 2) open0) (limits 5 5) gives number 8)
    ∷ (begin_answer (both open0 (replicate 2 0 ++ 2 ∷ replicate 4 0 ++ 255 ∷ replicate 4 0 ++ 3 ∷ 0 ∷ 0 ∷ [])) (limits 5 5) gives number 9)
    ∷ (begin_answer (both (2 ∷ replicate 14 0) (replicate 14 0 ++ 255 ∷ [])) (limits 5 5) gives number 0)
    ∷ (begin_answer (both (replicate 15 1) open0) (limits 5 5) gives number 7)
    ∷ (begin_answer (both (replicate 9 0 ++ replicate 6 1) (replicate 15 1)) (limits 5 5) gives number 8)
    ∷ (begin_answer (both (replicate 2 0 ++ 1 ∷ replicate 4 0 ++ 1 ∷ replicate 4 0 ++ 1 ∷ 0 ∷ 0 ∷ []) (replicate 15 1)) (limits 5 5) gives number 9)
    ∷ (begin_answer (both open0 (replicate 15 1)) (limits 5 5) gives number 7)
    ∷ (begin_answer (both open0 (replicate 9 0 ++ replicate 6 1)) (limits 5 5) gives number 8)
    ∷ (begin_answer (both open0 (replicate 2 0 ++ 1 ∷ replicate 4 0 ++ 1 ∷ replicate 4 0 ++ 1 ∷ 0 ∷ 0 ∷ [])) (limits 5 5) gives number 9)
    ∷ (begin_answer (given W (at 0 1) (at 4 1) still0 None (2 ∷ []) (place 6 0 W W ∷ []) (replicate 9 0 ++ replicate 6 1) []) (limits 5 5) gives number 8)
    ∷ (begin_answer (alone (replicate 6145 (place 6 0 W W))) (limits 5 5) gives number 14)
    ∷ (begin_answer (alone (good ∷ place 6 0 W W ∷ place 0 1 W W ∷ [])) (limits 5 5) gives (15, 1 ∷ []))
    ∷ (begin_answer (alone (good ∷ good ∷ place 5 1 W W ∷ [])) (limits 5 5) gives (15, 2 ∷ []))
    ∷ (begin_answer (alone (place 5 0 (box 2 0 2 3) W ∷ [])) (limits 5 5) gives (15, 0 ∷ []))
    ∷ (begin_answer (alone (place 5 0 W (box 3 0 2 3) ∷ [])) (limits 5 5) gives (15, 0 ∷ []))
    ∷ (begin_answer (alone (place 5 0 (box 2 0 3 4) W ∷ [])) (limits 5 5) gives (15, 0 ∷ []))
    ∷ (begin_answer (alone (place 5 0 W (box 900 900 901 901) ∷ [])) (limits 5 5) gives number 0)
    ∷ (begin_answer (alone (placements_of (0 ∷ 0 ∷ 0 ∷ 0 ∷ 0 ∷ []) (pos 2 ∷ pos 0 ∷ pos 3 ∷ pos 3 ∷ pos 2 ∷ pos 0 ∷ pos 3 ∷ pos 3 ∷ []))) (limits 5 5) gives (15, 1 ∷ []))
    ∷ (begin_answer (alone (placements_of (0 ∷ 0 ∷ 0 ∷ 0 ∷ []) (pos 2 ∷ pos 0 ∷ pos 3 ∷ pos 3 ∷ pos 2 ∷ pos 0 ∷ pos 3 ∷ pos 3 ∷ []))) (limits 5 5) gives number 0)
    ∷ []

pub begin_refuses : gots beginning ≡ wants beginning
unfolding computing driving reach both begin_answer beginning
begin_refuses = refl

-- P's window with an allowed mover and one placement
unfoldable pub whole : Inputs
whole = given W (at 0 1) (at 4 1) still0 (Some still0) (2 ∷ []) (good ∷ []) open0 open0

-- 4 writes nothing; 7 and 15 leave the working areas zero and the others as they were; an accepted one leaves a record with the empty set pending and zeros up to
-- every length
pub begin_leaves : List (Row After)
begin_leaves =
    (begins (given W (at 0 1) (at 4 1) (reach 257) None [] [] open0 []) (limits 5 5)
    gives record { answer = refused_by 4 []; rec = no_record; work = work_for W; store = store_for (alone []) (limits 5 5) })
    ∷ (begins (both open0 (replicate 15 1)) (limits 5 5)
    gives record { answer = refused_by 7 []; rec = no_record; work = zeroed; store = store_for (both [] []) (limits 5 5) })
    ∷ (begins (alone (place 6 0 W W ∷ [])) (limits 5 5)
    gives record { answer = refused_by 15 (0 ∷ []); rec = no_record; work = zeroed; store = store_for (alone (good ∷ [])) (limits 5 5) })
    ∷ (begins whole (limits 5 2)
    gives record {
      answer = none;
      rec = record {
        reason = 1;
        evaluations = 0;
        placements = 1;
        layouts = 0;
        lists = 0;
        pending = true;
        routes = replicate 32 0;
        lengths = replicate 6 0;
        nexts = replicate 6 0;
      };
      work = zeroed;
      store = record {
        lists = replicate 6 0 ++ 9 ∷ [];
        visited = replicate 35 0 ++ 9 ∷ [];
        layouts = replicate 14 0 ++ 9 ∷ [];
        points = replicate 60 0 ++ 9 ∷ [];
      };
    })
    ∷ []

pub begin_leaves_lem : gots begin_leaves ≡ wants begin_leaves
unfolding computing driving reach both zeroed whole begin_leaves
begin_leaves_lem = refl

-- ---- judging
pub judged : Inputs → List ℕ → AfterJudge
judged i s = judge_call original_steps i s (work_for i.query.window)

-- 15 and 17 write nothing: not ascending, a member twice, one that names no placement, seven members
pub judging : List (Row AfterJudge)
judging =
    (judged (alone (place 6 0 W W ∷ [])) (7 ∷ []) gives record { answer = refuses (record { number = 15; values = 0 ∷ [] }); work = work_for W })
    ∷ (judged (alone (good ∷ good ∷ [])) (1 ∷ 0 ∷ []) gives record { answer = refuses (record { number = 17; values = [] }); work = work_for W })
    ∷ (judged (alone (good ∷ good ∷ [])) (1 ∷ 1 ∷ []) gives record { answer = refuses (record { number = 17; values = [] }); work = work_for W })
    ∷ (judged (alone (good ∷ good ∷ [])) (2 ∷ []) gives record { answer = refuses (record { number = 17; values = [] }); work = work_for W })
    ∷ (judged (alone (replicate 7 good)) (0 ∷ 1 ∷ 2 ∷ 3 ∷ 4 ∷ 5 ∷ 6 ∷ []) gives record { answer = refuses (record { number = 17; values = [] }); work = work_for W })
    ∷ []

pub judge_refuses : gots judging ≡ wants judging
unfolding computing driving judged judging
judge_refuses = refl

-- an accepted one leaves the working areas zero: six members of seven, and a wall across a row of three centres
pub six_judged : judged (alone (replicate 7 good)) (0 ∷ 1 ∷ 2 ∷ 3 ∷ 4 ∷ 5 ∷ []) ≡ record { answer = judges Slots 6; work = zeroed }
unfolding computing driving zeroed judged
six_judged = refl

pub corridor : Inputs
corridor = given (box 0 0 3 1) (at 0 0) (at 2 0) still0 None (1 ∷ []) (plain (box 1 0 2 1) ∷ []) (replicate 3 0) []

pub judge_leaves : judged corridor (0 ∷ [])
    ≡ record {
      answer = judges Wall 1;
      work = record {
        counts = replicate 8 (pos 0) ++ pos 9 ∷ [];
        map = 0 ∷ 0 ∷ 0 ∷ 9 ∷ [];
        queue = 0 ∷ 0 ∷ 0 ∷ 9 ∷ [];
        predecessors = 0 ∷ 0 ∷ 0 ∷ 9 ∷ [];
        route = 0 ∷ 0 ∷ 0 ∷ 9 ∷ [];
      };
    }
unfolding computing driving judged corridor
judge_leaves = refl

-- the answers of the code
pub answers_judged : judgement_of (Ok (record { verdict = Spare; ground = 10 })) ∷ judgement_of (Err (PlacementInvalid 7)) ∷ []
    ≡ judges Spare 10 ∷ refuses (record { number = 15; values = 7 ∷ [] }) ∷ []
unfolding computing
answers_judged = refl
