-- Check 16 clause by clause, through step and reading: a record of input P (RULES 9.7) after a step by two, with one thing wrong; what a refused step leaves, and what
-- comes before 16 and after it; the numbers of the reasons.
use Prim.Native.Nat.{ℕ}
use mathlib.Core.Path.{◌≡◌, refl}
use mathlib.Core.Bool.{Bool, true, false}
use mathlib.Core.Option.{none}
use mathlib.Core.List.{List, [], ◌∷◌, ◌++◌}
use lib.ListN.{replicate}
use Rattle.base_model.specs.declared.Record.{Record}
use Rattle.std.specs.Prelude.{None, Some}
use Rattle.rule_routes.specs.Edges.{original_steps}
use Rattle.rule_layouts.specs.Inputs.{Inputs}
use Rattle.rule_search.specs.State.{Reason, Running, Exhausted, StateLimit, ResultLimit}
use Rattle.rule_calls.specs.Areas.{Store, reason_of, number_of}
use Rattle.rule_calls.specs.RecordCheck.{routes_fit}
use Rattle.rule_calls.specs.Calls.{After, step_call, ReadOut, read_call}
use Rattle.rule_calls.proofs.Computing.{computing}
use Rattle.rule_calls.proofs.Drive.{Row, ◌gives◌, gots, wants, at, box, place, limits, work_for, store_for, still0, places_p, W, refused_by, given, open0, alone, good, driving}
use Rattle.rule_calls.proofs.Refusals.{said, number}

pub rec : (reason evaluations placements layouts lists : ℕ) → Bool → (length next : ℕ) → Record
rec a b c d e p n k = record {
  reason = a;
  evaluations = b;
  placements = c;
  layouts = d;
  lists = e;
  pending = p;
  routes = replicate 32 0;
  lengths = n ∷ replicate 5 0;
  nexts = k ∷ replicate 5 0;
}

-- the first list, the second visited row, then zeros
pub kept : List ℕ → List ℕ → Store
kept ls vs = record { lists = ls ++ replicate 18 0; visited = replicate 7 0 ++ (vs ++ replicate 35 0); layouts = 1 ∷ replicate 13 0; points = [] }

pub right : Store
right = kept (0 ∷ 1 ∷ []) (1 ∷ [])

pub inputs : Inputs
inputs = alone places_p

pub steps : Record → Store → ℕ × List ℕ
steps r a = said (step_call original_steps inputs (limits 5 2) r 3 (work_for W) a).answer

pub records : List (Row (ℕ × List ℕ))
records =
    (steps (rec 1 2 3 1 1 false 2 1) right gives number 0)
    -- the reason is named
    ∷ (steps (rec 0 2 3 1 1 false 2 1) right gives number 16)
    ∷ (steps (rec 5 2 3 1 1 false 2 1) right gives number 16)
    -- the placement number is right
    ∷ (steps (rec 1 2 2 1 1 false 2 1) right gives number 16)
    -- evaluations ≤ state limit
    ∷ (steps (rec 1 5 3 1 1 false 2 1) right gives number 0)
    ∷ (steps (rec 1 6 3 1 1 false 2 1) right gives number 16)
    -- layouts ≤ result limit, and below it while Running
    ∷ (steps (rec 1 2 3 2 1 false 2 1) right gives number 16)
    ∷ (steps (rec 4 2 3 2 1 false 2 1) right gives number 0)
    ∷ (steps (rec 4 2 3 3 1 false 2 1) right gives number 16)
    -- rows ascend strictly, with at most 6 members, and name placements; rows may repeat
    ∷ (steps (rec 1 2 3 1 1 false 2 1) (kept (0 ∷ 1 ∷ []) (2 ∷ 1 ∷ 1 ∷ [])) gives number 16)
    ∷ (steps (rec 1 2 3 1 1 false 2 1) (kept (0 ∷ 1 ∷ []) (2 ∷ 2 ∷ 1 ∷ [])) gives number 16)
    ∷ (steps (rec 1 2 3 1 1 false 2 1) (kept (0 ∷ 1 ∷ []) (1 ∷ 3 ∷ [])) gives number 16)
    ∷ (steps (rec 1 2 3 1 1 false 2 1) (kept (0 ∷ 1 ∷ []) (7 ∷ [])) gives number 16)
    ∷ (steps (rec 1 2 3 1 1 false 2 1) (kept (0 ∷ 1 ∷ []) (0 ∷ [])) gives number 0)
    -- at most 6 lists
    ∷ (steps (rec 1 2 3 1 7 false 2 1) right gives number 16)
    -- entries are existing placements
    ∷ (steps (rec 1 2 3 1 1 false 2 1) (kept (0 ∷ 3 ∷ []) (1 ∷ [])) gives number 16)
    -- next ≤ length ≤ placements
    ∷ (steps (rec 1 2 3 1 1 false 2 3) right gives number 16)
    ∷ (steps (rec 1 2 3 1 1 false 4 1) right gives number 16)
    -- next above 0 where a list or a pending set stands on it
    ∷ (steps (rec 1 2 3 1 1 true 2 0) right gives number 16)
    ∷ (steps (rec 1 2 3 1 1 true 2 1) right gives number 0)
    ∷ (steps (rec 1 2 3 1 1 false 2 0) right gives number 0)
    ∷ (steps (rec 1 2 3 1 2 false 2 0) right gives number 16)
    ∷ (steps (rec 1 2 3 1 2 false 2 1) right gives number 0)
    -- a pending set with no list is the empty set
    ∷ (steps (rec 1 2 3 1 0 true 0 0) right gives number 0)
    ∷ []

pub records_checked : gots records ≡ wants records
unfolding computing driving rec kept right inputs steps records
records_checked = refl

-- ---- a refused step
-- two placements, the second with no such spec index
pub misplaced : Inputs
misplaced = alone (good ∷ place 6 0 W W ∷ [])

-- a step by three that is lent areas full of nines
pub soiled : Inputs → Record → After
soiled i r = step_call original_steps i (limits 2 2) r 3 (work_for W) (store_for i (limits 2 2))

-- record, working areas and store are as given: refused by 15 with a record as begin leaves it; by 16, since no row has nine members
pub leaves_at_15 : soiled misplaced (rec 1 0 2 0 0 true 0 0)
    ≡ record { answer = refused_by 15 (1 ∷ []); rec = rec 1 0 2 0 0 true 0 0; work = work_for W; store = store_for misplaced (limits 2 2) }
unfolding computing driving rec misplaced soiled
leaves_at_15 = refl

pub leaves_at_16 : soiled inputs (rec 1 2 3 1 1 false 2 1)
    ≡ record { answer = refused_by 16 []; rec = rec 1 2 3 1 1 false 2 1; work = work_for W; store = store_for inputs (limits 2 2) }
unfolding computing driving rec inputs soiled
leaves_at_16 = refl

-- two things wrong: 15 and 14 come before 16
pub fifteen_first : said (soiled misplaced (rec 0 0 2 0 0 true 0 0)).answer ≡ (15, 1 ∷ [])
unfolding computing driving rec misplaced soiled
fifteen_first = refl

pub fourteen_first : said (soiled (alone (replicate 6145 good)) (rec 0 0 6145 0 0 true 0 0)).answer ≡ number 14
unfolding computing driving rec soiled
fourteen_first = refl

-- two lists: the second list of (0) or (1) holds placements that may join the set below
pub second : (length next : ℕ) → List ℕ → List ℕ → ℕ × List ℕ
second n k first more = said (step_call original_steps inputs (limits 5 2)
    (record {
      reason = 1;
      evaluations = 2;
      placements = 3;
      layouts = 1;
      lists = 2;
      pending = false;
      routes = replicate 32 0;
      lengths = 2 ∷ n ∷ replicate 4 0;
      nexts = 2 ∷ k ∷ replicate 4 0;
    }) 3 (work_for W) (kept (first ++ 0 ∷ more) (1 ∷ []))).answer

-- as in `inputs`, with one slot alone
pub one_slot : ℕ × List ℕ
one_slot = said (step_call original_steps (given W (at 0 1) (at 4 1) still0 None (1 ∷ []) places_p open0 []) (limits 5 2)
    (record {
      reason = 1;
      evaluations = 2;
      placements = 3;
      layouts = 1;
      lists = 2;
      pending = false;
      routes = replicate 32 0;
      lengths = 2 ∷ 1 ∷ replicate 4 0;
      nexts = 2 ∷ 0 ∷ replicate 4 0;
    }) 3 (work_for W) (kept (0 ∷ 1 ∷ 0 ∷ 2 ∷ []) (1 ∷ []))).answer

pub joining : List (Row (ℕ × List ℕ))
joining =
    -- 2 may join (1): its footprint overlaps none
    (second 1 0 (0 ∷ 1 ∷ []) (2 ∷ []) gives number 0)
    -- a member, and a footprint overlapped
    ∷ (second 1 0 (0 ∷ 1 ∷ []) (1 ∷ []) gives number 16)
    ∷ (second 1 0 (0 ∷ 1 ∷ []) (0 ∷ []) gives number 16)
    ∷ (second 1 0 (1 ∷ 0 ∷ []) (2 ∷ []) gives number 16)
    -- a free slot
    ∷ (one_slot gives number 16)
    ∷ []

pub joining_checked : gots joining ≡ wants joining
unfolding computing driving kept inputs second one_slot joining
joining_checked = refl

-- ---- kept routes
pub routed : (first second : ℕ) → Record
routed a b = record {
  reason = 4;
  evaluations = 2;
  placements = 3;
  layouts = 2;
  lists = 0;
  pending = false;
  routes = a ∷ b ∷ replicate 30 0;
  lengths = replicate 6 0;
  nexts = replicate 6 0;
}

pub pointed : Store
pointed = record { lists = replicate 18 0; visited = replicate 35 0; layouts = replicate 14 0; points = 10 ∷ 11 ∷ 12 ∷ 13 ∷ 14 ∷ 15 ∷ replicate 54 0 }

pub with_allowed : Inputs
with_allowed = given W (at 0 1) (at 4 1) still0 (Some still0) (2 ∷ []) places_p open0 open0

pub reading : List (Row ReadOut)
reading =
    (read_call with_allowed (limits 5 2) (routed 2 1) 0 pointed gives record { answer = none; points = 10 ∷ 11 ∷ 12 ∷ 13 ∷ [] })
    ∷ (read_call with_allowed (limits 5 2) (routed 2 1) 1 pointed gives record { answer = none; points = 14 ∷ 15 ∷ [] })
    ∷ (read_call with_allowed (limits 5 2) (routed 2 1) 2 pointed gives record { answer = refused_by 17 []; points = [] })
    -- each kept route has at most c points, none without an allowed mover
    ∷ (read_call with_allowed (limits 5 2) (routed 2 16) 0 pointed gives record { answer = refused_by 16 []; points = [] })
    ∷ (read_call inputs (limits 5 2) (routed 2 1) 0 pointed gives record { answer = refused_by 16 []; points = [] })
    ∷ (read_call inputs (limits 5 2) (routed 0 0) 1 pointed gives record { answer = none; points = [] })
    -- two things wrong: 16 comes before 17
    ∷ (read_call with_allowed (limits 5 2) (routed 2 16) 2 pointed gives record { answer = refused_by 16 []; points = [] })
    ∷ []

pub reading_gives : gots reading ≡ wants reading
unfolding computing driving inputs routed pointed with_allowed reading
reading_gives = refl

-- their sum is at most 1,000,000, on a window of 1,024 by 1,024 centres
pub wide : Inputs
wide = given (box 0 0 1024 1024) (at 0 1) (at 4 1) still0 (Some still0) [] [] [] []

pub sums : routes_fit wide (1000000 ∷ []) ∷ routes_fit wide (999999 ∷ 1 ∷ []) ∷ routes_fit wide (1000000 ∷ 1 ∷ []) ∷ [] ≡ true ∷ true ∷ false ∷ []
unfolding computing driving wide
sums = refl

-- ---- the reasons and their numbers; 0 and 5 name none, and 16 refuses them
pub reasons : List (Row ℕ)
reasons = (number_of Running gives 1) ∷ (number_of Exhausted gives 2) ∷ (number_of StateLimit gives 3) ∷ (number_of ResultLimit gives 4) ∷ []

pub named : List (Row Reason)
named =
    (reason_of 0 gives Running)
    ∷ (reason_of 1 gives Running)
    ∷ (reason_of 2 gives Exhausted)
    ∷ (reason_of 3 gives StateLimit)
    ∷ (reason_of 4 gives ResultLimit)
    ∷ (reason_of 5 gives ResultLimit)
    ∷ []

pub reasons_numbered : (gots reasons ≡ wants reasons) × (gots named ≡ wants named)
unfolding computing driving reasons named
reasons_numbered = (refl, refl)

-- a running record at the state limit is stopped before a frame, and its used entries stay
pub at_the_limit : (step_call original_steps inputs (limits 2 2) (rec 1 2 3 1 1 false 2 1) 3 (work_for W) (kept (0 ∷ 1 ∷ []) (1 ∷ []))).rec ≡ rec 3 2 3 1 1 false 2 1
unfolding computing driving rec kept inputs
at_the_limit = refl
