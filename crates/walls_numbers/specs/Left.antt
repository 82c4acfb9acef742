-- What the calls leave where every value is a number (RULES 7.10).
use Rattle.std.specs.Prelude.{ℕ, Bool, ◌&&◌, List, [], ◌∷◌, ◌++◌, leb, ltb, ℤ, length, get_or, take}
use Rattle.std.proofs.Math.Option.{Option, none, some}
use Rattle.base_laws.specs.Lists.{total}
use Rattle.base_model.specs.Answers.{Said, ask, first}
use Rattle.base_model.specs.declared.Rect.{Rect}
use Rattle.base_model.specs.declared.Bounds.{Bounds}
use Rattle.base_model.specs.declared.Limits.{Limits}
use Rattle.base_model.specs.declared.Record.{Record}
use Rattle.rule_covers.specs.Covers.{AfterChange, cover_call, lift_call}
use Rattle.rule_routes.specs.Edges.{table_fits}
use Rattle.rule_layouts.specs.Inputs.{Inputs}
use Rattle.rule_calls.specs.Areas.{Work, Store, work_fits, store_fits}
use Rattle.rule_calls.specs.Checks.{group_checks, limit_checks, query_checks, place_checks}
use Rattle.rule_calls.specs.RecordCheck.{record_fits}
use Rattle.rule_calls.specs.Calls.{Preparation, prepare_call, After, begin_call, step_call, judge_call}
use Rattle.call_read.specs.Told.{number_in, index_in}
use Rattle.walls_numbers.specs.Numbers.{record_from, numbers_after, judged_answer, judged_index, judged_verdict, judged_ground}

-- ---- preparing
pub record LeftPrepared : Type 0 where
  pub answer : ℕ
  pub baseline : List ℕ
  pub work : Work

unfoldable pub prepare_on : (table : List ℤ) → Preparation → (baseline : List ℕ) → Work → LeftPrepared
prepare_on table q baseline work =
    let o = prepare_call table q baseline work in record { answer = number_in o.answer; baseline = o.baseline; work = o.work }

-- ---- covering and lifting
pub record LeftChanged : Type 0 where
  pub answer : ℕ
  pub baseline : List ℕ

unfoldable pub changed_by : AfterChange → LeftChanged
changed_by o = record { answer = number_in o.answer; baseline = o.baseline }

unfoldable pub cover_on : Rect → Bounds → Rect → (baseline : List ℕ) → LeftChanged
cover_on w m r baseline = changed_by (cover_call w m r baseline)

unfoldable pub lift_on : Rect → Bounds → Rect → (baseline : List ℕ) → LeftChanged
lift_on w m r baseline = changed_by (lift_call w m r baseline)

-- ---- a search
-- what a call leaves: the answer and its index, the record's numbers, the areas
pub record Left : Type 0 where
  pub answer : ℕ
  pub index : ℕ
  pub numbers : List ℕ
  pub work : Work
  pub store : Store

-- the record's numbers are one more area: fewer than fifty are too short
unfoldable pub fifty : (numbers : List ℕ) → Bool
fifty ns = leb 50 (length ns)

unfoldable pub begin_checks_on : Inputs → Limits → (numbers : List ℕ) → Work → Store → List (Option Said)
begin_checks_on i l ns work store =
    group_checks i ++ limit_checks l ++ query_checks i (work_fits i.query.window work && store_fits i l store && fifty ns)

-- 16 for a pending above 1 too
unfoldable pub numbers_fit : Inputs → Limits → (numbers : List ℕ) → Store → Bool
numbers_fit i l ns store = leb (get_or ns 5 0) 1 && record_fits i (record_from ns) store l

unfoldable pub step_checks_on : Inputs → Limits → (numbers : List ℕ) → Work → Store → List (Option Said)
step_checks_on i l ns work store = begin_checks_on i l ns work store ++ place_checks i ++ ask 16 (numbers_fit i l ns store) ∷ []

-- a refusal: its number and index, nothing else written
unfoldable pub turned : Said → (numbers : List ℕ) → Work → Store → Left
turned e ns work store = record { answer = e.number; index = get_or e.values 0 0; numbers = ns; work = work; store = store }

-- what a call leaves, its record laid as numbers; a begin can still be refused here, by 7, 8, 9, 14 or 15
unfoldable pub left_by : After → (numbers : List ℕ) → Left
left_by o ns =
    record { answer = number_in o.answer; index = index_in o.answer; numbers = numbers_after o.answer o.rec ns; work = o.work; store = o.store }

-- 19 before every other check
unfoldable pub begin_on : (table : List ℤ) → Inputs → Limits → (numbers : List ℕ) → Work → Store → Left
begin_on table i l ns work store =
    elim (first (ask 19 (table_fits table) ∷ begin_checks_on i l ns work store))
    [ some e ↦ turned e ns work store | none ↦ left_by (begin_call table i l work store) ns ]

unfoldable pub step_on : (table : List ℤ) → Inputs → Limits → (numbers : List ℕ) → (n : ℕ) → Work → Store → Left
step_on table i l ns n work store =
    elim (first (ask 19 (table_fits table) ∷ step_checks_on i l ns work store))
    [ some e ↦ turned e ns work store | none ↦ left_by (step_call table i l (record_from ns) n work store) ns ]

-- ---- reading
-- where layout k's route begins among the kept points, and how many points it has; both 0 on a refusal
pub record LeftRead : Type 0 where
  pub answer : ℕ
  pub index : ℕ
  pub first : ℕ
  pub count : ℕ

unfoldable pub read_checks_on : Inputs → Limits → (numbers : List ℕ) → (k : ℕ) → Store → List (Option Said)
read_checks_on i l ns k store =
    group_checks i ++ limit_checks l ++ query_checks i (store_fits i l store && fifty ns) ++ place_checks i
    ++ ask 16 (numbers_fit i l ns store) ∷ ask 17 (ltb k (record_from ns).layouts) ∷ []

unfoldable pub place_of : Option Said → Record → (k : ℕ) → LeftRead
place_of none r k = record { answer = 0; index = 0; first = total (take k r.routes); count = get_or r.routes k 0 }
place_of (some e) r k = record { answer = e.number; index = get_or e.values 0 0; first = 0; count = 0 }

unfoldable pub read_on : Inputs → Limits → (numbers : List ℕ) → (k : ℕ) → Store → LeftRead
read_on i l ns k store = place_of (first (read_checks_on i l ns k store)) (record_from ns) k

-- ---- judging
pub record LeftJudged : Type 0 where
  pub answer : ℕ
  pub index : ℕ
  pub verdict : ℕ
  pub ground : ℕ
  pub work : Work

unfoldable pub judge_on : (table : List ℤ) → Inputs → (selection : List ℕ) → Work → LeftJudged
judge_on table i s work =
    let o = judge_call table i s work in
    record { answer = judged_answer o.answer; index = judged_index o.answer; verdict = judged_verdict o.answer; ground = judged_ground o.answer; work = o.work }
