-- The calls: from all that each is given to all that it leaves (RULES 1.9, 6.8, 7.1, 7.3, 7.4, 7.5, 7.6, 7.7, 8.1, 8.2, 8.5, 14). Preparing, beginning, stepping and
-- judging go over an order of steps. The caller gives it as a table: 19 unless that fits, before every other check and writing nothing, and else the call over its order.
use Rattle.std.specs.Prelude.{ℕ, ◌*◌, Bool, true, false, ◌&&◌, List, [], ◌∷◌, ◌++◌, leb, ltb, ℤ, length, replicate, Result, Ok, Err}
use Rattle.std.proofs.Math.Option.{Option, none, some}
use Rattle.base_laws.specs.Lists.{all_of, ascends}
use Rattle.base_model.specs.Answers.{Said, refusal, ask, first, said_of}
use Rattle.base_model.specs.declared.Rect.{Rect}
use Rattle.base_model.specs.declared.Bounds.{Bounds}
use Rattle.base_model.specs.declared.Position.{Position}
use Rattle.std.specs.Prelude.{None}
use Rattle.base_model.specs.declared.Limits.{Limits}
use Rattle.base_model.specs.declared.Record.{Record}
use Rattle.base_model.specs.declared.Verdict.{Verdict}
use Rattle.base_model.specs.declared.Judged.{Judged}
use Rattle.base_model.specs.declared.Refusal.{Refusal}
use Rattle.ground_rects.specs.Rects.{nonempty, small, rects_of}
use Rattle.ground_rects.specs.Windows.{centres, window_fits, in_window, position_of}
use Rattle.ground_baseline.specs.Baseline.{Map, map_fits, baseline_of}
use Rattle.rule_routes.specs.Edges.{Step, steps_of, table_fits}
use Rattle.rule_layouts.specs.Boards.{Board}
use Rattle.rule_layouts.specs.Explore.{map_points, explore}
use Rattle.rule_layouts.specs.Judge.{verdict, ground_left}
use Rattle.rule_search.specs.State.{State}
use Rattle.rule_search.specs.Frames.{Plan, step, begun}
use Rattle.rule_layouts.specs.Inputs.{Inputs, board_of}
use Rattle.rule_calls.specs.Areas.{Work, Store, work_fits, store_fits, laid, cleared, state_of, record_of, store_of, points_of}
use Rattle.rule_calls.specs.Checks.{group_checks, route_checks, place_checks, limit_checks, query_checks}
use Rattle.rule_calls.specs.RecordCheck.{record_fits}

-- ---- prepare
pub record Preparation : Type 0 where
  pub map : Map
  pub obstacles : List ℤ
  pub window : Rect
  pub start : Position
  pub end : Position
  pub mover : Bounds

pub record Prepared : Type 0 where
  pub answer : Option Said
  pub baseline : List ℕ
  pub work : Work

-- the ground with no placements, for one mover over its baseline
unfoldable pub bare : Preparation → List ℕ → Inputs
bare q base = record {
  query = record { window = q.window; start = q.start; end = q.end; block = q.mover; allow = None };
  groups = [];
  places = [];
  block_base = base;
  allow_base = [];
}

unfoldable pub prepare_checks : Preparation → List ℕ → Work → List (Option Said)
prepare_checks q baseline work =
    ask 1 (map_fits q.map)
    ∷ ask 2 (window_fits (8 * q.map.across) (8 * q.map.down) q.window)
    ∷ ask 3 (in_window q.window q.start && in_window q.window q.end)
    ∷ ask 4 (small q.mover)
    ∷ ask 5 (leb (length (rects_of q.obstacles)) 4096 && all_of nonempty (rects_of q.obstacles))
    ∷ ask 6 (leb (centres q.window) (length baseline) && work_fits q.window work)
    ∷ []

-- 1 to 6 write nothing; 7 to 9 leave the baseline and working areas zero up to their lengths
unfoldable pub prepare_over : List Step → Preparation → List ℕ → Work → Prepared
prepare_over steps q baseline work =
    elim (first (prepare_checks q baseline work)) [
      | some r ↦ record { answer = some r; baseline = baseline; work = work }
      | none ↦
          let base : List ℕ = baseline_of q.map (rects_of q.obstacles) q.mover q.window in
          let g : Board = board_of steps (bare q base) in
          elim (first (route_checks g g.block)) [
            | some r ↦ record { answer = some r; baseline = laid (centres q.window) [] baseline; work = cleared q.window work }
            | none ↦ record { answer = none; baseline = laid (centres q.window) base baseline; work = cleared q.window work }
          ]
    ]

unfoldable pub prepare_call : (table : List ℤ) → Preparation → List ℕ → Work → Prepared
prepare_call table q baseline work =
    elim (table_fits table) [
      | false ↦ record { answer = some (refusal 19); baseline = baseline; work = work }
      | true ↦ prepare_over (steps_of table) q baseline work
    ]

-- ---- begin and step
-- what a call leaves: the search record and the areas
pub record After : Type 0 where
  pub answer : Option Said
  pub rec : Record
  pub work : Work
  pub store : Store

-- the search record once a call has answered: the one that it hands back, and on a refusal the one before
unfoldable pub record_or : Record → Result Record Refusal → Record
record_or before (Ok after) = after
record_or before (Err r) = before

unfoldable pub no_record : Record
no_record = record {
  reason = 0;
  evaluations = 0;
  placements = 0;
  layouts = 0;
  lists = 0;
  pending = false;
  routes = replicate 32 0;
  lengths = replicate 6 0;
  nexts = replicate 6 0;
}

unfoldable pub begin_checks : Inputs → Limits → Work → Store → List (Option Said)
begin_checks i l work store =
    group_checks i ++ limit_checks l ++ query_checks i (work_fits i.query.window work && store_fits i l store)

-- 7, 8, 9 for the blocked mover, then for the allowed
unfoldable pub both_routes : Board → List (Option Said)
both_routes g = route_checks g g.block ++ elim g.allow [ none ↦ [] | some m ↦ route_checks g m ]

-- On a refusal nothing is written, but 7, 8, 9, 14 and 15 leave the working areas zero.
unfoldable pub begin_over : List Step → Inputs → Limits → Work → Store → After
begin_over steps i l work store =
    elim (first (begin_checks i l work store)) [
      | some r ↦ record { answer = some r; rec = no_record; work = work; store = store }
      | none ↦
          elim (first (both_routes (board_of steps i) ++ place_checks i)) [
            | some r ↦ record { answer = some r; rec = no_record; work = cleared i.query.window work; store = store }
            | none ↦ record {
              answer = none;
              rec = record_of (length i.places) begun;
              work = cleared i.query.window work;
              store = store_of i l begun store;
            }
          ]
    ]

unfoldable pub begin_call : (table : List ℤ) → Inputs → Limits → Work → Store → After
begin_call table i l work store =
    elim (table_fits table) [
      | false ↦ record { answer = some (refusal 19); rec = no_record; work = work; store = store }
      | true ↦ begin_over (steps_of table) i l work store
    ]

-- the evaluation's routes are kept in map pixels
unfoldable pub plan_of : List Step → Inputs → Limits → Plan
plan_of steps i l = record {
  evaluate = λ s. map_points (position_of i.query.window) (explore (board_of steps i) s);
  states = l.states;
  results = l.results;
}

-- begin's checks without 7 to 9, then 16
unfoldable pub step_checks : Inputs → Limits → Record → Work → Store → List (Option Said)
step_checks i l r work store = begin_checks i l work store ++ place_checks i ++ ask 16 (record_fits i r store l) ∷ []

unfoldable pub step_over : List Step → Inputs → Limits → Record → (n : ℕ) → Work → Store → After
step_over steps i l r n work store =
    elim (first (step_checks i l r work store)) [
      | some e ↦ record { answer = some e; rec = r; work = work; store = store }
      | none ↦
          let s : State = step (plan_of steps i l) n (state_of r store) in
          record {
            answer = none;
            rec = record_of (length i.places) s;
            work = cleared i.query.window work;
            store = store_of i l s store;
          }
    ]

unfoldable pub step_call : (table : List ℤ) → Inputs → Limits → Record → (n : ℕ) → Work → Store → After
step_call table i l r n work store =
    elim (table_fits table) [
      | false ↦ record { answer = some (refusal 19); rec = r; work = work; store = store }
      | true ↦ step_over (steps_of table) i l r n work store
    ]

-- ---- reading a layout
pub record ReadOut : Type 0 where
  pub answer : Option Said
  pub points : List ℕ

-- reading takes no working area and no table
unfoldable pub read_checks : Inputs → Limits → Record → (k : ℕ) → Store → List (Option Said)
read_checks i l r k store =
    group_checks i ++ limit_checks l ++ query_checks i (store_fits i l store) ++ place_checks i
    ++ ask 16 (record_fits i r store l) ∷ ask 17 (ltb k r.layouts) ∷ []

-- a layout's allowed route is handed back as that part of the points area, empty on refusal
unfoldable pub read_call : Inputs → Limits → Record → (k : ℕ) → Store → ReadOut
read_call i l r k store =
    elim (first (read_checks i l r k store))
    [ some e ↦ record { answer = some e; points = [] } | none ↦ record { answer = none; points = points_of r store.points k } ]

-- ---- judging a selection
pub data Judgement : Type 0 where
  refuses : Said → Judgement
  judges : Verdict → (ground : ℕ) → Judgement

-- the number and values for each answer of the code
unfoldable pub judgement_of : Result Judged Refusal → Judgement
judgement_of (Ok j) = judges j.verdict j.ground
judgement_of (Err r) = refuses (said_of r)

pub record AfterJudge : Type 0 where
  pub answer : Judgement
  pub work : Work

-- 17 unless the selection is strictly ascending, names placements and has at most 6
unfoldable pub selection_fits : ℕ → List ℕ → Bool
selection_fits places s = ascends s && all_of (λ (k : ℕ). ltb k places) s && leb (length s) 6

-- judging takes no limits, lists, visited, layouts or points and leaves out 11 and 12
unfoldable pub judge_checks : Inputs → List ℕ → Work → List (Option Said)
judge_checks i s work =
    group_checks i ++ query_checks i (work_fits i.query.window work) ++ place_checks i ++ ask 17 (selection_fits (length i.places) s) ∷ []

unfoldable pub judge_over : List Step → Inputs → List ℕ → Work → AfterJudge
judge_over steps i s work =
    elim (first (judge_checks i s work)) [
      | some e ↦ record { answer = refuses e; work = work }
      | none ↦ record { answer = judges (verdict (board_of steps i) s) (ground_left (board_of steps i) s); work = cleared i.query.window work }
    ]

unfoldable pub judge_call : (table : List ℤ) → Inputs → List ℕ → Work → AfterJudge
judge_call table i s work =
    elim (table_fits table) [
      | false ↦ record { answer = refuses (refusal 19); work = work }
      | true ↦ judge_over (steps_of table) i s work
    ]
