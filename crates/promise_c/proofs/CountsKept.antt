-- A C function over counts is the C function over their 0 and 1: its own checks look at a baseline's length alone, and behind them stands the call, for which this
-- is proved.
use Prim.Native.Nat.{ℕ}
use mathlib.Core.Path.{◌≡◌, refl, ap}
use mathlib.Core.Option.{Option}
use mathlib.Core.List.{List, ◌∷◌}
use lib.IntN.{ℤ}
use Rattle.base_model.specs.Answers.{Said, ask, first}
use Rattle.base_model.specs.declared.Limits.{Limits}
use Rattle.rule_routes.specs.Edges.{table_fits}
use Rattle.rule_layouts.specs.Inputs.{Inputs}
use Rattle.rule_calls.specs.Areas.{Work, Store, points_length, store_fits}
use Rattle.rule_calls.specs.Checks.{group_checks, place_checks}
use Rattle.rule_calls.specs.RecordCheck.{routes_fit, stood_on, list_fits, record_fits}
use Rattle.rule_calls.specs.Calls.{After, AfterJudge}
use Rattle.promise_counts.specs.Counts.{with_bases, on_bits, SameCalls, CountsAsBits}
use Rattle.promise_counts.proofs.SameCalls.{settled, query_same, counts_as_bits}
use Rattle.walls_numbers.specs.Numbers.{record_from, judged_answer, judged_index, judged_verdict, judged_ground}
use Rattle.walls_numbers.specs.Left.{
  LeftJudged,
  left_by,
  numbers_fit,
  begin_checks_on,
  begin_on,
  step_checks_on,
  step_on,
  read_checks_on,
  read_on,
  judge_on,
}
use Rattle.promise_c.specs.CountsOn.{CountsAsBitsOn}

module _ (table : List ℤ) (i : Inputs) where
  calls : SameCalls table (on_bits i) i
  unfolding CountsAsBits
  calls = counts_as_bits table i

  -- ---- the checks
  begin_asks : (l : Limits) (ns : List ℕ) (work : Work) (store : Store) → begin_checks_on (on_bits i) l ns work store ≡ begin_checks_on i l ns work store
  unfolding on_bits with_bases begin_checks_on group_checks store_fits points_length
  begin_asks l ns work store = rw (query_same i)

  step_asks : (l : Limits) (ns : List ℕ) (work : Work) (store : Store) → step_checks_on (on_bits i) l ns work store ≡ step_checks_on i l ns work store
  unfolding on_bits with_bases step_checks_on place_checks numbers_fit record_fits routes_fit list_fits stood_on
  step_asks l ns work store = rw begin_asks

  read_asks : (l : Limits) (ns : List ℕ) (k : ℕ) (store : Store) → read_checks_on (on_bits i) l ns k store ≡ read_checks_on i l ns k store
  unfolding on_bits with_bases read_checks_on group_checks store_fits points_length place_checks numbers_fit record_fits routes_fit list_fits stood_on
  read_asks l ns k store = rw (query_same i)

  after_table : {cs ds : List (Option Said)} → cs ≡ ds → first (ask 19 (table_fits table) ∷ cs) ≡ first (ask 19 (table_fits table) ∷ ds)
  after_table e = ap (λ (cs : List (Option Said)). first (ask 19 (table_fits table) ∷ cs)) e

  -- ---- what is left
  begin_same : (l : Limits) (ns : List ℕ) (work : Work) (store : Store) → begin_on table (on_bits i) l ns work store ≡ begin_on table i l ns work store
  unfolding begin_on
  begin_same l ns work store =
      settled (after_table (begin_asks l ns work store)) (λ e. refl) (ap (λ (o : After). left_by o ns) (calls.begin l work store))

  step_same : (l : Limits) (ns : List ℕ) (n : ℕ) (work : Work) (store : Store) → step_on table (on_bits i) l ns n work store ≡ step_on table i l ns n work store
  unfolding step_on
  step_same l ns n work store =
      settled (after_table (step_asks l ns work store)) (λ e. refl) (ap (λ (o : After). left_by o ns) (calls.step l (record_from ns) n work store))

  read_same : (l : Limits) (ns : List ℕ) (k : ℕ) (store : Store) → read_on (on_bits i) l ns k store ≡ read_on i l ns k store
  unfolding read_on
  read_same l ns k store = rw read_asks

  judged_by : AfterJudge → LeftJudged
  judged_by o = record {
    answer = judged_answer o.answer;
    index = judged_index o.answer;
    verdict = judged_verdict o.answer;
    ground = judged_ground o.answer;
    work = o.work;
  }

  judge_same : (s : List ℕ) (work : Work) → judge_on table (on_bits i) s work ≡ judge_on table i s work
  unfolding judge_on judged_by
  judge_same s work = ap judged_by (calls.judge s work)

pub counts_as_bits_c : CountsAsBitsOn
unfolding CountsAsBitsOn
counts_as_bits_c table i = record { begin = begin_same table i; step = step_same table i; read = read_same table i; judge = judge_same table i }
