-- The theorem of specs/AlikeOn: preparing and judging tell what the calls leave, and beginning does once its own checks pass, which look at the table for 19 alone.
use Prim.Native.Nat.{ℕ}
use mathlib.Core.Path.{◌≡◌, ap}
use mathlib.Core.Bool.{true}
use mathlib.Core.Option.{Option, none, some}
use mathlib.Core.List.{List, ◌∷◌}
use lib.IntN.{ℤ}
use Rattle.base_model.specs.Answers.{Said, ask, first}
use Rattle.base_model.proofs.Asking.{first_holds}
use Rattle.base_model.specs.declared.Limits.{Limits}
use Rattle.rule_routes.specs.Edges.{table_fits}
use Rattle.rule_layouts.specs.Inputs.{Inputs}
use Rattle.rule_calls.specs.Areas.{Work, Store}
use Rattle.rule_calls.specs.Calls.{Prepared, After, AfterJudge}
use Rattle.call_read.specs.Told.{number_in}
use Rattle.promise.proofs.Alike.{alike}
use Rattle.walls_numbers.specs.Numbers.{judged_answer, judged_index, judged_verdict, judged_ground}
use Rattle.walls_numbers.specs.Left.{begin_checks_on, left_by, prepare_on, begin_on, judge_on}
use Rattle.promise_c.specs.AlikeOn.{AlikeByOn}

module _ (a b : List ℤ) (f : table_fits a ≡ true) (g : table_fits b ≡ true) where
  begun : (i : Inputs) (l : Limits) (ns : List ℕ) (work : Work) (store : Store) → begin_on a i l ns work store ≡ begin_on b i l ns work store
  unfolding begin_on
  begun i l ns work store = go (first (begin_checks_on i l ns work store)) (first_holds 19 (table_fits a) _ f) (first_holds 19 (table_fits b) _ g)
    where
      go : (o : Option Said) → first (ask 19 (table_fits a) ∷ begin_checks_on i l ns work store) ≡ o → first (ask 19 (table_fits b) ∷ begin_checks_on i l ns work store) ≡ o
          → begin_on a i l ns work store ≡ begin_on b i l ns work store
      go (some x) p q = rw (begin_on, p, q)
      go none p q = rw (begin_on, p, q) (ap (λ (o : After). left_by o ns) ((alike a b f g).begin i l work store))

  -- whatever the order of the steps (RULES 14.5)
  pub alike_on : AlikeByOn a b
  unfolding prepare_on judge_on
  alike_on = record {
    prepare = λ q baseline work. ap (λ (o : Prepared). record { answer = number_in o.answer; baseline = o.baseline; work = o.work }) ((alike a b f g).prepare q baseline work);
    begin = begun;
    judge = λ i s work.
        ap (λ (o : AfterJudge). record {
          answer = judged_answer o.answer;
          index = judged_index o.answer;
          verdict = judged_verdict o.answer;
          ground = judged_ground o.answer;
          work = o.work;
        }) ((alike a b f g).judge i s work);
  }
