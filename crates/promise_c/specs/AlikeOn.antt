-- What the order of steps leaves alone besides the walls (RULES 14.5), over the C functions (RULES 7.10): the claim of promise/specs/Alike where every value is a number.
use Rattle.std.specs.Prelude.{ℕ, ◌≡◌, List, ℤ}
use Rattle.base_model.specs.declared.Limits.{Limits}
use Rattle.rule_layouts.specs.Inputs.{Inputs}
use Rattle.rule_calls.specs.Areas.{Work, Store}
use Rattle.rule_calls.specs.Calls.{Preparation}
use Rattle.walls_numbers.specs.Left.{prepare_on, begin_on, judge_on}

pub record AlikeByOn (a b : List ℤ) : Type 0 where
  pub prepare : (q : Preparation) (baseline : List ℕ) (work : Work) → prepare_on a q baseline work ≡ prepare_on b q baseline work
  pub begin : (i : Inputs) (l : Limits) (ns : List ℕ) (work : Work) (store : Store) → begin_on a i l ns work store ≡ begin_on b i l ns work store
  pub judge : (i : Inputs) (s : List ℕ) (work : Work) → judge_on a i s work ≡ judge_on b i s work
