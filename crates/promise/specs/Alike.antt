-- What the order of steps leaves alone besides the walls (RULES 14.5): preparing, beginning and judging answer and leave the same by any two tables.
use Rattle.std.specs.Prelude.{ℕ, ◌≡◌, List, ℤ}
use Rattle.base_model.specs.declared.Limits.{Limits}
use Rattle.rule_layouts.specs.Inputs.{Inputs}
use Rattle.rule_calls.specs.Areas.{Work, Store}
use Rattle.rule_calls.specs.Calls.{Preparation, prepare_call, begin_call, judge_call}

pub record AlikeBy (a b : List ℤ) : Type 0 where
  pub prepare : (q : Preparation) (baseline : List ℕ) (work : Work) → prepare_call a q baseline work ≡ prepare_call b q baseline work
  pub begin : (i : Inputs) (l : Limits) (work : Work) (store : Store) → begin_call a i l work store ≡ begin_call b i l work store
  pub judge : (i : Inputs) (s : List ℕ) (work : Work) → judge_call a i s work ≡ judge_call b i s work
