-- Of a count in a baseline the C functions too see one thing: whether it is zero (RULES 7.10, 12.7). The claim of promise_counts/specs/Counts where every value is a number.
use Rattle.std.specs.Prelude.{ℕ, ◌≡◌, List, ℤ}
use Rattle.base_model.specs.declared.Limits.{Limits}
use Rattle.rule_layouts.specs.Inputs.{Inputs}
use Rattle.rule_calls.specs.Areas.{Work, Store}
use Rattle.promise_counts.specs.Counts.{on_bits}
use Rattle.walls_numbers.specs.Left.{begin_on, step_on, read_on, judge_on}

-- whatever is lent and handed on, a C function over the one leaves exactly what it does over the other
pub record SameCallsOn (table : List ℤ) (i j : Inputs) : Type 0 where
  pub begin : (l : Limits) (ns : List ℕ) (work : Work) (store : Store) → begin_on table i l ns work store ≡ begin_on table j l ns work store
  pub step : (l : Limits) (ns : List ℕ) (n : ℕ) (work : Work) (store : Store) → step_on table i l ns n work store ≡ step_on table j l ns n work store
  pub read : (l : Limits) (ns : List ℕ) (k : ℕ) (store : Store) → read_on i l ns k store ≡ read_on j l ns k store
  pub judge : (s : List ℕ) (work : Work) → judge_on table i s work ≡ judge_on table j s work

-- a search over counts is the search over their 0 and 1
unfoldable pub CountsAsBitsOn : Type 0
CountsAsBitsOn = (table : List ℤ) (i : Inputs) → SameCallsOn table (on_bits i) i
