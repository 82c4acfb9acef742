-- Of a count in a baseline every call sees one thing: whether it is zero (RULES 12.7).
use Rattle.std.specs.Prelude.{ℕ, zero, suc, ◌≡◌, List, map, ℤ}
use Rattle.base_model.specs.declared.Limits.{Limits}
use Rattle.base_model.specs.declared.Record.{Record}
use Rattle.rule_layouts.specs.Inputs.{Inputs}
use Rattle.rule_calls.specs.Areas.{Work, Store}
use Rattle.rule_calls.specs.Calls.{begin_call, step_call, read_call, judge_call}

-- every nonzero count as 1
unfoldable pub count_bit : ℕ → ℕ
count_bit zero = 0
count_bit (suc n) = 1

unfoldable pub as_bits : List ℕ → List ℕ
as_bits counts = map count_bit counts

-- the same over other baselines
unfoldable pub with_bases : Inputs → (block allow : List ℕ) → Inputs
with_bases i block allow = record { query = i.query; groups = i.groups; places = i.places; block_base = block; allow_base = allow }

-- the same over its baselines' 0 and 1
unfoldable pub on_bits : Inputs → Inputs
on_bits i = with_bases i (as_bits i.block_base) (as_bits i.allow_base)

-- Whatever is lent and handed on, a call over the one answers and leaves exactly what it does over the other: answer, record, areas, points, verdict and ground.
pub record SameCalls (table : List ℤ) (i j : Inputs) : Type 0 where
  pub begin : (l : Limits) (work : Work) (store : Store) → begin_call table i l work store ≡ begin_call table j l work store
  pub step : (l : Limits) (r : Record) (n : ℕ) (work : Work) (store : Store) → step_call table i l r n work store ≡ step_call table j l r n work store
  pub read : (l : Limits) (r : Record) (k : ℕ) (store : Store) → read_call i l r k store ≡ read_call j l r k store
  pub judge : (s : List ℕ) (work : Work) → judge_call table i s work ≡ judge_call table j s work

-- a search over counts is the search over their 0 and 1
unfoldable pub CountsAsBits : Type 0
CountsAsBits = (table : List ℤ) (i : Inputs) → SameCalls table (on_bits i) i

-- so it is with any two baselines for each mover that are as long and zero at the same places
unfoldable pub SameZeros : Type 0
SameZeros =
    (table : List ℤ) (i : Inputs) (block block' allow allow' : List ℕ) → as_bits block ≡ as_bits block' → as_bits allow ≡ as_bits allow'
    → SameCalls table (with_bases i block allow) (with_bases i block' allow')
