-- The working areas around the portions of a step, and what a step that is accepted leaves.
use Rattle.std.specs.Prelude.{ℕ, ◌≡◌, List, take, replicate}
use Rattle.std.proofs.Math.Option.{none}
use Rattle.base_model.specs.declared.Record.{Record}
use Rattle.rule_calls.specs.Areas.{Work, Store}
use Rattle.rule_calls.specs.Calls.{After}

abbrev pub accepted : Record → Work → Store → After
accepted r work store = record { answer = none; rec = r; work = work; store = store }

-- the first c entries are zero
pub record WorkClear (c : ℕ) (map queue predecessors route : List ℕ) : Type 0 where
  pub map_clear : take c map ≡ replicate c 0
  pub queue_clear : take c queue ≡ replicate c 0
  pub predecessors_clear : take c predecessors ≡ replicate c 0
  pub route_clear : take c route ≡ replicate c 0
