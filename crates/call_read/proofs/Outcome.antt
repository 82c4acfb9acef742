-- Where a reading is accepted, the layout's points stand in the points area.
use Prim.Native.Nat.{ℕ}
use mathlib.Core.Path.{◌≡◌}
use mathlib.Core.Option.{none}
use Rattle.base_model.specs.Answers.{first}
use Rattle.base_model.specs.declared.Limits.{Limits}
use Rattle.base_model.specs.declared.Record.{Record}
use Rattle.rule_layouts.specs.Inputs.{Inputs}
use Rattle.rule_calls.specs.Areas.{Store}
use Rattle.rule_calls.specs.Calls.{read_checks}
use Rattle.rule_calls.proofs.Reading.{read_named, read_few, read_inside}
use Rattle.call_read.specs.Told.{PartInside}

pub stands_kept : (i : Inputs) (l : Limits) (r : Record) (k : ℕ) (a : Store) → first (read_checks i l r k a) ≡ none → PartInside r k a.points
stands_kept i l r k a e = record { named = read_named i l r k a e; inside = read_inside i l r k a e; few = read_few i l r k a e }
