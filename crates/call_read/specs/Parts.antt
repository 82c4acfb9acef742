-- The checks of a reading in three parts: of the query, of what is lent, of the record.
use Rattle.std.specs.Prelude.{ℕ, Bool, List, [], ◌∷◌, ◌++◌, ltb}
use Rattle.std.proofs.Math.Option.{Option}
use Rattle.base_model.specs.Answers.{Said, ask}
use Rattle.base_model.specs.declared.Limits.{Limits}
use Rattle.base_model.specs.declared.Record.{Record}
use Rattle.rule_layouts.specs.Inputs.{Inputs}
use Rattle.rule_calls.specs.Areas.{Store}
use Rattle.rule_calls.specs.Checks.{group_checks, limit_checks, place_checks}
use Rattle.rule_calls.specs.RecordCheck.{record_fits}
use Rattle.call_checks.specs.Parts.{frame_checks, area_checks}

-- 10, 11, 12, 2, 3 and 4
unfoldable pub queried : Inputs → Limits → List (Option Said)
queried i l = group_checks i ++ limit_checks l ++ frame_checks i

-- 6, 14 and 15
unfoldable pub lent : Inputs → (long : Bool) → List (Option Said)
lent i long = area_checks i long ++ place_checks i

-- 16 and 17
unfoldable pub recorded : Inputs → Limits → Record → (k : ℕ) → Store → List (Option Said)
recorded i l r k a = ask 16 (record_fits i r a l) ∷ ask 17 (ltb k r.layouts) ∷ []
