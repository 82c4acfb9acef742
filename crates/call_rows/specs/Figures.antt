-- Words of the contracts: what 16 asks of a record's numbers and of its kept routes.
use Rattle.std.specs.Prelude.{ℕ, Bool, ◌&&◌, List, leb, eqb}
use Rattle.base_laws.specs.Lists.{all_of, total}
use Rattle.std.specs.Prelude.{None, Some}
use Rattle.base_model.specs.declared.Limits.{Limits}
use Rattle.base_model.specs.declared.Query.{Query}
use Rattle.base_model.specs.declared.Record.{Record}
use Rattle.ground_rects.specs.Windows.{centres}
use Rattle.rule_calls.specs.RecordCheck.{layouts_fit}

unfoldable pub figures_fit : Limits → ℕ → Record → Bool
figures_fit l n r = leb 1 r.reason && leb r.reason 4 && eqb r.placements n && leb r.evaluations l.states && layouts_fit l r

-- the most points that a kept route may have
unfoldable pub cap_of : Query → ℕ
cap_of q = elim q.allow [ None ↦ 0 | Some m ↦ centres q.window ]

unfoldable pub routes_pass : ℕ → List ℕ → Bool
routes_pass cap xs = all_of (λ (n : ℕ). leb n cap) xs && leb (total xs) 1000000
