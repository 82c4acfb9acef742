-- `route_table::original_steps` meets its contract: both sides compute to the same sixteen numbers.
use mathlib.Core.Path.{refl}
use Rattle.rule_routes.specs.Edges.{original_steps}
use Rattle.route_table.proofs.original_steps.Goals as goal

pub returns : goal.returns
unfolding original_steps
returns c = refl
