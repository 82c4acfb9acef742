-- The answers to the goals of `search_rows::route_positions`.
use mathlib.Core.Path.{◌∙◌}
use native.Mathlib.Omega.{arith}
use Rattle.base_laws.proofs.Fill.{filling_from_none, filling_from_all, filled_with}
use Rattle.search_rows.proofs.Points.{length_points, points_next}
use Rattle.search_rows.proofs.route_positions.Goals as goal

pub loop-i-init : goal.loop-i-init
loop-i-init c = filling_from_none _ _ _ _ (omega arith)

pub loop-i-preserved : goal.loop-i-preserved
loop-i-preserved c =
    points_next _ _ _ _ _ c.loop-i.i c.position_of-p.result c.position_of-p.ensures c.requires.n_in_bounds c.loop-i-test.true c.loop-i.invariant

pub returns : goal.returns
returns c =
    filling_from_all _ _ _ _ c.requires.n_in_bounds _ _ (omega arith) c.loop-i.invariant
    ∙ filled_with _ 0 _ _ _ (length_points c.args.window c.args.route.now)
