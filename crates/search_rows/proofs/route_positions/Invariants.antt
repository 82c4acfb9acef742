-- `search_rows::route_positions` meets its contract: the points of the centres passed are stored.
use Prim.Native.Nat.{◌*◌}
use Rattle.search_rows.proofs.Points.{PointsLaid}
use Rattle.search_rows.proofs.route_positions.Given as goal

abbrev pub invariant-loop-i : goal.invariant-loop-i
invariant-loop-i l = PointsLaid l.window l.route l.at l.initial.points l.points (2 * l.i)
