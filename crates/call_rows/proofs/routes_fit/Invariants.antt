-- `call_rows::routes_fit` meets its contract: what the routes left come to, with the sum in hand, is what all come to.
use mathlib.Core.Path.{◌≡◌}
use Prim.Native.Nat.{◌*◌, ◌≤◌}
use lib.ListN.{drop}
use Rattle.call_rows.specs.Figures.{routes_pass}
use Rattle.call_rows.proofs.Tests.{adds}
use Rattle.call_rows.proofs.routes_fit.Given as goal

abbrev pub invariant-loop-points : goal.invariant-loop-points
invariant-loop-points l = record {
  low : l.sum ≤ 1048576 * l.points-index;
  is : adds l.cap l.sum (drop l.points-index l.routes) ≡ routes_pass l.cap l.routes;
}
