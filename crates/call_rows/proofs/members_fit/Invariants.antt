-- `call_rows::members_fit` meets its contract: what the members left come to, each at least `low`, is what all of them come to.
use Prim.Native.Nat.{ℕ}
use mathlib.Core.Path.{◌≡◌}
use mathlib.Core.Bool.{◌&&◌}
use lib.Dec.{ltb}
use lib.ListN.{drop}
use Rattle.base_laws.specs.Lists.{all_of, ascends}
use Rattle.call_rows.proofs.Tests.{climbs}
use Rattle.call_rows.proofs.members_fit.Given as goal

abbrev pub invariant-loop-x : goal.invariant-loop-x
invariant-loop-x l = climbs l.low l.n (drop l.x-index l.set) ≡ (ascends l.set && all_of (λ (i : ℕ). ltb i l.n) l.set)
