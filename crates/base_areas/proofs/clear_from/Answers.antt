-- `base_areas::clear_from` meets its contract: the part from `at` on is lent to `clear`.
use mathlib.Core.Path.{◌∙◌, ap}
use mathlib.Core.List.{List, ◌++◌}
use Prim.Native.Nat.{◌-◌}
use native.Mathlib.Omega.{arith}
use lib.ListN.{length, take, drop, replicate, length-replicate}
use Rattle.base_laws.proofs.Stores.{over_lent}
use Rattle.base_areas.proofs.clear_from.Goals as goal

pub returns : goal.returns
returns g c =
    let a = c.args in
    let s = a.s.now in
    let p = c.requires in
    let k = length s - a.at in
    ap (λ (ys : List _). take a.at s ++ (ys ++ drop k (drop a.at s))) c.clear.ensures
    ∙ over_lent s a.at k a.n (replicate a.n a.zero) (length-replicate a.n a.zero) (omega arith) (omega arith)
