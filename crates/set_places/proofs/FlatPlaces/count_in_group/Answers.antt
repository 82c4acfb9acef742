-- `set_places::FlatPlaces::count_in_group` meets its contract: a member adds one where it is of the group, and none is left at the end.
use mathlib.Core.Path.{◌≡◌, ap, ◌∙◌}
use Prim.Native.Nat.{ℕ, ◌+◌, ◌*◌}
use native.Mathlib.Omega.{arith}
use lib.Dec.{eqb}
use lib.ListN.{get_or}
use mir.Val.{bool_byte}
use Rattle.set_places.proofs.Members.{group_none, group_more, at_most_one}
use Rattle.set_places.proofs.FlatPlaces.count_in_group.Goals as goal

pub loop-m-init : goal.loop-m-init
loop-m-init c = record { low = omega arith; is = omega arith }

pub loop-m-preserved : goal.loop-m-preserved
loop-m-preserved c =
    let a = c.args in
    let i = c.loop-m.m-index in
    let b = eqb (get_or a.self.now.numbers.now (4 * get_or a.set.now i 0 + 1) 0) a.group in
    let e : c.from-count.result ≡ bool_byte b = c.from-count.ensures ∙ ap (λ (x : ℕ). bool_byte (eqb x a.group)) c.group.ensures in
    record {
      low = omega (arith, c.loop-m.invariant.low, e, at_most_one b);
      is = omega (arith, c.loop-m.invariant.is, e, group_more a.self.now.numbers.now a.set.now a.group i c.loop-m-test.true);
    }

pub returns : goal.returns
returns c =
    let a = c.args in
    let i = c.loop-m.m-index in
    omega (arith, c.loop-m.invariant.is, group_none a.self.now.numbers.now a.set.now a.group i c.loop-m-test.false)
