-- `set_extend::spot_of` meets its contract: a centre's row starts as many centres before it as its column says.
use Prim.Native.Nat.{◌-◌, ◌*◌, ◌/◌, ◌%◌}
use mathlib.Core.Path.{◌≡◌}
use native.Mathlib.Nat.{div-add-mod'}
use native.Mathlib.Omega.{arith}
use Rattle.set_extend.specs.Spots.{spot_of}
use Rattle.set_extend.proofs.spot_of.Goals as goal

pub returns : goal.returns
unfolding spot_of
returns c =
    let v = c.args.v in
    let w = c.args.width in
    let e : v - v % w ≡ v / w * w = omega (arith, div-add-mod' v w) in
    rw e
