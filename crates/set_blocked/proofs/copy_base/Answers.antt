-- The answers to the goals of `set_blocked::copy_base`.
use mathlib.Core.Path.{◌≡◌, refl, ◌∙◌}
use mathlib.Core.Bool.{Bool, true, false, not}
use native.Mathlib.Omega.{arith}
use mir.Val.{bool_byte}
use lib.Dec.{eqb}
use lib.ListN.{length, get_or}
use Rattle.base_laws.proofs.Fill.{filling_none, filling_more, filling_all}
use Rattle.set_blocked.specs.Blocked.{bit}
use Rattle.set_blocked.proofs.copy_base.Invariants.{marked}
use Rattle.set_blocked.proofs.copy_base.Goals as goal

byte_is : (b : Bool) → bool_byte b ≡ bit b
unfolding bit
byte_is true = refl
byte_is false = refl

pub loop-i-init : goal.loop-i-init
loop-i-init c = filling_none (marked c.args.base.now) (length c.args.map.now) c.args.map.now (omega arith)

pub loop-i-preserved : goal.loop-i-preserved
loop-i-preserved c =
    let a = c.args in
    filling_more (marked a.base.now) (length a.map.now) a.map.now (omega arith) c.loop-i.map c.loop-i.i c.from.result
    (omega arith) (c.from.ensures ∙ byte_is (not (eqb (get_or a.base.now c.loop-i.i 0) 0))) c.loop-i.invariant

pub returns : goal.returns
returns c =
    let a = c.args in
    filling_all (marked a.base.now) (length a.map.now) a.map.now (omega arith) c.loop-i.map c.loop-i.i (omega arith) c.loop-i.invariant
