-- The answers to the goals of `ground_baseline::blocked_row`.
use mathlib.Core.Path.{◌≡◌, refl, ap, ◌∙◌}
use mathlib.Core.Bool.{Bool, true, false, ◌||◌}
use mathlib.Core.List.{[]}
use Prim.Native.Nat.{◌+◌, ◌*◌}
use native.Mathlib.Omega.{arith}
use lib.IntN.{pos}
use lib.Signed.{lt_z}
use lib.ListN.{get_or}
use mir.Val.{bool_byte}
use Rattle.std.proofs.lemmas.Int.{to_z-of_z}
use Rattle.ground_counts.specs.Counts.{bit}
use Rattle.ground_baseline.specs.Baseline.{off_edge}
use Rattle.ground_baseline.specs.Lent.{map_of}
use Rattle.ground_baseline.specs.Stamps.{blocked_at}
use Rattle.ground_baseline.proofs.blocked_row.Invariants.{turned, byte}
use Rattle.ground_baseline.proofs.blocked_row.Goals as goal

as_bit : (t : Bool) → bool_byte t ≡ bit t
as_bit true = refl
as_bit false = refl

pub loop-x-preserved : goal.loop-x-preserved
loop-x-preserved c =
    let a = c.args in
    let x = c.loop-x.x in
    let t = c.if-counts-from-gt0.blocked in
    let e : t ≡ (lt_z (pos 0) (get_or a.counts.now (a.y * (a.width + 1) + x) (pos 0)) || off_edge (map_of a.map.now) [] a.mover (pos (a.left + x)) (pos (a.top + a.y)))
    = grind (arith, to_z-of_z) in
    turned (blocked_at (map_of a.map.now) a.mover a.left a.top a.width a.counts.now) (a.y * a.width) a.width a.baseline.now c.loop-x.baseline x
    (bool_byte t) c.loop-x-test.true c.requires.baseline_room_lem
    (as_bit t ∙ ap bit e ∙ byte (map_of a.map.now) a.mover a.left a.top a.width a.counts.now a.y x c.loop-x-test.true) c.loop-x.invariant
