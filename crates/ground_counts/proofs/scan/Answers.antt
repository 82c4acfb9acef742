-- The answers to the goals of `ground_counts::scan`.
use native.Mathlib.Omega.{arith}
use mir.Facts.{to_z-of_z}
use Rattle.ground_counts.proofs.scan.Invariants.{new, new_fits, turned}
use Rattle.ground_counts.proofs.scan.Goals as goal

pub loop-i-preserved : goal.loop-i-preserved
unfolding new
loop-i-preserved c =
    let t = turned c.args.v.now c.args.d c.args.n c.loop-i.v c.loop-i.i c.requires.0 c.loop-i-test.true c.requires.1.1.0 c.loop-i.invariant in
    let f = new_fits c.args.v.now c.args.d c.args.n c.loop-i.v c.loop-i.i c.requires.0 c.loop-i-test.true c.requires.1.1.0 c.loop-i.invariant c.requires.1.1.1 in
    grind (arith, to_z-of_z, t)
