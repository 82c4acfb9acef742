-- The answers to the goals of `route_step::expand`.
use mathlib.Core.Path.{◌≡◌}
use native.Mathlib.Omega.{arith}
use Prim.Native.Nat.{◌+◌, ◌*◌}
use lib.IntN.{pos}
use lib.ListN.{get_or}
use mir.Syntax.{w32}
use Rattle.base_laws.proofs.Ints.{back}
use Rattle.route_table.proofs.Pairs.{pair_at}
use Rattle.route_step.proofs.Steps.{neighbours_lead}
use Rattle.route_step.proofs.Expanding.{expanding_next, expanding_last}
use borrow.Author.Rules.{rules}
use Rattle.route_step.proofs.expand.Goals as goal

pub loop-dx-preserved : goal.loop-dx-preserved
loop-dx-preserved c =
    let steps = c.args.steps.now in
    let k = c.loop-dx.dx-index in
    let p = pair_at _ _ k c.as_chunks.ensures.front c.as_chunks.ensures.front_len c.loop-dx-test.true in
    let next : 2 * (k + 1) ≡ 2 * k + 2 = omega arith in
    rw next (expanding_next _ _ _ _ _ _ _ _ _ _ c.loop-dx.invariant p.within _
    (rw (p.first, p.second, back w32 (get_or steps (2 * k) (pos 0)) (search rules), back w32 (get_or steps (2 * k + 1) (pos 0)) (search rules)) at c.enter-t.ensures))

pub returns : goal.returns
returns c =
    rw (neighbours_lead _ _ _ _ _)
    (expanding_last _ _ _ _ _ _ _ _ _ _ c.loop-dx.invariant (omega (arith, c.loop-dx-test.false, c.as_chunks.ensures.front_len)))
