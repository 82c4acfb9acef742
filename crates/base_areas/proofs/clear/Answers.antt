-- The answers to the goals of `base_areas::clear`.
use mathlib.Core.Path.{◌≡◌, refl, ap, ◌∙◌}
use mathlib.Core.List.{List, ◌++◌}
use Prim.Native.Nat.{ℕ}
use native.Mathlib.Omega.{arith}
use lib.ListN.{length, take, drop, replicate}
use lib.Seq.{length-take-le, drop-length}
use Rattle.std.proofs.Common.{append-nil}
use Rattle.base_laws.proofs.Fill.{filling_none, filling_more, filling_all, filled_const}
use Rattle.base_areas.proofs.clear.Goals as goal

pub loop-x-init : goal.loop-x-init
loop-x-init g c =
    let items = take c.args.n c.args.s.now in
    filling_none (λ (j : ℕ). c.args.zero) (length items) items (omega arith)

pub loop-x-preserved : goal.loop-x-preserved
loop-x-preserved g c =
    let items = take c.args.n c.args.s.now in
    filling_more (λ (j : ℕ). c.args.zero) (length items) items (omega arith) c.loop-x.x-items c.loop-x.x-index c.args.zero c.loop-x-test.true refl
    c.loop-x.invariant

pub returns : goal.returns
returns g c =
    let s = c.args.s.now in
    let n = c.args.n in
    let items = take n s in
    let l : length items ≡ n = length-take-le n s c.requires in
    ap (λ (v : List _). v ++ drop n s)
    (filling_all (λ (j : ℕ). c.args.zero) (length items) items (omega arith) c.loop-x.x-items c.loop-x.x-index c.loop-x-test.false c.loop-x.invariant
    ∙ filled_const c.args.zero (length items) items
    ∙ ap (λ (v : List _). replicate (length items) c.args.zero ++ v) (drop-length items)
    ∙ append-nil (replicate (length items) c.args.zero)
    ∙ ap (λ (k : ℕ). replicate k c.args.zero) l)
