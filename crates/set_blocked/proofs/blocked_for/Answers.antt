-- The answers to the goals of `set_blocked::blocked_for`.
use mathlib.Core.Path.{sym, ap, ◌∙◌}
use mathlib.Core.List.{List}
use Prim.Native.Nat.{ℕ}
use native.Mathlib.Numerals.{add-one}
use native.Mathlib.Omega.{arith}
use lib.ListN.{get_or, take}
use Rattle.base_laws.proofs.Members.{get_d_member}
use Rattle.ground_rects.specs.Windows.{centres}
use Rattle.set_blocked.specs.Blocked.{blocked_map, mover_on, left_by}
use Rattle.set_blocked.proofs.Without.{left_none, left_skip, left_more}
use Rattle.set_blocked.proofs.Members.{blocked_none, blocked_more}
use Rattle.set_blocked.proofs.blocked_for.Goals as goal

pub loop-k-init : goal.loop-k-init
loop-k-init c =
    let a = c.args in
    let e = c.requires.ground.bytes in
    let m = mover_on a.window a.places.now.edges.now a.mover.now in
    rw e at c.copy_base.ensures
    ∙ blocked_none a.window a.places.now.edges.now a.mover.now.bounds a.mover.now.base.now (centres a.window) a.map.now e
    ∙ ap (λ (s : List ℕ). blocked_map m (centres a.window) s) (sym (left_none a.lifted))

pub loop-k-preserved-then-eq : goal.loop-k-preserved-then-eq
loop-k-preserved-then-eq c =
    let a = c.args in
    let m = mover_on a.window a.places.now.edges.now a.mover.now in
    c.loop-k.invariant ∙ ap (λ (s : List ℕ). blocked_map m (centres a.window) s) (rw add-one (sym (left_skip a.lifted c.loop-k.k a.set.now (sym c.eq.ensures ∙ c.if-eq.true))))

pub collision-collision-requires : goal.collision-collision-requires
collision-collision-requires c =
    let s = c.args.set.now in
    let k = c.loop-k.k in
    omega (arith, c.requires.named.each (get_or s k 0) (get_d_member s k 0 c.loop-k-test.true))

pub loop-k-preserved : goal.loop-k-preserved
loop-k-preserved c =
    let a = c.args in
    let s = a.set.now in
    let k = c.loop-k.k in
    let m = mover_on a.window a.places.now.edges.now a.mover.now in
    blocked_more a.window a.places.now.edges.now a.mover.now.bounds a.mover.now.base.now (left_by a.lifted (take k s)) (get_or s k 0)
    c.collision-collision.result c.loop-k.map c.stamp_collision_into.new.map c.collision-collision.ensures c.loop-k.invariant c.stamp_collision_into.ensures
    ∙ ap (λ (l : List ℕ). blocked_map m (centres a.window) l) (rw add-one (sym (left_more a.lifted k s (sym c.eq.ensures ∙ c.if-eq.false) c.loop-k-test.true)))
