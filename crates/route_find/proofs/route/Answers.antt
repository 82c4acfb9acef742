-- `route_find::route` meets its contract: a blocked end gives none, the walks back give the definition's route, and the wiped areas are as before.
use mathlib.Core.Path.{refl, sym}
use native.Mathlib.Omega.{arith}
use Prim.Native.Nat.{ℕ}
use lib.Dec.{eqb}
use Rattle.route_find.proofs.Routing.{restored, blocked_start, blocked_end, routed_none, routed_some, leads_more}
use Rattle.route_find.proofs.route.Goals as goal
use Rattle.route_find.proofs.route.Goals.{then-not-is_open-via-then-not-is_open, then-not-is_open-via-else-not-is_open+then-not-is_open-2}

pub returns-then-not-is_open-clause-routed : goal.returns-then-not-is_open-clause-routed
returns-then-not-is_open-clause-routed c =
    elim c.then-not-is_open.branch [
      | then-not-is_open-via-then-not-is_open w ↦ blocked_start _ _ _ _ _ _ (sym w.if-not-is_open.ensures)
      | then-not-is_open-via-else-not-is_open+then-not-is_open-2 w ↦ blocked_end _ _ _ _ _ _ (sym w.if-not-is_open-2.ensures)
    ]

pub returns-in-Err : goal.returns-in-Err
returns-in-Err c = record {
  routed = routed_none _ _ _ _ _ _ (sym c.if-not-is_open.ensures) (sym c.if-not-is_open-2.ensures) _ _ _ _
      (c.in-Err.ensures.by_index (λ (v : ℕ). eqb v c.args.end) (λ v h. refl)) refl;
  search_restored = restored _ _ _ _ c.requires.lent_all.working _ _ _ c.in-Err.ensures.search_left c.search.auto.queue
      c.search.auto.predecessors _ _ c.wipe.ensures.queue_after c.wipe.ensures.predecessors_after;
}

pub count-n-requires : goal.count-n-requires
count-n-requires c =
    leads_more _ ((c.in-Ok.ensures.by_index (λ (v : ℕ). eqb v c.args.end) (λ v h. refl)).way c.args.end refl refl).0
    (let l = c.in-Ok.ensures.search_left.short in omega (arith, c.args.grid.now.whole.small))

pub lay-requires-clause-leads : goal.lay-requires-clause-leads
lay-requires-clause-leads c =
    leads_more _ ((c.in-Ok.ensures.by_index (λ (v : ℕ). eqb v c.args.end) (λ v h. refl)).way c.args.end refl refl).0
    (let l = c.in-Ok.ensures.search_left.short in omega (arith, c.requires.lent_all.route_room))

pub returns : goal.returns
returns c = record {
  routed = routed_some _ _ _ _ _ _ (sym c.if-not-is_open.ensures) (sym c.if-not-is_open-2.ensures) _ _ _ _
      (c.in-Ok.ensures.by_index (λ (v : ℕ). eqb v c.args.end) (λ v h. refl)) refl _ c.count-n.ensures _ c.lay.ensures;
  search_restored = restored _ _ _ _ c.requires.lent_all.working _ _ _ c.in-Ok.ensures.search_left c.search.auto.queue
      c.search.auto.predecessors _ _ c.wipe-2.ensures.queue_after c.wipe-2.ensures.predecessors_after;
}
