-- `set_pass::route_past` meets its contract: the map is that of the set, and the route over the map is the route past the set.
use mathlib.Core.Path.{◌≡◌, ap, ◌∙◌, subst}
use mathlib.Core.Option.{Option}
use mathlib.Core.List.{List}
use Prim.Native.Nat.{ℕ, ◌*◌}
use native.Mathlib.Omega.{arith}
use lib.ListN.{length}
use Rattle.base_laws.proofs.Stores.{all_length, all_front}
use Rattle.ground_rects.specs.Windows.{width, height, centres}
use Rattle.rule_routes.specs.Edges.{steps_of}
use Rattle.set_blocked.specs.Blocked.{left_by}
use Rattle.set_blocked.proofs.Members.{length_blocked}
use Rattle.route_find.specs.Results.{Routed}
use Rattle.set_pass.specs.Lent.{mover_at}
use Rattle.set_pass.proofs.Passing.{past_is}
use Rattle.set_pass.proofs.route_past.Goals as goal

pub invariant_of-grid : goal.invariant_of-grid
unfolding centres
invariant_of-grid c =
    let w = c.args.ground.now.window in
    let e : c.width.result * c.height.result ≡ width w * height w = rw (c.width.ensures.0, c.height.ensures.0) in
    let size = ap (λ (l : List ℕ). length l) c.blocked_for.ensures ∙ length_blocked _ (centres w) _ in
    record { whole = record { bytes = omega arith; small = omega (arith, c.requires.route_lent.few) } }

pub route-requires : goal.route-requires
unfolding centres
route-requires c =
    let l = c.requires.route_lent in
    let w = c.args.ground.now.window in
    let e : c.width.result * c.height.result ≡ width w * height w = rw (c.width.ensures.0, c.height.ensures.0) in
    let room = all_length 0 (centres w) l.route_clear in
    rw e (record {
      lent_all = record {
        working = record { queue_clear = all_front 0 (centres w) l.queue_clear; predecessors_clear = all_front 0 (centres w) l.predecessors_clear; start_below = l.start_below };
        end_below = l.end_below;
        route_room = omega arith;
      };
    })

pub returns-clause-routed : goal.returns-clause-routed
returns-clause-routed c =
    let g = c.args.ground.now in
    let l = c.requires.route_lent in
    subst (λ (o : Option (List ℕ)). Routed o c.args.areas.now.route.now c.route.new.route c.route.result)
    (past_is g.window (steps_of g.steps.now) g.start g.end (mover_at g c.args.mover.now) (left_by c.args.lifted c.args.set.now)
    c.blocked_for.new.map c.width.result c.height.result c.width.ensures.0 c.height.ensures.0 c.blocked_for.ensures l.start_below l.end_below)
    c.route.ensures.routed
