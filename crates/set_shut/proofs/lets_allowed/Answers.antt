-- `set_shut::lets_allowed` meets its contract: the allowed mover passes where its route is laid, and the route is wiped.
use mathlib.Core.Path.{ap, ◌∙◌}
use mathlib.Core.List.{List}
use Prim.Native.Nat.{ℕ}
use lib.ListN.{length}
use Rattle.ground_rects.specs.Windows.{centres}
use Rattle.set_pass.specs.Lent.{allow_on}
use Rattle.set_pass.proofs.Allowing.{length_allowed}
use Rattle.set_pass.proofs.Passing.{wiped}
use Rattle.set_pass.proofs.Routed.{shut_is, shut_kept, free_is}
use Rattle.set_shut.proofs.lets_allowed.Goals as goal

pub returns-in_default-clause-value : goal.returns-in_default-clause-value
returns-in_default-clause-value c = shut_is c.allowed_route.ensures.allowed c.in_default.is

pub returns-in_default-clause-areas_kept : goal.returns-in_default-clause-areas_kept
returns-in_default-clause-areas_kept c =
    let t = c.allowed_route.ensures in
    record {
      queue_kept = t.search_restored.queue_same;
      predecessors_kept = t.search_restored.predecessors_same;
      route_kept = shut_kept t.allowed c.in_default.is;
    }

pub clear-requires : goal.clear-requires
clear-requires c =
    let t = c.allowed_route.ensures in
    (wiped t.allowed (centres c.args.ground.now.window) c.in-Some.n c.requires.route_lent.route_clear c.in-Some.is t.route_length).room

pub returns-clause-value : goal.returns-clause-value
returns-clause-value c = free_is c.allowed_route.ensures.allowed c.in-Some.n c.in-Some.is

pub returns-clause-areas_kept : goal.returns-clause-areas_kept
returns-clause-areas_kept c =
    let t = c.allowed_route.ensures in
    let w = wiped t.allowed (centres c.args.ground.now.window) c.in-Some.n c.requires.route_lent.route_clear c.in-Some.is t.route_length in
    record { queue_kept = t.search_restored.queue_same; predecessors_kept = t.search_restored.predecessors_same; route_kept = c.clear.ensures ∙ w.clear }

pub returns-in_default-clause-map_bytes : goal.returns-in_default-clause-map_bytes
returns-in_default-clause-map_bytes c =
    let g = c.args.ground.now in
    ap (λ (x : List ℕ). length x) c.allowed_route.ensures.map_after
    ∙ length_allowed g.window (allow_on g c.args.allow c.args.base.now) c.args.set.now c.args.areas.now.map.now c.requires.route_lent.bytes

pub returns-clause-map_bytes : goal.returns-clause-map_bytes
returns-clause-map_bytes c =
    let g = c.args.ground.now in
    ap (λ (x : List ℕ). length x) c.allowed_route.ensures.map_after
    ∙ length_allowed g.window (allow_on g c.args.allow c.args.base.now) c.args.set.now c.args.areas.now.map.now c.requires.route_lent.bytes
