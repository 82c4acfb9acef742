-- `set_pass::lets_pass` meets its contract: there is a route where it has points, and the route is wiped.
use mathlib.Core.Path.{◌∙◌}
use Rattle.ground_rects.specs.Windows.{centres}
use Rattle.set_pass.proofs.Passing.{wiped}
use Rattle.set_pass.proofs.Routed.{laid_by, shut_is, shut_kept, free_is}
use Rattle.set_pass.proofs.lets_pass.Goals as goal

pub returns-in_default-clause-value : goal.returns-in_default-clause-value
returns-in_default-clause-value c = shut_is (laid_by c.route_past.ensures.routed) c.in_default.is

pub returns-in_default-clause-areas_kept : goal.returns-in_default-clause-areas_kept
returns-in_default-clause-areas_kept c =
    let t = c.route_past.ensures in
    record {
      queue_kept = t.search_restored.queue_same;
      predecessors_kept = t.search_restored.predecessors_same;
      route_kept = shut_kept (laid_by t.routed) c.in_default.is;
    }

pub clear-requires : goal.clear-requires
clear-requires c =
    let t = c.route_past.ensures in
    (wiped (laid_by t.routed) (centres c.args.ground.now.window) c.in-Some.n c.requires.route_lent.route_clear c.in-Some.is t.route_length).room

pub returns-clause-value : goal.returns-clause-value
returns-clause-value c = free_is (laid_by c.route_past.ensures.routed) c.in-Some.n c.in-Some.is

pub returns-clause-areas_kept : goal.returns-clause-areas_kept
returns-clause-areas_kept c =
    let t = c.route_past.ensures in
    let w = wiped (laid_by t.routed) (centres c.args.ground.now.window) c.in-Some.n c.requires.route_lent.route_clear c.in-Some.is t.route_length in
    record { queue_kept = t.search_restored.queue_same; predecessors_kept = t.search_restored.predecessors_same; route_kept = c.clear.ensures ∙ w.clear }
