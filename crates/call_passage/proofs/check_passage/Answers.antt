-- `call_passage::check_passage` meets its contract: each return rewrites the three checks with the tests that led there; a route that was laid is cleared again.
use mathlib.Core.Path.{refl}
use native.Mathlib.Omega.{arith}
use Rattle.std.proofs.lemmas.Grind.{common_steps}
use Rattle.base_model.specs.Answers.{reply_of, said_of, ask, first}
use Rattle.ground_rects.proofs.Windows.{framed}
use Rattle.rule_routes.specs.Edges.{steps_of}
use Rattle.route_find.specs.Ground.{open_in}
use Rattle.call_passage.specs.Passages.{passage_over}
use Rattle.call_passage.proofs.Passing.{grid_whole, route_ready, passes_not, passes, route_room, route_restored}
use Rattle.call_passage.proofs.check_passage.Goals as goal

pub returns-then-base-from-ne0-clause-result_value : goal.returns-then-base-from-ne0-clause-result_value
unfolding passage_over ask first open_in reply_of said_of
returns-then-base-from-ne0-clause-result_value c = grind (arith, common_steps, c.centre_at-from.ensures)

pub returns-then-base-to-ne0-clause-result_value : goal.returns-then-base-to-ne0-clause-result_value
unfolding passage_over ask first open_in reply_of said_of
returns-then-base-to-ne0-clause-result_value c = grind (arith, common_steps, c.centre_at-from.ensures, c.centre_at-to.ensures)

pub width-requires : goal.width-requires
width-requires c = (framed 8192 8192 c.args.window c.requires.window).filled

pub height-requires : goal.height-requires
height-requires c = (framed 8192 8192 c.args.window c.requires.window).filled

pub invariant_of-grid : goal.invariant_of-grid
invariant_of-grid c = record {
  whole = grid_whole (steps_of c.args.steps.now) c.requires c.width.result c.height.result c.centre_at-from.result c.centre_at-to.result
      c.width.ensures.0 c.height.ensures.0 c.centre_at-from.ensures.0 c.centre_at-to.ensures.0;
}

pub route-requires : goal.route-requires
route-requires c = record {
  lent_all = route_ready (steps_of c.args.steps.now) c.requires c.width.result c.height.result c.centre_at-from.result c.centre_at-to.result
      c.width.ensures.0 c.height.ensures.0 c.centre_at-from.ensures.0 c.centre_at-to.ensures.0;
}

pub returns-in_default-clause-result_value : goal.returns-in_default-clause-result_value
unfolding reply_of said_of
returns-in_default-clause-result_value c =
    (passes_not (steps_of c.args.steps.now) c.requires c.width.result c.height.result c.centre_at-from.result c.centre_at-to.result
    c.width.ensures.0 c.height.ensures.0 c.centre_at-from.ensures.0 c.centre_at-to.ensures.0 c.route.ensures.routed c.if-base-from-ne0.false c.if-base-to-ne0.false c.in_default.is).0

pub returns-in_default-clause-work_unchanged : goal.returns-in_default-clause-work_unchanged
returns-in_default-clause-work_unchanged c =
    let same = (passes_not (steps_of c.args.steps.now) c.requires c.width.result c.height.result c.centre_at-from.result c.centre_at-to.result
    c.width.ensures.0 c.height.ensures.0 c.centre_at-from.ensures.0 c.centre_at-to.ensures.0 c.route.ensures.routed c.if-base-from-ne0.false c.if-base-to-ne0.false c.in_default.is).1 in
    rw (c.route.ensures.search_restored.queue_same, c.route.ensures.search_restored.predecessors_same, same) refl

pub clear-requires : goal.clear-requires
clear-requires c =
    route_room (steps_of c.args.steps.now) c.requires c.width.result c.height.result c.centre_at-from.result c.centre_at-to.result
    c.width.ensures.0 c.height.ensures.0 c.centre_at-from.ensures.0 c.centre_at-to.ensures.0 c.route.ensures.routed c.if-base-from-ne0.false c.if-base-to-ne0.false c.in-Some.is

pub returns-clause-result_value : goal.returns-clause-result_value
unfolding reply_of
returns-clause-result_value c =
    passes (steps_of c.args.steps.now) c.requires c.width.result c.height.result c.centre_at-from.result c.centre_at-to.result
    c.width.ensures.0 c.height.ensures.0 c.centre_at-from.ensures.0 c.centre_at-to.ensures.0 c.route.ensures.routed c.if-base-from-ne0.false c.if-base-to-ne0.false c.in-Some.is

pub returns-clause-work_unchanged : goal.returns-clause-work_unchanged
returns-clause-work_unchanged c =
    let same = route_restored (steps_of c.args.steps.now) c.requires c.width.result c.height.result c.centre_at-from.result c.centre_at-to.result
    c.width.ensures.0 c.height.ensures.0 c.centre_at-from.ensures.0 c.centre_at-to.ensures.0 c.route.ensures.routed c.if-base-from-ne0.false c.if-base-to-ne0.false c.in-Some.is in
    rw (c.route.ensures.search_restored.queue_same, c.route.ensures.search_restored.predecessors_same, c.clear.ensures, same) refl
