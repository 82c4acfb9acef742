-- `set_explore::explore` meets its contract: the board of the inputs is that of the rows, and the map is cleared.
use mathlib.Core.Path.{sym, subst}
use lib.ListN.{length}
use Rattle.base_laws.proofs.Stores.{all_length}
use Rattle.ground_rects.specs.Windows.{centres}
use Rattle.ground_rects.proofs.Windows.{framed}
use Rattle.rule_routes.specs.Edges.{steps_of}
use Rattle.rule_layouts.specs.Boards.{Board}
use Rattle.rule_layouts.specs.Explore as layouts
use Rattle.set_board.proofs.FlatBoard.{flat_board_lem}
use Rattle.set_explore.specs.Evaluation.{Evaluated}
use Rattle.set_explore.proofs.explore.Goals as goal

pub evaluate-explored-requires-clause-route_lent : goal.evaluate-explored-requires-clause-route_lent
evaluate-explored-requires-clause-route_lent c =
    let w = c.args.given.now.query.window in
    let b = c.requires.blank in
    let f = framed 8192 8192 w c.requires.ready.fits in record {
      some = f.filled;
      few = f.few;
      start_below = c.centre_at.ensures.1;
      end_below = c.centre_at-2.ensures.1;
      bytes = all_length 0 (centres w) b.map_clear;
      queue_clear = b.queue_clear;
      predecessors_clear = b.predecessors_clear;
      route_clear = b.route_clear;
    }

pub returns-clause-evaluated : goal.returns-clause-evaluated
returns-clause-evaluated c =
    let a = c.args in
    let g = a.given.now in
    let p = c.requires.ready in
    subst (λ (b : Board). Evaluated (layouts.explore b a.set.now) c.evaluate-explored.result a.list.now c.evaluate-explored.new.list
    a.areas.now.route.now c.evaluate-explored.new.areas.route.now)
    (sym (flat_board_lem (length a.list.now) g.places.numbers.now g.places.edges.now p.rows.fours p.rows.eights g.query
    c.centre_at.result c.centre_at-2.result g.places.groups.now g.block_base.now
    g.allow_base.now (steps_of a.steps.now) c.centre_at.ensures.0 c.centre_at-2.ensures.0))
    c.evaluate-explored.ensures.evaluated
