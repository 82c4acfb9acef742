-- `set_explore::evaluate` meets its contract, by whether the set leaves the blocked mover a route.
use mathlib.Core.Path.{sym, ap, ◌∙◌, subst}
use mathlib.Core.List.{List}
use Prim.Native.Nat.{ℕ}
use lib.ListN.{length}
use lib.Seq.{length-take-le}
use Rattle.ground_rects.specs.Windows.{centres}
use Rattle.rule_layouts.specs.Explore as layouts
use Rattle.set_blocked.proofs.Members.{length_blocked}
use Rattle.set_pass.specs.Lent.{block_on}
use Rattle.set_pass.proofs.Passing.{wiped, lent_laid}
use Rattle.set_pass.proofs.Routed.{laid_by, shut_none, shut_kept}
use Rattle.set_explore.specs.Evaluation.{Evaluated, board_on}
use Rattle.set_explore.proofs.Extending.{eval_extended}
use Rattle.set_explore.proofs.evaluate.Goals as goal

pub wall_of-requires-clause-route_lent : goal.wall_of-requires-clause-route_lent
wall_of-requires-clause-route_lent c =
    let t = c.route_past.ensures in
    lent_laid (block_on c.args.ground.now c.args.given.now) c.args.set.now c.requires.route_lent t.map_after (record {
      queue_kept = t.search_restored.queue_same;
      predecessors_kept = t.search_restored.predecessors_same;
      route_kept = shut_kept (laid_by t.routed) c.in_default.is;
    })

pub wall_of-requires-clause-set_value : goal.wall_of-requires-clause-set_value
wall_of-requires-clause-set_value c = shut_none (laid_by c.route_past.ensures.routed) c.in_default.is

pub returns-in_default-clause-evaluated : goal.returns-in_default-clause-evaluated
returns-in_default-clause-evaluated c =
    let a = c.args in
    let n = length a.list.now in
    subst (λ (x : List ℕ). Evaluated (layouts.explore (board_on a.ground.now a.given.now n) a.set.now) c.wall_of.result a.list.now a.list.now x c.wall_of.new.areas.route.now)
    (shut_kept (laid_by c.route_past.ensures.routed) c.in_default.is) (c.wall_of.ensures.by_index n a.list.now)

pub slice_bounds-extensions-end : goal.slice_bounds-extensions-end
slice_bounds-extensions-end c =
    let t = c.route_past.ensures in
    (wiped (laid_by t.routed) (centres c.args.ground.now.window) c.in-Some.n c.requires.route_lent.route_clear c.in-Some.is t.route_length).room

pub slice_bounds-extensions-end-2 : goal.slice_bounds-extensions-end-2
slice_bounds-extensions-end-2 c =
    let t = c.route_past.ensures in
    let w = wiped (laid_by t.routed) (centres c.args.ground.now.window) c.in-Some.n c.requires.route_lent.route_clear c.in-Some.is t.route_length in
    sym (length-take-le c.in-Some.n c.route_past.new.areas.route.now w.room)

pub clear-requires : goal.clear-requires
clear-requires c =
    let t = c.route_past.ensures in
    (wiped (laid_by t.routed) (centres c.args.ground.now.window) c.in-Some.n c.requires.route_lent.route_clear c.in-Some.is t.route_length).room

pub returns-clause-evaluated : goal.returns-clause-evaluated
returns-clause-evaluated c =
    let a = c.args in
    let t = c.route_past.ensures in
    let w = wiped (laid_by t.routed) (centres a.ground.now.window) c.in-Some.n c.requires.route_lent.route_clear c.in-Some.is t.route_length in
    eval_extended a.ground.now a.given.now (length a.list.now) a.set.now c.requires.ready.once c.requires.route_lent.start_below c.in-Some.is t.routed
    c.extensions-found.ensures (c.clear.ensures ∙ w.clear)

pub returns-clause-map_bytes : goal.returns-clause-map_bytes
returns-clause-map_bytes c =
    let g = c.args.ground.now in
    ap (λ (x : List ℕ). length x) c.route_past.ensures.map_after ∙ length_blocked (block_on g c.args.given.now) (centres g.window) c.args.set.now
