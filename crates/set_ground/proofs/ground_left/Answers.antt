-- `set_ground::ground_left` meets its contract: the centres reached over the set's map are counted, and the map is wiped.
use mathlib.Core.Path.{◌≡◌, ap, ◌∙◌}
use mathlib.Core.List.{List}
use Prim.Native.Nat.{◌*◌}
use native.Mathlib.Omega.{arith}
use Rattle.base_laws.proofs.Stores.{all_length, all_front}
use Rattle.ground_rects.specs.Windows.{width, height, centres, centre_at}
use Rattle.ground_rects.proofs.Windows.{framed}
use Rattle.rule_routes.specs.Edges.{Step, step_by, eight_steps, steps_of, original_steps, window_edges}
use Rattle.rule_routes.specs.Routes.{reach_count}
use Rattle.rule_layouts.specs.Boards.{leaves_open}
use Rattle.set_blocked.specs.Blocked.{mover_in}
use Rattle.set_ground.proofs.Counting.{reach_past}
use Rattle.set_ground.proofs.ground_left.Goals as goal

pub blocked_for-requires : goal.blocked_for-requires
blocked_for-requires c =
    let p = c.requires in
    let w = c.args.given.now.query.window in
    let z = all_length 0 (centres w) p.map_clear in
    record {
      ground = record { some = (framed 8192 8192 w p.fits).filled; slim = p.moving.slim; bytes = z };
      map_in_bounds = omega (arith, p.moving.bytes);
      named = p.moving.named;
    }

pub width-requires : goal.width-requires
width-requires c = (framed 8192 8192 c.args.given.now.query.window c.requires.fits).filled

pub height-requires : goal.height-requires
height-requires c = (framed 8192 8192 c.args.given.now.query.window c.requires.fits).filled

pub invariant_of-grid : goal.invariant_of-grid
unfolding centres
invariant_of-grid c =
    let w = c.args.given.now.query.window in
    let e : c.width.result * c.height.result ≡ width w * height w = rw (c.width.ensures.0, c.height.ensures.0) in
    record {
      whole = record {
        bytes = omega (arith, c.blocked_for.auto.map, all_length 0 (centres w) c.requires.map_clear);
        small = omega (arith, (framed 8192 8192 w c.requires.fits).few);
      };
    }

pub reach_count-left-requires : goal.reach_count-left-requires
unfolding centres
reach_count-left-requires c =
    let p = c.requires in
    let w = c.args.given.now.query.window in
    let e : c.width.result * c.height.result ≡ width w * height w = rw (c.width.ensures.0, c.height.ensures.0) in
    rw e (record {
      search_lent = record {
        queue_clear = all_front 0 (centres w) p.queue_clear;
        predecessors_clear = all_front 0 (centres w) p.predecessors_clear;
        start_below = c.centre_at-start.ensures.1;
      };
    })

pub returns-clause-value : goal.returns-clause-value
unfolding step_by eight_steps steps_of original_steps
returns-clause-value c =
    let order : steps_of c.original_steps-steps.result ≡ eight_steps = ap steps_of c.original_steps-steps.ensures in
    let s = c.args.set.now in
    let g = c.args.given.now in
    let w = g.query.window in
    let m = mover_in w g.places.edges.now g.query.block g.block_base.now in
    c.reach_count-left.ensures.value
    ∙ reach_past w (steps_of c.original_steps-steps.result) c.centre_at-start.result m s c.blocked_for.new.map c.width.result c.height.result
    c.width.ensures.0 c.height.ensures.0 c.blocked_for.ensures c.centre_at-start.ensures.1
    ∙ ap (reach_count (window_edges (width w) (height w) (steps_of c.original_steps-steps.result)) (centres w) (leaves_open m s)) c.centre_at-start.ensures.0
    ∙ ap (λ (l : List Step). reach_count (window_edges (width w) (height w) l) (centres w) (leaves_open m s) (centre_at w g.query.start)) order
