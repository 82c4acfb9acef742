-- A name under which every definition of the calls unfolds: `unfolding computing` lets the checker compute whole calls.
use Prim.Native.Nat.{ℕ}
use Rattle.base_laws.specs.Lists.{any_of, all_of, select, flat, first_of, is_some, span, below, total, member, same, ascends, put_in, without, padded}
use Rattle.base_model.specs.Answers.{refusal, ask, first, said_of, reply_of}
use Rattle.ground_rects.specs.Rects.{rect, nonempty, has, holds, intersects, keeps_off, small, rects_of}
use Rattle.ground_rects.specs.Windows.{size_fits, width, height, centres, window_fits, in_window, pixel_x, pixel_y, centre_at, position_of}
use Rattle.ground_baseline.specs.Baseline.{map_fits, cell_rect, off_terrain, off_obstacle, off_edge, mark, baseline_of}
use Rattle.rule_routes.specs.Edges.{step_by, eight_steps, steps_of, eq_z, same_step, each_once, table_fits, original_steps, centre, inside, sides_from, edge_by, edges_from, window_edges}
use Rattle.rule_routes.specs.Routes.{neighbours, known, onward, discover, any_route, sweep, search_from, nodes_of, route, reach_count, sides_of, leans_on}
use Rattle.rule_layouts.specs.Boards.{used, may_join, leaves_open, open_ends, route_past}
use Rattle.rule_layouts.specs.Explore.{map_points, touches, extensions, is_minimal_block, allowed_route, wall_by, explore}
use Rattle.rule_layouts.specs.Judge.{over_slots, overlaps, verdict, ground_left}
use Rattle.rule_layouts.specs.Walls.{Passes, LetsPass}
use Rattle.rule_search.specs.Frames.{no_frame, push, at_state_limit, look, evaluated, pending_frame, list_frame, top_frame, frame, frames, advance, step, begun}
use Rattle.rule_search.specs.State.{state, stop, last_taken, set_on, points_kept, frames_left}
use Rattle.rule_calls.specs.Areas.{
  counts_length,
  points_length,
  work_fits,
  store_fits,
  bases_fit,
  laid,
  cleared,
  reason_of,
  number_of,
  row_of,
  positions,
  numbers,
  points_of,
  list_of,
  lists_of,
  state_of,
  record_of,
  row,
  store_of,
}
use Rattle.rule_calls.specs.Calls.{
  bare,
  prepare_checks,
  prepare_over,
  prepare_call,
  no_record,
  begin_checks,
  both_routes,
  begin_over,
  begin_call,
  plan_of,
  step_checks,
  step_over,
  step_call,
  read_checks,
  read_call,
  judgement_of,
  selection_fits,
  judge_checks,
  judge_over,
  judge_call,
}
use Rattle.rule_calls.specs.Checks.{group_checks, movers_small, route_checks, placement_fits, first_misplaced, place_checks, limit_checks, query_checks}
use Rattle.rule_layouts.specs.Flat.{rect_at, placement_at, wholes, placements_of}
use Rattle.rule_layouts.specs.Inputs.{no_place, places_of, mover_of, allowed_of, board_of}
use Rattle.rule_calls.specs.RecordCheck.{layouts_fit, row_fits, routes_fit, stood_on, list_fits, record_fits}

unfoldable pub computing : ℕ
unfolding any_of all_of select flat first_of is_some span below total member same ascends put_in without padded
    refusal ask first said_of reply_of
    rect nonempty has holds intersects keeps_off small rects_of
    size_fits width height centres window_fits in_window pixel_x pixel_y centre_at position_of
    map_fits cell_rect off_terrain off_obstacle off_edge mark baseline_of
    step_by eight_steps steps_of eq_z same_step each_once table_fits original_steps centre inside sides_from edge_by edges_from window_edges
    neighbours known onward discover any_route sweep search_from nodes_of route reach_count sides_of leans_on
    used may_join leaves_open open_ends route_past
    map_points touches extensions is_minimal_block allowed_route wall_by explore
    over_slots overlaps verdict ground_left
    Passes LetsPass
    no_frame push at_state_limit look evaluated pending_frame list_frame top_frame frame frames advance step begun
    state stop last_taken set_on points_kept frames_left
    counts_length points_length work_fits store_fits bases_fit laid cleared reason_of number_of row_of positions numbers points_of list_of lists_of state_of record_of row store_of
    bare prepare_checks prepare_over prepare_call no_record begin_checks both_routes begin_over begin_call plan_of step_checks step_over step_call read_checks read_call
    judgement_of selection_fits judge_checks judge_over judge_call
    group_checks movers_small route_checks placement_fits first_misplaced place_checks limit_checks query_checks
    rect_at placement_at wholes placements_of
    no_place places_of mover_of allowed_of board_of
    layouts_fit row_fits routes_fit stood_on list_fits record_fits
computing = 0
