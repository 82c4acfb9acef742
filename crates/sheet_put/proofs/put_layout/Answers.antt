-- `put_layout`: the parts of the line, one after another.
use Rattle.sheet_put.proofs.Lines.{opening_room, members_room, middle_room, points_room_lem, closing_room, layout_put}
use Rattle.sheet_put.proofs.put_layout.Goals as goal

pub put-a-requires-clause-values_in_bounds : goal.put-a-requires-clause-values_in_bounds
put-a-requires-clause-values_in_bounds c =
    opening_room c.args.k c.args.row.now c.args.route.now c.args.out.now c.args.at c.requires.route_in_bounds

pub put_members-b-requires : goal.put_members-b-requires
put_members-b-requires c =
    members_room c.args.k c.args.row.now c.args.route.now c.args.out.now c.args.at c.requires.route_in_bounds _ _ c.put-a.ensures

pub put-c-requires-clause-values_in_bounds : goal.put-c-requires-clause-values_in_bounds
put-c-requires-clause-values_in_bounds c =
    middle_room c.args.k c.args.row.now c.args.route.now c.args.out.now c.args.at c.requires.route_in_bounds
    _ _ c.put-a.ensures _ _ c.put_members-b.ensures

pub put_points-d-requires-clause-route_in_bounds : goal.put_points-d-requires-clause-route_in_bounds
put_points-d-requires-clause-route_in_bounds c =
    points_room_lem c.args.k c.args.row.now c.args.route.now c.args.out.now c.args.at c.requires.route_in_bounds
    _ _ c.put-a.ensures _ _ c.put_members-b.ensures _ _ c.put-c.ensures

pub put-requires-clause-values_in_bounds : goal.put-requires-clause-values_in_bounds
put-requires-clause-values_in_bounds c =
    closing_room c.args.k c.args.row.now c.args.route.now c.args.out.now c.args.at c.requires.route_in_bounds
    _ _ c.put-a.ensures _ _ c.put_members-b.ensures _ _ c.put-c.ensures _ _ c.put_points-d.ensures

pub returns : goal.returns
returns c =
    layout_put c.args.k c.args.row.now c.args.route.now c.args.out.now c.args.at c.requires.route_in_bounds
    _ _ c.put-a.ensures _ _ c.put_members-b.ensures _ _ c.put-c.ensures _ _ c.put_points-d.ensures _ _ c.put.ensures
