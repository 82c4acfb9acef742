-- `put_points`: the points written, and those that are left.
use native.Mathlib.Omega.{arith}
use lib.ListN.{length}
use Rattle.text_forms.proofs.Puts.{put_same}
use Rattle.sheet_put.proofs.Left.{room_as, turns_start, turns_room, turns_more, turns_done}
use Rattle.sheet_put.proofs.Spaced.{point_line}
use Rattle.sheet_texts.proofs.Texts.{point_at, points_text, points_text_lem}
use Rattle.sheet_put.proofs.put_points.Goals as goal

pub loop-k-init : goal.loop-k-init
loop-k-init c =
    turns_start _ (points_text c.args.route.now) c.args.n c.args.out.now c.args.at
    (points_text_lem c.args.n c.args.route.now c.requires.route_len) c.requires.route_in_bounds

pub put_spaced-i-requires-clause-values_in_bounds : goal.put_spaced-i-requires-clause-values_in_bounds
unfolding points_text point_at
put_spaced-i-requires-clause-values_in_bounds c =
    room_as _ _ c.loop-k.i (length c.loop-k.out) (point_line _ _ _) (turns_room _ _ _ _ _ _ _ _ c.loop-k.invariant (omega arith))

pub loop-k-preserved : goal.loop-k-preserved
unfolding points_text point_at
loop-k-preserved c =
    turns_more _ _ _ _ _ _ _ _ c.loop-k.invariant (omega arith) _ _ (put_same _ _ _ _ _ _ (point_line _ _ _) c.put_spaced-i.ensures)

pub returns : goal.returns
returns c = turns_done _ _ _ _ _ _ _ _ c.loop-k.invariant (omega arith)
