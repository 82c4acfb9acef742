-- `put_members`: the members written, and those that are left.
use native.Mathlib.Omega.{arith}
use lib.ListN.{length}
use Rattle.text_forms.proofs.Puts.{put_same}
use Rattle.sheet_put.proofs.Left.{room_as, turns_start, turns_room, turns_more, turns_done}
use Rattle.sheet_put.proofs.Spaced.{member_line}
use Rattle.sheet_texts.proofs.Texts.{member_text, members_text}
use Rattle.sheet_put.proofs.put_members.Goals as goal

pub loop-k-init : goal.loop-k-init
loop-k-init c = turns_start _ (member_text c.args.row.now) (length c.args.row.now) c.args.out.now c.args.at (members_text c.args.row.now) c.requires

pub put_spaced-i-requires-clause-values_in_bounds : goal.put_spaced-i-requires-clause-values_in_bounds
unfolding member_text
put_spaced-i-requires-clause-values_in_bounds c =
    room_as _ _ c.loop-k.i (length c.loop-k.out) (member_line _ _) (turns_room _ _ _ _ _ _ _ _ c.loop-k.invariant (omega arith))

pub loop-k-preserved : goal.loop-k-preserved
unfolding member_text
loop-k-preserved c =
    turns_more _ _ _ _ _ _ _ _ c.loop-k.invariant (omega arith) _ _ (put_same _ _ _ _ _ _ (member_line _ _) c.put_spaced-i.ensures)

pub returns : goal.returns
returns c = turns_done _ _ _ _ _ _ _ _ c.loop-k.invariant (omega arith)
