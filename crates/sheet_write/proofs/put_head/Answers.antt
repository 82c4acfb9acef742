-- `put_head`: the line of the reason.
use native.Mathlib.Omega.{arith}
use lib.ListN.{length}
use Rattle.text_forms.proofs.Puts.{put_same}
use Rattle.sheet_put.proofs.Left.{room_as}
use Rattle.sheet_texts.proofs.Texts.{head_exhausted, head_states, head_results, head_running}
use Rattle.sheet_write.proofs.put_head.Goals as goal

pub put-requires-clause-values_in_bounds : goal.put-requires-clause-values_in_bounds
put-requires-clause-values_in_bounds c = room_as _ _ 0 (length c.args.out.now) (head_exhausted c.args.reason _ _ _ (omega arith)) (omega arith)

pub returns-in-2 : goal.returns-in-2
returns-in-2 c = put_same _ _ _ _ _ _ (head_exhausted c.args.reason _ _ _ (omega arith)) c.put.ensures

pub put-requires-in-3-clause-values_in_bounds : goal.put-requires-in-3-clause-values_in_bounds
put-requires-in-3-clause-values_in_bounds c = room_as _ _ 0 (length c.args.out.now) (head_states c.args.reason _ _ _ (omega arith)) (omega arith)

pub returns-in-3 : goal.returns-in-3
returns-in-3 c = put_same _ _ _ _ _ _ (head_states c.args.reason _ _ _ (omega arith)) c.put-in-3.ensures

pub put-requires-in-4-to-4294967295-clause-values_in_bounds : goal.put-requires-in-4-to-4294967295-clause-values_in_bounds
put-requires-in-4-to-4294967295-clause-values_in_bounds c = room_as _ _ 0 (length c.args.out.now) (head_results c.args.reason _ _ _ (omega arith)) (omega arith)

pub returns-in-4-to-4294967295 : goal.returns-in-4-to-4294967295
returns-in-4-to-4294967295 c = put_same _ _ _ _ _ _ (head_results c.args.reason _ _ _ (omega arith)) c.put-in-4-to-4294967295.ensures

pub put-requires-in_default-clause-values_in_bounds : goal.put-requires-in_default-clause-values_in_bounds
put-requires-in_default-clause-values_in_bounds c = room_as _ _ 0 (length c.args.out.now) (head_running c.args.reason _ _ _ (omega arith)) (omega arith)

pub returns-in_default : goal.returns-in_default
returns-in_default c = put_same _ _ _ _ _ _ (head_running c.args.reason _ _ _ (omega arith)) c.put-in_default.ensures
