-- `put_spaced`: a space stands before all but the first.
use native.Mathlib.Omega.{arith}
use lib.ListN.{length}
use Rattle.text_forms.proofs.Puts.{put_same, put_then, put_length}
use Rattle.sheet_texts.proofs.Texts.{gap_first, gap_later}
use Rattle.sheet_put.proofs.Left.{room_as}
use Rattle.sheet_put.proofs.put_spaced.Goals as goal

pub put-requires-clause-values_in_bounds : goal.put-requires-clause-values_in_bounds
put-requires-clause-values_in_bounds c = room_as _ _ c.args.at (length c.args.out.now) (gap_first _ _ c.if-k-eq0.true) c.requires.values_in_bounds

pub returns-then-k-eq0 : goal.returns-then-k-eq0
returns-then-k-eq0 c = put_same _ _ _ _ _ _ (gap_first _ _ c.if-k-eq0.true) c.put.ensures

pub put-i-requires-clause-values_in_bounds : goal.put-i-requires-clause-values_in_bounds
put-i-requires-clause-values_in_bounds c = omega (arith, room_as _ _ c.args.at (length c.args.out.now) (gap_later _ _ c.if-k-eq0.false) c.requires.values_in_bounds)

pub put-requires-2-clause-values_in_bounds : goal.put-requires-2-clause-values_in_bounds
put-requires-2-clause-values_in_bounds c =
    omega (
      arith,
      room_as _ _ c.args.at (length c.args.out.now) (gap_later _ _ c.if-k-eq0.false) c.requires.values_in_bounds,
      put_length _ _ _ _ _ c.put-i.ensures,
    )

pub returns : goal.returns
returns c = put_same _ _ _ _ _ _ (gap_later _ _ c.if-k-eq0.false) (put_then _ _ _ _ _ _ _ _ c.put-i.ensures c.put-2.ensures)
