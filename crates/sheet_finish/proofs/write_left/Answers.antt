-- `write_left`: the result as `write_result` puts it, in front of the area.
use native.Mathlib.Omega.{arith}
use Rattle.sheet_texts.proofs.Lengths.{Words}
use Rattle.sheet_finish.proofs.Finishing.{result_written}
use Rattle.sheet_finish.proofs.write_left.Goals as goal

pub returns : goal.returns
returns c =
    let a = c.args in
    let x = c.shared_slice_known-1.given in
    let y = c.shared_slice_known-2-1.given in
    let v : Words a.layouts.now a.points.now = record { halves = λ i. omega (arith, x i); words = λ i. omega (arith, y i) } in
    result_written a.end a.layouts.now a.points.now _ _ _ c.requires.writable v (omega arith) (omega arith) c.requires.enough_in_bounds c.write_result.ensures
