-- `write_result`: the first line, then those of the layouts.
use native.Mathlib.Omega.{arith}
use Rattle.sheet_write.proofs.Results.{Known, head_room, rows_room, result_put}
use Rattle.sheet_write.proofs.write_result.Goals as goal

pub put_head-at-requires : goal.put_head-at-requires
put_head-at-requires c =
    let x = c.shared_slice_known-1.given in
    let y = c.shared_slice_known-2-1.given in
    let h : Known c.args.rec c.args.layouts.now c.args.points.now c.args.out.now = record {
      writable = c.requires.writable;
      words = record { halves = λ i. omega (arith, x i); words = λ i. omega (arith, y i) };
      evaluations = omega arith;
      placements = omega arith;
      room = c.requires.enough_in_bounds;
    } in
    head_room _ _ _ _ h

pub put_layouts-requires : goal.put_layouts-requires
put_layouts-requires c =
    let x = c.shared_slice_known-1.given in
    let y = c.shared_slice_known-2-1.given in
    let h : Known c.args.rec c.args.layouts.now c.args.points.now c.args.out.now = record {
      writable = c.requires.writable;
      words = record { halves = λ i. omega (arith, x i); words = λ i. omega (arith, y i) };
      evaluations = omega arith;
      placements = omega arith;
      room = c.requires.enough_in_bounds;
    } in record { writable = c.requires.writable; count_in_bounds = rows_room _ _ _ _ h _ _ c.put_head-at.ensures }

pub returns : goal.returns
returns c =
    let x = c.shared_slice_known-1.given in
    let y = c.shared_slice_known-2-1.given in
    let h : Known c.args.rec c.args.layouts.now c.args.points.now c.args.out.now = record {
      writable = c.requires.writable;
      words = record { halves = λ i. omega (arith, x i); words = λ i. omega (arith, y i) };
      evaluations = omega arith;
      placements = omega arith;
      room = c.requires.enough_in_bounds;
    } in
    result_put _ _ _ _ h _ _ c.put_head-at.ensures _ _ c.put_layouts.ensures
