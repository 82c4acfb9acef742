-- `read_sheet`: the parts one after the other, then the end of the text. The areas keep their lengths.
use native.Mathlib.Omega.{arith}
use mathlib.Core.Path.{refl}
use Rattle.text_forms.specs.Patterns.{good, repeats}
use Rattle.sheet_read.proofs.Whole.{no_map, no_obstacles, no_lines, no_limits, no_groups, no_places, no_end, whole_sheet}
use Rattle.sheet_read.proofs.read_sheet.Goals as goal

pub returns-in_err-map : goal.returns-in_err-map
returns-in_err-map c = let h = c.in_err-map.ensures in rw (c.from_residual.ensures) (no_map h)

pub rows_at-requires : goal.rows_at-requires
unfolding good repeats
rows_at-requires c = let m = c.in_ok-map.ensures in record { pattern_value = refl; at_in_bounds = m.answer.left.inside }

pub returns-in_err-around : goal.returns-in_err-around
returns-in_err-around c =
    let m = c.in_ok-map.ensures in
    let h = c.in_err-around.ensures in
    rw (c.from_residual-in_err-around.ensures) (no_obstacles m.answer c.requires.obstacle_room h.answer)

pub query_lines-requires : goal.query_lines-requires
query_lines-requires c = let o = c.in_ok-around.ensures in record { at_in_bounds = o.answer.inside; fixed_len = omega (arith, c.requires.fixed_room) }

pub returns-in_err-query : goal.returns-in_err-query
returns-in_err-query c =
    let m = c.in_ok-map.ensures in
    let o = c.in_ok-around.ensures in
    let h = c.in_err-query.ensures in
    rw (c.from_residual-in_err-query.ensures) (no_lines m.answer o.answer h)

pub limit_lines-requires : goal.limit_lines-requires
limit_lines-requires c = let q = c.in_ok-query.ensures in record { at_in_bounds = q.answer.left.inside; fixed_len = omega (arith, c.requires.fixed_room) }

pub returns-in_err-limits : goal.returns-in_err-limits
returns-in_err-limits c =
    let m = c.in_ok-map.ensures in
    let o = c.in_ok-around.ensures in
    let q = c.in_ok-query.ensures in
    let h = c.in_err-limits.ensures in
    rw (c.from_residual-in_err-limits.ensures) (no_limits m.answer o.answer q.answer h)

pub groups_line-requires : goal.groups_line-requires
groups_line-requires c = let l = c.in_ok-limits.ensures in record {
  text_len_bound = (c.requires.text_short, l.answer.left.inside);
  fixed_len = (omega (arith, c.requires.fixed_room), c.requires.group_room);
}

pub returns-in_err-slots : goal.returns-in_err-slots
returns-in_err-slots c =
    let m = c.in_ok-map.ensures in
    let o = c.in_ok-around.ensures in
    let q = c.in_ok-query.ensures in
    let l = c.in_ok-limits.ensures in
    let h = c.in_err-slots.ensures in
    rw (c.from_residual-in_err-slots.ensures) (no_groups m.answer o.answer q.answer l.answer h)

pub rows_at-requires-2 : goal.rows_at-requires-2
unfolding good repeats
rows_at-requires-2 c = let g = c.in_ok-slots.ensures in record { pattern_value = refl; at_in_bounds = g.answer.left.inside }

pub returns-in_err-placed : goal.returns-in_err-placed
returns-in_err-placed c =
    let m = c.in_ok-map.ensures in
    let o = c.in_ok-around.ensures in
    let q = c.in_ok-query.ensures in
    let l = c.in_ok-limits.ensures in
    let g = c.in_ok-slots.ensures in
    let h = c.in_err-placed.ensures in
    rw (c.from_residual-in_err-placed.ensures) (no_places m.answer o.answer q.answer l.answer g.answer c.requires.place_room h.answer)

pub returns-then-placed-text : goal.returns-then-placed-text
returns-then-placed-text c =
    let m = c.in_ok-map.ensures in
    let o = c.in_ok-around.ensures in
    let q = c.in_ok-query.ensures in
    let l = c.in_ok-limits.ensures in
    let g = c.in_ok-slots.ensures in
    let p = c.in_ok-placed.ensures in
    no_end m.answer o.answer q.answer l.answer g.answer p.answer c.if-placed-text.true

pub returns : goal.returns
returns c =
    let m = c.in_ok-map.ensures in
    let o = c.in_ok-around.ensures in
    let q = c.in_ok-query.ensures in
    let l = c.in_ok-limits.ensures in
    let g = c.in_ok-slots.ensures in
    let p = c.in_ok-placed.ensures in
    whole_sheet m.answer o.answer q.answer l.answer g.answer p.answer _ refl (omega (arith, p.answer.inside)) c.requires.obstacle_room c.requires.place_room
