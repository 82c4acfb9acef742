-- `map_line`: size, cells, then the end of the line.
use borrow.Author.Rules.{rules}
use Rattle.sheet_lines.proofs.Parts.{map_none, map_no_cells, map_open, map_got}
use mathlib.Core.Path.{refl}
use native.Mathlib.Omega.{arith}
use Rattle.text_forms.specs.Patterns.{good, fields}
use Rattle.sheet_lines.proofs.map_line.Goals as goal

pub line_at-requires : goal.line_at-requires
unfolding good fields
line_at-requires c = record { readable = refl; inside = omega arith; room = omega arith }

pub returns-in_err-a : goal.returns-in_err-a
returns-in_err-a c = let h = c.in_err-a.ensures in rw (c.from_residual.ensures) (map_none h.answer)

pub returns-in_err-row : goal.returns-in_err-row
returns-in_err-row c =
    let h = c.in_ok-a.ensures in
    let k = c.in_err-row.ensures in
    rw (c.from_residual-in_err-row.ensures) (map_no_cells h.answer k.answer)

pub line_at-requires-2 : goal.line_at-requires-2
unfolding good fields
line_at-requires-2 c = let k = c.in_ok-row.ensures in record { readable = refl; inside = k.answer.got.inside; room = search rules }

pub returns-in_err-next : goal.returns-in_err-next
returns-in_err-next c =
    let h = c.in_ok-a.ensures in
    let k = c.in_ok-row.ensures in
    let l = c.in_err-next.ensures in
    rw (c.from_residual-in_err-next.ensures) (map_open h.answer k.answer l.answer)

pub returns : goal.returns
returns c =
    let h = c.in_ok-a.ensures in
    let k = c.in_ok-row.ensures in
    let l = c.in_ok-next.ensures in
    map_got h.answer k.answer l.answer
