-- `query_lines`: three lines, each into its slot.
use borrow.Author.Rules.{rules}
use Rattle.sheet_lines.proofs.Parts.{lines_none, lines_no_ends, lines_last}
use mathlib.Core.Path.{refl}
use native.Mathlib.Omega.{arith}
use Rattle.text_forms.specs.Patterns.{good, fields}
use Rattle.sheet_lines.proofs.query_lines.Goals as goal

pub line_at-requires : goal.line_at-requires
unfolding good fields
line_at-requires c = record { readable = refl; inside = c.requires.at_in_bounds; room = omega arith }

pub returns-in_err-a : goal.returns-in_err-a
returns-in_err-a c = let h = c.in_err-a.ensures in rw (c.from_residual.ensures) (lines_none h.answer)

pub line_at-requires-2 : goal.line_at-requires-2
unfolding good fields
line_at-requires-2 c = let h = c.in_ok-a.ensures in record { readable = refl; inside = h.answer.got.inside; room = search rules }

pub returns-in_err-b : goal.returns-in_err-b
returns-in_err-b c =
    let h = c.in_ok-a.ensures in
    let k = c.in_err-b.ensures in
    rw (c.from_residual-in_err-b.ensures) (lines_no_ends h.answer k.answer)

pub line_at-requires-3 : goal.line_at-requires-3
unfolding good fields
line_at-requires-3 c = let h = c.in_ok-b.ensures in record { readable = refl; inside = h.answer.got.inside; room = search rules }

pub returns : goal.returns
returns c =
    let h = c.in_ok-a.ensures in
    let k = c.in_ok-b.ensures in
    lines_last h.answer k.answer _ c.line_at-3.ensures
