-- `groups_line`: a text of 8,192 bytes has no more slot counts than the area holds.
use borrow.Author.Rules.{rules}
use Rattle.sheet_lines.proofs.Parts.{groups_none, no_groups_over, groups_open, groups_got}
use mathlib.Core.Path.{refl}
use native.Mathlib.Omega.{arith}
use Rattle.text_forms.specs.Patterns.{good, repeats, fields}
use Rattle.sheet_lines.proofs.groups_line.Goals as goal

pub line_at-requires : goal.line_at-requires
unfolding good fields
line_at-requires c = record { readable = refl; inside = c.requires.text_len_bound.1; room = omega arith }

pub returns-in_err-a : goal.returns-in_err-a
returns-in_err-a c = let h = c.in_err-a.ensures in rw (c.from_residual.ensures) (groups_none h.answer)

pub rows_at-requires-clause-pattern_value : goal.rows_at-requires-clause-pattern_value
unfolding good repeats
rows_at-requires-clause-pattern_value c = refl

pub returns-in_err-rows : goal.returns-in_err-rows
returns-in_err-rows c =
    let k = c.in_err-rows.ensures in
    absurd (no_groups_over c.requires.text_len_bound.0 c.requires.fixed_len.1 k.answer)

pub line_at-requires-2 : goal.line_at-requires-2
unfolding good fields
line_at-requires-2 c = let k = c.in_ok-rows.ensures in record { readable = refl; inside = k.answer.inside; room = search rules }

pub returns-in_err-next : goal.returns-in_err-next
returns-in_err-next c =
    let h = c.in_ok-a.ensures in
    let k = c.in_ok-rows.ensures in
    let l = c.in_err-next.ensures in
    rw (c.from_residual-in_err-next.ensures) (groups_open h.answer k.answer l.answer)

pub returns : goal.returns
returns c =
    let h = c.in_ok-a.ensures in
    let k = c.in_ok-rows.ensures in
    let l = c.in_ok-next.ensures in
    groups_got h.answer k.answer c.requires.fixed_len.1 l.answer
