-- `limit_lines`: the allowed mover's line or none, then the limits.
use borrow.Author.Rules.{rules}
use Rattle.sheet_lines.proofs.Allowed.{allow_got, allow_not, limits_none, limits_got}
use mathlib.Core.Path.{refl}
use mathlib.Core.List.{[]}
use Rattle.text_forms.specs.Patterns.{good, fields}
use Rattle.sheet_lines.proofs.limit_lines.Goals as goal

pub returns-in_err-few : goal.returns-in_err-few
returns-in_err-few c =
    let e = c.in_err-few.ensures in
    rw (c.from_residual.ensures) (allow_not _ _ c.args.fixed.now c.requires.at_in_bounds c.requires.fixed_len _ e.value c.optional.ensures)

pub line_at-requires : goal.line_at-requires
unfolding good fields
line_at-requires c =
    let e = c.in_ok-few.ensures in
    record {
      readable = refl;
      inside = (allow_got _ _ c.args.fixed.now c.requires.at_in_bounds c.requires.fixed_len [] {v = c.in_ok-few.few} _ e.value c.optional.ensures).left.inside;
      room = search rules;
    }

pub returns-in_err-next : goal.returns-in_err-next
returns-in_err-next c =
    let e = c.in_ok-few.ensures in
    let l = c.in_err-next.ensures in
    rw (c.from_residual-in_err-next.ensures)
    (limits_none (allow_got _ _ c.args.fixed.now c.requires.at_in_bounds c.requires.fixed_len [] {v = c.in_ok-few.few} _ e.value c.optional.ensures) l.answer)

pub returns : goal.returns
returns c =
    let e = c.in_ok-few.ensures in
    let l = c.in_ok-next.ensures in
    limits_got (allow_got _ _ c.args.fixed.now c.requires.at_in_bounds c.requires.fixed_len _ {v = c.in_ok-few.few} _ e.value c.optional.ensures) _ refl l.answer
