-- `answer`: the two lengths, the text read, the caps left, then the drive.
use mathlib.Core.Path.{sym, ◌∙◌}
use Rattle.sheet_answer.proofs.Answering.{got, not_got, rooms, answer_long, answer_none, answer_over, answer_driven}
use Rattle.sheet_texts.proofs.Fronts.{front_18}
use borrow.Author.Rules.{rules}
use Rattle.sheet_answer.proofs.answer.Goals as goal

pub returns-then-text-gt-MOST_BYTES : goal.returns-then-text-gt-MOST_BYTES
returns-then-text-gt-MOST_BYTES c =
    answer_long _ _ _ _ c.if-text-gt-MOST_BYTES.true (front_18 _ _ _ c.if-out-lt-ENOUGH.false c.write_refused.ensures)

pub returns-in_default : goal.returns-in_default
returns-in_default c =
    answer_none _ _ _ _ (not_got _ _ _ _ _ _ _ c.read_sheet.ensures c.in_default.is)
    (front_18 _ _ _ c.if-out-lt-ENOUGH.false c.write_refused-in_default.ensures)

pub returns-then-not-within_caps : goal.returns-then-not-within_caps
returns-then-not-within_caps c =
    answer_over _ _ _ _ _ _ _ (got _ _ _ _ _ _ _ c.read_sheet.ensures _ c.in-Some.is) _ _ _
    (sym c.within_caps.ensures ∙ c.if-not-within_caps.true)
    (front_18 _ _ _ c.if-out-lt-ENOUGH.false c.write_refused-then-not-within_caps.ensures)

pub driven-requires-clause-rooms : goal.driven-requires-clause-rooms
driven-requires-clause-rooms c =
    rooms _ _ _ _ _ _ _ (got _ _ _ _ _ _ _ c.read_sheet.ensures _ c.in-Some.is) (search rules) (search rules) (search rules) (search rules)
    (search rules)

pub returns : goal.returns
returns c =
    let g = got _ _ _ _ _ _ _ c.read_sheet.ensures _ c.in-Some.is in
    answer_driven _ _ _ _ _ _ _ g _ _ _ c.if-text-gt-MOST_BYTES.false
    (sym c.within_caps.ensures ∙ c.if-not-within_caps.false)
    (c.driven.ensures g.value g.fits g.held)
