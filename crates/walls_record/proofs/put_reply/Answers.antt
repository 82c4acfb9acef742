-- `walls_record::put_reply` meets its contract, in its three cases.
use mathlib.Core.Path.{sym, ◌∙◌, ap}
use Rattle.base_model.specs.Answers.{reply_of}
use Rattle.rule_calls.specs.Calls.{record_or}
use Rattle.walls_numbers.specs.Lent.{numbers_left}
use Rattle.walls_numbers.proofs.Fifty.{left_short, left_laid}
use Rattle.walls_record.proofs.put_reply.Goals as goal

pub returns-in_default : goal.returns-in_default
unfolding reply_of numbers_left record_or
returns-in_default c = λ before. let a = c.args in sym (ap (λ x. numbers_left (reply_of x) (record_or before x) a.rec.now) c.in_default.is)

pub returns-then-rec-ge-RECORD_NUMBERS : goal.returns-then-rec-ge-RECORD_NUMBERS
unfolding reply_of record_or
returns-then-rec-ge-RECORD_NUMBERS c =
    λ before.
    let a = c.args in
    c.put_record.ensures ∙ left_laid c.in-Ok.r a.rec.now c.if-rec-ge-RECORD_NUMBERS.true
    ∙ sym (ap (λ x. numbers_left (reply_of x) (record_or before x) a.rec.now) c.in-Ok.is)

pub returns-else-rec-ge-RECORD_NUMBERS : goal.returns-else-rec-ge-RECORD_NUMBERS
returns-else-rec-ge-RECORD_NUMBERS c = λ before. left_short _ _ _ c.if-rec-ge-RECORD_NUMBERS.false
