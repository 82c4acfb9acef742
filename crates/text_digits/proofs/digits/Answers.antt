-- `digits`: the digits are counted first, so that digits without room leave the area as it was.
use native.Mathlib.Omega.{arith}
use Rattle.text_digits.proofs.DigitRuns.{count_run, run_low, digits_wrong, digits_full, digits_read}
use Rattle.text_digits.proofs.digits.Goals as goal

pub returns-then-n-eq0 : goal.returns-then-n-eq0
returns-then-n-eq0 c = digits_wrong c.args.s.now c.args.at c.digit_count-n.result (count_run c.args.s.now c.args.at c.digit_count-n.result (omega arith) c.digit_count-n.ensures) _ c.if-n-eq0.true

pub returns-then-out-n : goal.returns-then-out-n
returns-then-out-n c = digits_full c.args.s.now c.args.at c.digit_count-n.result
    (count_run c.args.s.now c.args.at c.digit_count-n.result (omega arith) c.digit_count-n.ensures) _ c.if-n-eq0.false c.if-out-n.true

pub store_digits-requires-clause-not_below : goal.store_digits-requires-clause-not_below
store_digits-requires-clause-not_below c = run_low c.args.s.now c.args.at c.digit_count-n.result (count_run c.args.s.now c.args.at c.digit_count-n.result (omega arith) c.digit_count-n.ensures)

pub returns : goal.returns
returns c = digits_read c.args.s.now c.args.at c.digit_count-n.result
    (count_run c.args.s.now c.args.at c.digit_count-n.result (omega arith) c.digit_count-n.ensures) _ c.if-n-eq0.false c.if-out-n.false _ c.store_digits.ensures
