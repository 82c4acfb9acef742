-- `sign_count`: a number without a sign, or a sign and a number.
use Prim.Native.Nat.{◌+◌, ◌-◌}
use mathlib.Core.Path.{sym, ◌∙◌}
use native.Mathlib.Omega.{arith}
use Rattle.text_forms.proofs.Puts.{plain_long, minus_long, decimal_short}
use Rattle.text_fields.proofs.sign_count.Goals as goal

pub returns-then-x-lt-NEGATIVE : goal.returns-then-x-lt-NEGATIVE
returns-then-x-lt-NEGATIVE c = c.digit_count.ensures ∙ sym (plain_long c.args.x c.if-x-lt-NEGATIVE.true)

pub overflow_add-result : goal.overflow_add-result
overflow_add-result c = omega (arith, c.digit_count-2.ensures, decimal_short (4294967295 - c.args.x + 1))

pub returns : goal.returns
returns c = omega (arith, c.digit_count-2.ensures, minus_long c.args.x c.if-x-lt-NEGATIVE.false c.ranges.x.fits)
