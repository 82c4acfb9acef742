-- `integer_put`: a number, or a sign and then a number.
use lib.ListN.{length-set}
use native.Mathlib.Omega.{arith}
use Rattle.text_forms.proofs.Puts.{put_plain, plain_long, minus_long, put_minus}
use Rattle.text_fields.proofs.integer_put.Goals as goal

pub number_put-requires : goal.number_put-requires
number_put-requires c = omega (arith, plain_long c.args.x c.if-x-lt-NEGATIVE.true)

pub returns-then-x-lt-NEGATIVE : goal.returns-then-x-lt-NEGATIVE
returns-then-x-lt-NEGATIVE c = put_plain _ _ _ _ _ c.if-x-lt-NEGATIVE.true c.number_put.ensures

pub bounds-out-at : goal.bounds-out-at
bounds-out-at c = omega (arith, minus_long c.args.x c.if-x-lt-NEGATIVE.false c.ranges.x.fits)

pub number_put-requires-2 : goal.number_put-requires-2
number_put-requires-2 c =
    omega (arith, minus_long c.args.x c.if-x-lt-NEGATIVE.false c.ranges.x.fits, length-set c.args.out.now c.args.at 45)

pub returns : goal.returns
returns c =
    let a = c.args in
    put_minus a.x a.out.now c.number_put-2.new.out a.at c.number_put-2.result c.if-x-lt-NEGATIVE.false c.ranges.x.fits c.number_put-2.ensures
