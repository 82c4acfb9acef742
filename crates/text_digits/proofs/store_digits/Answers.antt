-- `store_digits`: the next value follows the values so far.
use Rattle.text_digits.proofs.DigitRuns.{store_next}
use Rattle.text_digits.proofs.store_digits.Goals as goal

pub loop-k-preserved : goal.loop-k-preserved
loop-k-preserved c = store_next c.args.digits.now c.args.out.now c.loop-k.out c.loop-k.k c.loop-k-test.true c.requires.room c.loop-k.invariant
