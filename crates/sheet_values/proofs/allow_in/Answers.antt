-- `allow_in`: none, or four words.
use Rattle.std.proofs.Common.{arith}
use Rattle.std.proofs.lemmas.Grind.{common_steps}
use Rattle.sheet_values.specs.Inner.{allow_read}
use Rattle.sheet_values.proofs.allow_in.Goals as goal

pub returns : goal.returns
unfolding allow_read
returns c = grind (arith, common_steps, c.then.ensures.variant, c.then.ensures.some)
