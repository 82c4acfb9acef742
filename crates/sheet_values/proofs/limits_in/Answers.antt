-- `limits_in`: two words.
use mathlib.Core.Path.{refl}
use Rattle.sheet_values.specs.Inner.{limits_read}
use Rattle.sheet_values.proofs.limits_in.Goals as goal

pub returns : goal.returns
unfolding limits_read
returns c = refl
