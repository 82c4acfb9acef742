-- `position_in`: two words.
use mathlib.Core.Path.{refl}
use Rattle.sheet_values.specs.Inner.{position_in}
use Rattle.sheet_values.proofs.position_in.Goals as goal

pub returns : goal.returns
unfolding position_in
returns c = refl
