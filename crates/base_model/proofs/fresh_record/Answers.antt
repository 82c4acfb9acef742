-- `base_model::fresh_record` meets its contract: the record that it builds is the definition, field by field.
use mathlib.Core.Path.{refl}
use Rattle.base_model.specs.Records.{fresh_record}
use Rattle.base_model.proofs.fresh_record.Goals as goal

pub returns : goal.returns
unfolding fresh_record
returns c = refl
