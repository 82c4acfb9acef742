-- What numbers are no record, and what record the others are, with the record of no search as the code makes it.
use mathlib.Core.Path.{◌≡◌, refl}
use mathlib.Core.Bool.{false}
use Rattle.base_model.specs.Records.{fresh_record}
use Rattle.rule_calls.specs.Calls.{no_record}
pub use Rattle.walls_numbers.proofs.Fifty.{in_short, in_high, in_whole}

pub none_is : fresh_record 0 0 false ≡ no_record
unfolding fresh_record no_record
none_is = refl

pub ruleset reading = (none_is, in_short, in_high, in_whole)
