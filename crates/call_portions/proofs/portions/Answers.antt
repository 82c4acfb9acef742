-- `call_portions::portions` meets its contract: the parts lent to the portions come back as they were.
use Rattle.base_laws.proofs.Stores.{part_long, part_count, part_clear, part_back}
use Rattle.call_portions.proofs.portions.Goals as goal

pub centres-c-requires : goal.centres-c-requires
centres-c-requires c = c.requires.holds_some.given.fits
