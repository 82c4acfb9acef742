-- `base_model::no_record` meets its contract: it is the fresh record of these values.
use Rattle.base_model.proofs.no_record.Goals as goal

pub returns : goal.returns
returns c = c.fresh_record.ensures
