-- `walls_record::record_of` meets its contract: the rows are copied out whole, and the record is made field by field.
use Rattle.walls_numbers.specs.Numbers.{record_from}
use Rattle.walls_record.proofs.record_of.Goals as goal

pub returns : goal.returns
unfolding record_from
returns c = cc (c.copy.ensures, c.copy-2.ensures, c.copy-3.ensures)
