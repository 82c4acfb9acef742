-- `bounds_in`: four words.
use Rattle.sheet_values.proofs.Values.{bounds_made}
use Rattle.sheet_values.proofs.bounds_in.Goals as goal

pub returns : goal.returns
returns c = bounds_made c.args.words.now c.args.at
