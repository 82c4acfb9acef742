-- `query_in`: each part in its place.
use Rattle.sheet_values.proofs.Values.{query_made}
use Rattle.sheet_values.proofs.query_in.Goals as goal

pub returns : goal.returns
returns c = query_made c.args.allow c.args.fixed.now _ _ _ _ _ c.rect_in.ensures c.position_in.ensures c.position_in-2.ensures c.bounds_in.ensures c.allow_in.ensures
