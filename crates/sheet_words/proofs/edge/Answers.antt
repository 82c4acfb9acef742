-- `edge`: the word's sign.
use Rattle.std.proofs.Common.{rules}
use Rattle.sheet_words.proofs.Edges.{stored}
use Rattle.sheet_words.proofs.edge.Goals as goal

pub returns : goal.returns
returns c = stored _ c.args.word c.cast_signed.ensures (search rules)
