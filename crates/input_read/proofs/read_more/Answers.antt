-- `read_more`: the bytes that were put follow those that stand there.
use Rattle.input_read.proofs.Bytes.{answered}
use Rattle.input_read.proofs.read_more.Goals as goal

pub returns-clause-bytes : goal.returns-clause-bytes
returns-clause-bytes g c =
    answered c.args.at _ _ c.args.area.now c.read.new.buf c.requires _ _ _ c.ok-got.ensures.value c.taken.ensures c.read.auto.buf c.read.ensures.bound c.read.ensures.bytes
