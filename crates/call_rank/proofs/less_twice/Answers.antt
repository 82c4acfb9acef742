-- `call_rank::less_twice` meets its contract, axis by axis.
use mathlib.Core.Path.{ap₂}
use native.Mathlib.Omega.{arith}
use Rattle.std.proofs.lemmas.Int.{ints}
use Rattle.call_rank.proofs.Words.{vector}
use Rattle.call_rank.proofs.less_twice.Goals as goal

pub returns : goal.returns
returns c = ap₂ vector (omega (arith, ints)) (omega (arith, ints))
