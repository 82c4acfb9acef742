-- `call_rank::square` meets its contract: the product fits, and is not negative.
use native.Mathlib.Omega.{arith}
use Rattle.rule_ranks.proofs.Sizes.{square_le}
use Rattle.rule_ranks.specs.Measures.{square}
use Rattle.call_rank.proofs.Words.{square_read}
use Rattle.call_rank.proofs.square.Goals as goal

pub overflow_cast-result : goal.overflow_cast-result
unfolding square
overflow_cast-result c =
    rw (square_read c.args.z c.requires)
    (tt, record { fits = omega (arith, square_le c.args.z 268435456 c.requires) })
