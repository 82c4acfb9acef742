-- `call_rank::dot` meets its contract: no product and no sum leaves 64 bits.
use native.Mathlib.Omega.{arith}
use Rattle.rule_ranks.specs.Measures.{dot}
use Rattle.call_rank.proofs.Words.{sum_fits, sum_read}
use Rattle.call_rank.proofs.dot.Goals as goal

pub overflow_add-result : goal.overflow_add-result
overflow_add-result c =
    sum_fits c.args.a.x c.args.b.x c.args.a.y c.args.b.y (omega (arith, c.requires.0.x)) (omega (arith, c.requires.1.x))
    (omega (arith, c.requires.0.y)) (omega (arith, c.requires.1.y))

pub returns : goal.returns
unfolding dot
returns c =
    sum_read c.args.a.x c.args.b.x c.args.a.y c.args.b.y (omega (arith, c.requires.0.x)) (omega (arith, c.requires.1.x))
    (omega (arith, c.requires.0.y)) (omega (arith, c.requires.1.y))
