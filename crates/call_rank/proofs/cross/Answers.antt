-- `call_rank::cross` meets its contract: no product and no difference leaves 64 bits.
use native.Mathlib.Omega.{arith}
use Rattle.rule_ranks.specs.Measures.{cross}
use Rattle.call_rank.proofs.Words.{difference_fits, difference_read}
use Rattle.call_rank.proofs.cross.Goals as goal

pub overflow_sub-result : goal.overflow_sub-result
overflow_sub-result c =
    difference_fits c.args.a.x c.args.b.y c.args.a.y c.args.b.x (omega (arith, c.requires.0.x)) (omega (arith, c.requires.1.y))
    (omega (arith, c.requires.0.y)) (omega (arith, c.requires.1.x))

pub returns : goal.returns
unfolding cross
returns c =
    difference_read c.args.a.x c.args.b.y c.args.a.y c.args.b.x (omega (arith, c.requires.0.x)) (omega (arith, c.requires.1.y))
    (omega (arith, c.requires.0.y)) (omega (arith, c.requires.1.x))
