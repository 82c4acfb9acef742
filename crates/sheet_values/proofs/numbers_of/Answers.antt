-- `numbers_of`: the entries written, and that they are all.
use mathlib.Core.Path.{refl}
use Prim.Native.Nat.{◌*◌}
use native.Mathlib.Omega.{arith}
use Rattle.base_laws.proofs.Fill.{filling_none, filling_more, filling_all}
use Rattle.sheet_values.specs.Inner.{number_at}
use Rattle.sheet_values.proofs.numbers_of.Goals as goal

pub loop-k-init : goal.loop-k-init
loop-k-init c = filling_none (number_at c.args.words.now) (4 * c.args.n) c.args.out.now c.requires.1

pub loop-k-preserved : goal.loop-k-preserved
unfolding number_at
loop-k-preserved c = filling_more (number_at c.args.words.now) (4 * c.args.n) c.args.out.now c.requires.1 c.loop-k.out c.loop-k.k _ (omega arith) refl c.loop-k.invariant

pub returns : goal.returns
returns c = filling_all (number_at c.args.words.now) (4 * c.args.n) c.args.out.now c.requires.1 c.loop-k.out c.loop-k.k (omega arith) c.loop-k.invariant
