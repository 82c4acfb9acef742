-- `edges_of`: the entries written, and that they are all.
use Prim.Native.Nat.{◌*◌}
use native.Mathlib.Omega.{arith}
use Rattle.base_laws.proofs.Fill.{filling_none, filling_more, filling_all}
use Rattle.sheet_values.specs.Inner.{edge_at}
use Rattle.sheet_values.proofs.Values.{edge_same}
use Rattle.sheet_values.proofs.edges_of.Goals as goal

pub loop-k-init : goal.loop-k-init
loop-k-init c = filling_none (edge_at c.args.words.now) (8 * c.args.n) c.args.out.now c.requires.1

pub loop-k-preserved : goal.loop-k-preserved
unfolding edge_at
loop-k-preserved c =
    filling_more (edge_at c.args.words.now) (8 * c.args.n) c.args.out.now c.requires.1 c.loop-k.out c.loop-k.k _ (omega arith)
    (edge_same c.edge.result _ c.edge.ensures) c.loop-k.invariant

pub returns : goal.returns
returns c = filling_all (edge_at c.args.words.now) (8 * c.args.n) c.args.out.now c.requires.1 c.loop-k.out c.loop-k.k (omega arith) c.loop-k.invariant
