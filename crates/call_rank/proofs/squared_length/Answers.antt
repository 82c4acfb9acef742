-- `call_rank::squared_length` meets its contract: both squares are at most 2^28.
use mathlib.Core.Path.{◌≡◌, ap, ◌∙◌}
use Prim.Native.Nat.{◌≤◌}
use native.Mathlib.Omega.{arith}
use lib.IntN.{ℤ, nat_abs}
use Rattle.rule_ranks.specs.Measures.{square}
use Rattle.rule_ranks.proofs.Sizes.{square_le}
use Rattle.call_rank.proofs.Words.{word, read}
use Rattle.call_rank.proofs.squared_length.Goals as goal

-- an axis is read back as it was given, and is short
short : (z : ℤ) → nat_abs z ≤ 16384 → word z ≡ z
short z h = read z (omega arith)

pub overflow_add-result : goal.overflow_add-result
overflow_add-result c =
    record {
      fits = omega (
        arith,
        (c.square.ensures ∙ ap square (short c.args.v.x c.requires.x)),
        (c.square-2.ensures ∙ ap square (short c.args.v.y c.requires.y)),
        square_le c.args.v.x 16384 c.requires.x,
        square_le c.args.v.y 16384 c.requires.y,
      );
    }
