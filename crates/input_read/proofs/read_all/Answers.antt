-- The answers to the goals of `input_read::read_all`.
use mathlib.Core.Path.{◌∙◌}
use native.Mathlib.Omega.{arith}
use Rattle.input_read.proofs.Bytes.{more_came}
use Rattle.input_read.proofs.Reading.{more_after}
use Rattle.input_read.proofs.read_all.Goals as goal

pub loop-at-smaller : goal.loop-at-smaller
loop-at-smaller g c =
    omega
    (arith, more_after _ _ _ c.read_more-next.ensures.folds _ c.in-Going.is, c.read_more-next.auto.area, c.loop-at-test.true)

pub loop-at-preserved : goal.loop-at-preserved
loop-at-preserved g c =
    let more = more_after _ _ _ c.read_more-next.ensures.folds _ c.in-Going.is in (
      c.read_more-next.auto.area ∙ c.loop-at.invariant.0,
      more_came _ _ _ c.loop-at.at c.in-Going.n _ _ _ c.in-Going.is (omega arith) c.loop-at.invariant.1 c.read_more-next.ensures.bytes,
    )
