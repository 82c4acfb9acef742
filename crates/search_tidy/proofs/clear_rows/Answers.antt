-- The answers to the goals of `search_tidy::clear_rows`.
use native.Mathlib.Omega.{arith}
use Rattle.search_tidy.proofs.RowLaws.{cleared_begin, cleared_six, cleared_room, cleared_next, cleared_end}
use Rattle.search_tidy.proofs.clear_rows.Goals as goal

pub loop-k-init : goal.loop-k-init
loop-k-init c = cleared_begin _ _ _

pub overflow_sub-used : goal.overflow_sub-used
overflow_sub-used c = cleared_six _ _ _ _ _ c.requires c.loop-k.invariant c.loop-k-test.true

pub clear_from-requires : goal.clear_from-requires
clear_from-requires c =
    omega (
      arith,
      cleared_six _ _ _ _ _ c.requires c.loop-k.invariant c.loop-k-test.true,
      cleared_room _ _ _ _ _ c.requires c.loop-k.invariant c.loop-k-test.true,
    )

pub loop-k-preserved : goal.loop-k-preserved
loop-k-preserved c = cleared_next _ _ _ _ _ c.requires c.loop-k.invariant c.loop-k-test.true _ c.clear_from.ensures

pub returns : goal.returns
returns c = cleared_end _ _ _ _ _ c.requires c.loop-k.invariant c.loop-k-test.false _ c.clear_from-2.ensures
