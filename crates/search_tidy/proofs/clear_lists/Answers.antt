-- The answers to the goals of `search_tidy::clear_lists`.
use native.Mathlib.Omega.{arith}
use lib.ListN.{length-take}
use Rattle.search_tidy.proofs.ListLaws.{swept_begin, swept_next, swept_end}
use Rattle.search_tidy.proofs.clear_lists.Goals as goal

pub loop-k-init : goal.loop-k-init
loop-k-init c = swept_begin _ _ _ _

pub loop-k-preserved : goal.loop-k-preserved
loop-k-preserved c =
    let r = c.args.rec in
    let l = length-take r.lists r.lengths in
    swept_next _ _ _ _ _ _ c.requires c.loop-k.invariant (omega arith) _ c.clear_from.ensures

pub returns : goal.returns
returns c =
    let r = c.args.rec in
    let l = length-take r.lists r.lengths in
    swept_end _ r _ _ c.requires c.loop-k.invariant (omega arith) _ c.clear_from-2.ensures
