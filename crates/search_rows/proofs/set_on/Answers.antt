-- The answers to the goals of `search_rows::set_on`.
use native.Mathlib.Omega.{arith}
use Rattle.search_rows.proofs.Stacks.{sum_begin, sum_next, sum_end, sum_head, reads_ok}
use Rattle.search_rows.proofs.set_on.Goals as goal

pub loop-k-init : goal.loop-k-init
loop-k-init c = λ ls z s. sum_begin ls

pub overflow_sub-k : goal.overflow_sub-k
overflow_sub-k c = let r = reads_ok _ _ _ c.requires c.loop-k.k c.loop-k-test.true in omega arith

pub bounds-lists-k : goal.bounds-lists-k
bounds-lists-k c = (reads_ok _ _ _ c.requires c.loop-k.k c.loop-k-test.true).inside

pub insert-requires : goal.insert-requires
insert-requires c =
    let q = c.requires in
    sum_head _ _ _ q.ms q.rest q.stood c.loop-k.k c.loop-k-test.true c.loop-k.set (c.loop-k.invariant q.ms q.rest q.stood)

pub loop-k-preserved : goal.loop-k-preserved
loop-k-preserved c =
    λ ls z s. sum_next _ _ _ ls z s c.loop-k.k c.loop-k-test.true c.loop-k.set _ (c.loop-k.invariant ls z s) c.insert.ensures

pub returns : goal.returns
returns c = λ ls z s. sum_end _ _ _ ls z s c.loop-k.k c.loop-k.set (c.loop-k.invariant ls z s) c.loop-k-test.false
