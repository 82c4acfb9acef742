-- The answers to the goals of `set_pass::is_minimal_block`.
use Rattle.std.proofs.Common.{rules}
use Rattle.set_pass.proofs.Lifting.{lifting_start, lifting_more, lifting_stop, lifting_all}
use Rattle.set_pass.proofs.is_minimal_block.Goals as goal

pub loop-k-init : goal.loop-k-init
loop-k-init c = record { lifted = lifting_start _ _ _ _ _ _ _ _ _ _ c.requires.route_lent.bytes; same = search rules }

pub returns-then-not-lets_pass-clause-value : goal.returns-then-not-lets_pass-clause-value
returns-then-not-lets_pass-clause-value c =
    (lifting_stop _ _ _ _ _ _ c.loop-k.invariant.lifted c.requires.set_value c.lets_pass.result c.loop-k-test.true c.lets_pass.ensures.value
    c.if-not-lets_pass.true c.lets_pass.ensures.map_after).0

pub returns-then-not-lets_pass-clause-map_after : goal.returns-then-not-lets_pass-clause-map_after
returns-then-not-lets_pass-clause-map_after c =
    (lifting_stop _ _ _ _ _ _ c.loop-k.invariant.lifted c.requires.set_value c.lets_pass.result c.loop-k-test.true c.lets_pass.ensures.value
    c.if-not-lets_pass.true c.lets_pass.ensures.map_after).1

pub loop-k-preserved : goal.loop-k-preserved
loop-k-preserved c = record {
  lifted = lifting_more _ _ _ _ _ _ c.loop-k.invariant.lifted c.lets_pass.result c.loop-k-test.true c.lets_pass.ensures.value c.if-not-lets_pass.false
      c.lets_pass.ensures.map_after c.lets_pass.ensures.areas_kept;
  same = search rules;
}

pub returns-clause-value : goal.returns-clause-value
returns-clause-value c = (lifting_all _ _ _ _ _ _ c.loop-k.invariant.lifted c.requires.set_value c.loop-k-test.false).0

pub returns-clause-map_after : goal.returns-clause-map_after
returns-clause-map_after c = (lifting_all _ _ _ _ _ _ c.loop-k.invariant.lifted c.requires.set_value c.loop-k-test.false).1
