-- The answers to the goals of `ground_spans::change_row`.
use mathlib.Core.Path.{sym, ap, ◌∙◌}
use mathlib.Core.List.{map}
use native.Mathlib.Omega.{arith}
use Rattle.rule_covers.specs.Covers.{one_more, one_less}
use Rattle.ground_spans.specs.declared.Change.{Change}
use Rattle.ground_spans.specs.declared.Change.TheVariants.{Raise, Lower}
use Rattle.ground_spans.specs.Changes.{made}
use Rattle.ground_spans.proofs.Bytes.{all_marked, at_hand, changed_more, may_raise, may_lower}
use Rattle.ground_spans.proofs.change_row.Goals as goal

pub overflow_add-b : goal.overflow_add-b
overflow_add-b c =
    let row = c.args.row.now in
    let l = c.loop-b in
    record { fits = omega (arith, at_hand (made Raise) row l.b-items l.b-index c.loop-b-test.true l.invariant, may_raise row l.b-index c.loop-b-test.true (rw c.in-Raise.is at c.requires)) }

pub loop-b-preserved : goal.loop-b-preserved
unfolding made one_more
loop-b-preserved c = changed_more (made Raise) c.args.row.now c.loop-b.b-items c.loop-b.b-index c.loop-b-test.true c.loop-b.invariant

pub overflow_sub-b : goal.overflow_sub-b
overflow_sub-b c =
    let row = c.args.row.now in
    let l = c.loop-b-2 in
    omega (arith, at_hand (made Lower) row l.b-items l.b-index c.loop-b-2-test.true l.invariant, may_lower row l.b-index c.loop-b-2-test.true (rw c.in-Lower.is at c.requires))

pub loop-b-2-preserved : goal.loop-b-2-preserved
unfolding made one_less
loop-b-2-preserved c = changed_more (made Lower) c.args.row.now c.loop-b-2.b-items c.loop-b-2.b-index c.loop-b-2-test.true c.loop-b-2.invariant

pub returns-in-Mark : goal.returns-in-Mark
returns-in-Mark c =
    let row = c.args.row.now in
    c.fill.ensures.after (λ y e. e) ∙ all_marked row ∙ ap (λ (x : Change). map (made x) row) (sym c.in-Mark.is)
