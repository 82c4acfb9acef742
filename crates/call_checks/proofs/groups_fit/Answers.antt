-- `call_checks::groups_fit` meets its contract, as far as the counts have been summed.
use mathlib.Core.Path.{sym, ◌∙◌}
use native.Mathlib.Omega.{arith}
use lib.ListN.{get_or}
use Rattle.call_checks.proofs.Grouped.{groups_many, slots_small, misfit, none_summed, one_summed, all_summed}
use Rattle.call_checks.proofs.groups_fit.Goals as goal

pub returns-then-groups-gt-SLOTS : goal.returns-then-groups-gt-SLOTS
returns-then-groups-gt-SLOTS c = sym (groups_many c.args.groups.now c.if-groups-gt-SLOTS.true)

pub loop-slots-init : goal.loop-slots-init
loop-slots-init c = none_summed c.args.groups.now c.if-groups-gt-SLOTS.false

pub returns-then-not-from_one : goal.returns-then-not-from_one
returns-then-not-from_one c =
    sym (misfit c.args.groups.now c.loop-slots.slots-index c.loop-slots-test.true (sym c.from_one.ensures ∙ c.if-not-from_one.true))

pub overflow_add-sum : goal.overflow_add-sum
overflow_add-sum c =
    let h = slots_small (get_or c.args.groups.now c.loop-slots.slots-index 0) (sym c.from_one.ensures ∙ c.if-not-from_one.false) in
    omega (arith, h, c.loop-slots.invariant.small, c.loop-slots.invariant.few, c.loop-slots-test.true)

pub loop-slots-preserved : goal.loop-slots-preserved
loop-slots-preserved c =
    one_summed c.args.groups.now c.loop-slots.sum c.loop-slots.slots-index c.loop-slots.invariant c.loop-slots-test.true
    (sym c.from_one.ensures ∙ c.if-not-from_one.false)

pub returns : goal.returns
returns c = all_summed c.args.groups.now c.loop-slots.sum c.loop-slots.slots-index c.loop-slots.invariant c.loop-slots-test.false
