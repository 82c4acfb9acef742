-- `route_table::times_in` meets its contract: the pairs that the test lets through are the steps that are the same.
use native.Mathlib.Omega.{arith}
use mathlib.Core.Path.{◌∙◌}
use mir.Syntax.{w32}
use mir.Val.{to_z, of_z}
use Rattle.base_laws.proofs.Ints.{back}
use Rattle.std.proofs.Common.{rules, tests}
use Rattle.std.proofs.lemmas.Iterator.{YieldsList-from_slice}
use Rattle.std.proofs.lemmas.Iterator.Consumers.{count_from_yields_List, YieldsList-from_filter}
use Rattle.route_table.proofs.Counting.{is_step, pairs_counted}
use Rattle.route_table.proofs.times_in.Goals as goal

pub returns : goal.returns
unfolding is_step
returns c =
    let met = count_from_yields_List c.filter.result _ c.count.ensures.ran
    (YieldsList-from_filter _ (is_step (to_z w32 (of_z w32 c.args.x)) (to_z w32 (of_z w32 c.args.y)))
    (YieldsList-from_slice c.as_chunks.result.0.now cc) c.filter.ensures.closure (λ x r q k. search (rules, tests))) in
    (rw (back w32 c.args.x c.ranges.x.sfits, back w32 c.args.y c.ranges.y.sfits, c.as_chunks.ensures.front) at met)
    ∙ pairs_counted c.args.x c.args.y _ c.args.steps.now (omega arith) (omega arith)
