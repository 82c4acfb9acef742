-- `walls_c::hitrovzen_step` meets its contract: the query is built of its numbers.
use mathlib.Core.Path.{sym, ◌∙◌, ap}
use Rattle.base_model.specs.declared.Query.{Query}
use Rattle.rule_layouts.specs.Flat.{inputs_of}
use Rattle.rule_calls.specs.Areas.{work_in, store_in}
use Rattle.walls_numbers.specs.Left.{step_on}
use Rattle.walls_numbers.proofs.Signed.{query_back}
use Rattle.walls_c.proofs.hitrovzen_step.Goals as goal

pub returns : goal.returns
returns c =
    let a = c.args in
    let f = c.ranges in
    let q = c.query_from-query.ensures
    ∙ query_back a.window_left a.window_top a.window_right a.window_bottom f.window_left f.window_top
    f.window_right f.window_bottom
    a.start_x a.start_y a.end_x a.end_y a.block_left a.block_top a.block_right a.block_bottom
    a.allow_given a.allow_left a.allow_top a.allow_right a.allow_bottom in
    sym (ap (λ (x : Query). step_on a.steps.now
    (inputs_of (x) a.groups.now a.numbers.now a.edges.now a.block_base.now a.allow_base.now)
    (record { states = a.states; results = a.results }) a.rec.now a.n
    (work_in a.counts.now a.map.now a.queue.now a.predecessors.now a.route.now)
    (store_in a.lists.now a.visited.now a.layouts.now a.points.now)) q)
    ∙ c.step_on.ensures
