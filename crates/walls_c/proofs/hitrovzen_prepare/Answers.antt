-- `walls_c::hitrovzen_prepare` meets its contract: the call is made, and its answer told as a number.
use mathlib.Core.Path.{sym, ◌∙◌, ap}
use Rattle.base_model.specs.declared.Rect.{Rect}
use Rattle.rule_calls.specs.Areas.{Work, work_in}
use Rattle.rule_calls.specs.Calls.{prepare_call}
use Rattle.call_prepare.specs.Prepare.{preparation}
use Rattle.walls_numbers.proofs.Left.{prepare_left}
use Rattle.walls_numbers.proofs.Signed.{rect_back}
use Rattle.walls_c.proofs.hitrovzen_prepare.Goals as goal

pub returns : goal.returns
returns c =
    let a = c.args in
    let f = c.ranges in
    let w : Work = work_in a.counts.now a.map.now a.queue.now a.predecessors.now a.route.now in
    let e = rect_back a.window_left a.window_top a.window_right a.window_bottom f.window_left f.window_top f.window_right f.window_bottom in
    prepare_left a.steps.now _ a.baseline.now w _ _
    (ap (λ (x : Rect). prepare_call a.steps.now
    (preparation a.across a.down a.cells.now a.obstacles.now x (record { x = a.start_x; y = a.start_y })
    (record { x = a.end_x; y = a.end_y })
    (record { left = a.mover_left; top = a.mover_top; right = a.mover_right; bottom = a.mover_bottom })) a.baseline.now w)
    (sym e) ∙ c.prepare_in.ensures)
    c.number_of.ensures
