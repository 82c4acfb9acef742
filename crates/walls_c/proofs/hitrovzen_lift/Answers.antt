-- `walls_c::hitrovzen_lift` meets its contract: the call is made, and its answer told as a number.
use mathlib.Core.Path.{sym, ap₂, ◌∙◌}
use Rattle.base_model.specs.declared.Rect.{Rect}
use Rattle.base_model.specs.declared.Bounds.{Bounds}
use Rattle.rule_covers.specs.Covers.{lift_call}
use Rattle.walls_numbers.proofs.Left.{lift_left}
use Rattle.walls_numbers.proofs.Signed.{rect_back}
use Rattle.walls_c.proofs.hitrovzen_lift.Goals as goal

pub returns : goal.returns
returns c =
    let a = c.args in
    let f = c.ranges in
    let m : Bounds = record { left = a.mover_left; top = a.mover_top; right = a.mover_right; bottom = a.mover_bottom } in
    let w = rect_back a.window_left a.window_top a.window_right a.window_bottom f.window_left f.window_top f.window_right f.window_bottom in
    let r = rect_back a.rect_left a.rect_top a.rect_right a.rect_bottom f.rect_left f.rect_top f.rect_right f.rect_bottom in
    lift_left _ m _ a.baseline.now _ _ (ap₂ (λ (x y : Rect). lift_call x m y a.baseline.now) (sym w) (sym r) ∙ c.lift.ensures) c.number_of.ensures
