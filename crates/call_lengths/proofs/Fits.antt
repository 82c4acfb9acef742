-- The length of the points area, as the definition of the call has it.
use mathlib.Core.Path.{◌≡◌, refl}
use Rattle.base_model.specs.declared.Limits.{Limits}
use Rattle.rule_layouts.specs.Inputs.{Inputs}
use Rattle.rule_calls.specs.Areas.{points_length}
use Rattle.call_lengths.specs.Lengths.{points_room}

pub points_room_is : (i : Inputs) (l : Limits) → points_length i l ≡ points_room i.query l
unfolding points_length points_room
points_room_is i l = refl
