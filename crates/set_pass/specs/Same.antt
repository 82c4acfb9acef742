-- The areas that are lent are the same ones after as before, so that who lent them knows what they hold.
use Rattle.std.specs.Prelude.{◌≡◌}
use Rattle.set_pass.specs.declared.Areas.{Areas}

pub record SameAreas (a b : Areas) : Type 0 where
  pub map : b.map.ghost_name ≡ a.map.ghost_name
  pub queue : b.queue.ghost_name ≡ a.queue.ghost_name
  pub predecessors : b.predecessors.ghost_name ≡ a.predecessors.ghost_name
  pub route : b.route.ghost_name ≡ a.route.ghost_name
