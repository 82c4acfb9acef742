-- The areas that are lent are the same ones after as before, so that who lent them knows what they hold.
use Rattle.std.specs.Prelude.{◌≡◌}
use Rattle.call_lengths.specs.declared.Work.{Work}
use Rattle.call_lengths.specs.declared.Store.{Store}

pub record SameWork (a b : Work) : Type 0 where
  pub counts : b.counts.ghost_name ≡ a.counts.ghost_name
  pub map : b.map.ghost_name ≡ a.map.ghost_name
  pub queue : b.queue.ghost_name ≡ a.queue.ghost_name
  pub predecessors : b.predecessors.ghost_name ≡ a.predecessors.ghost_name
  pub route : b.route.ghost_name ≡ a.route.ghost_name

pub record SameStore (a b : Store) : Type 0 where
  pub lists : b.lists.ghost_name ≡ a.lists.ghost_name
  pub visited : b.visited.ghost_name ≡ a.visited.ghost_name
  pub layouts : b.layouts.ghost_name ≡ a.layouts.ghost_name
  pub points : b.points.ghost_name ≡ a.points.ghost_name
