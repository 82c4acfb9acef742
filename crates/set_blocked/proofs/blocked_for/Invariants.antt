-- `set_blocked::blocked_for` meets its contract: the map is that of the members passed, without the one lifted.
use mathlib.Core.Path.{◌≡◌}
use lib.ListN.{take}
use Rattle.ground_rects.specs.Windows.{centres}
use Rattle.set_blocked.specs.Blocked.{blocked_map, mover_on, left_by}
use Rattle.set_blocked.proofs.blocked_for.Given as goal

abbrev pub invariant-loop-k : goal.invariant-loop-k
invariant-loop-k l = l.map ≡ blocked_map (mover_on l.window l.places.edges.now l.mover) (centres l.window) (left_by l.lifted (take l.k l.set))
