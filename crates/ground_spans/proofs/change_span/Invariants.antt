-- `ground_spans::change_span` meets its contract: the rows passed have changed. The measure is the number of rows left.
use mathlib.Core.Path.{◌≡◌}
use mathlib.Core.Logic.{◌⊎◌}
use Prim.Native.Nat.{◌≤◌}
use Rattle.ground_spans.specs.Changes.{made}
use Rattle.ground_spans.proofs.Rows.{Rows}
use Rattle.ground_spans.proofs.change_span.Given as goal

abbrev pub invariant-loop-y : goal.invariant-loop-y
invariant-loop-y l = ((l.y ≤ l.bottom) ⊎ (l.y ≡ l.initial.y)) × Rows (made l.change) l.initial.map l.width l.left l.right l.initial.y l.map l.y
