-- `ground_baseline::obstacles_fit` meets its contract. Before the turn at i, none of the first i obstacles is empty.
use mathlib.Core.Path.{◌≡◌}
use mathlib.Core.Bool.{true}
use Prim.Native.Nat.{ℕ, ◌/◌, ◌≤◌, ◌<◌}
use lib.ListN.{length}
use Rattle.ground_rects.specs.Rects.{nonempty}
use Rattle.ground_rects.specs.Spans.{nth_rect}
use Rattle.ground_baseline.proofs.obstacles_fit.Given as goal

abbrev pub invariant-loop-i : goal.invariant-loop-i
invariant-loop-i l = (l.i ≤ length l.obstacles / 4) × ((k : ℕ) → k < l.i → nonempty (nth_rect l.obstacles k) ≡ true)
