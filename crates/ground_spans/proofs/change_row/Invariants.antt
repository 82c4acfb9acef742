-- `ground_spans::change_row` meets its contract: the bytes passed are one more, or one less.
use mathlib.Core.Path.{◌≡◌}
use mathlib.Core.List.{◌++◌, map}
use lib.ListN.{take, drop}
use Rattle.ground_spans.specs.declared.Change.TheVariants.{Raise, Lower}
use Rattle.ground_spans.specs.Changes.{made}
use Rattle.ground_spans.proofs.change_row.Given as goal

abbrev pub invariant-loop-b : goal.invariant-loop-b
invariant-loop-b l = l.b-items ≡ map (made Raise) (take l.b-index l.fn.row) ++ drop l.b-index l.fn.row

abbrev pub invariant-loop-b-2 : goal.invariant-loop-b-2
invariant-loop-b-2 l = l.b-items ≡ map (made Lower) (take l.b-index l.fn.row) ++ drop l.b-index l.fn.row
