-- `ground_spans::span_allows` meets its contract: the rows passed can be changed so. The measure is the number of rows left.
use Rattle.ground_spans.specs.Changes.{allows}
use Rattle.ground_spans.proofs.Rows.{Passed}
use Rattle.ground_spans.proofs.span_allows.Given as goal

abbrev pub invariant-loop-y : goal.invariant-loop-y
invariant-loop-y l = Passed (allows l.change) l.map l.width l.left l.right l.initial.y l.y
