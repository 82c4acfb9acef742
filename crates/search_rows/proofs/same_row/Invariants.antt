-- `search_rows::same_row` meets its contract: the entries passed, the last ones, are equal.
use Rattle.search_rows.proofs.Sets.{EqualFrom}
use Rattle.search_rows.proofs.same_row.Given as goal

abbrev pub invariant-loop-i : goal.invariant-loop-i
invariant-loop-i l = EqualFrom l.set l.area l.at l.i
