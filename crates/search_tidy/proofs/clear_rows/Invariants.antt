-- `search_tidy::clear_rows` meets its contract: the rows passed have their unused members zero, and those to come are untouched.
use Rattle.search_tidy.proofs.RowLaws.{Cleared}
use Rattle.search_tidy.proofs.clear_rows.Given as goal

abbrev pub invariant-loop-k : goal.invariant-loop-k
invariant-loop-k l = Cleared l.initial.area l.count l.n l.k l.area
