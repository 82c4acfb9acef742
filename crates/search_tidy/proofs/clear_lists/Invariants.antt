-- `search_tidy::clear_lists` meets its contract: the lists passed have their unused entries zero, and those to come are untouched.
use Rattle.search_tidy.proofs.ListLaws.{Swept}
use Rattle.search_tidy.proofs.clear_lists.Given as goal

abbrev pub invariant-loop-k : goal.invariant-loop-k
invariant-loop-k l = Swept l.initial.area l.places l.lists l.fn.rec.lengths l.k l.area
