-- `call_lists::lists_fit` meets its contract: the lists passed fit, and their last taken placements are the members of the next list's set.
use Rattle.set_places.specs.Given.{places_at}
use Rattle.call_lists.proofs.Built.{Built}
use Rattle.call_lists.proofs.lists_fit.Given as goal

abbrev pub invariant-loop-k : goal.invariant-loop-k
invariant-loop-k l = Built (places_at l.n l.places) l.rec l.lists l.members l.k
