-- `search_turn::seek` meets its contract: the portion of the state held comes to the end of the portion asked for, and the frames left fall.
use Rattle.search_turn.specs.Portion.{frames_in}
use Rattle.search_turn.proofs.Seeking.{Seeking}
use Rattle.search_turn.proofs.seek.Given as goal

abbrev pub invariant-loop-next : goal.invariant-loop-next
invariant-loop-next l = Seeking l.limits l.places l.initial.rec l.initial.lists l.visited l.rec l.lists

abbrev pub decreases-loop-next : goal.decreases-loop-next
decreases-loop-next l = frames_in l.rec
