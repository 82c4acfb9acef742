-- `set_extend::candidate_touches_witness` meets its contract: the steps passed touch nothing, and the spot at hand is that of the point reached.
use Rattle.set_extend.proofs.Along.{Along}
use Rattle.set_extend.proofs.candidate_touches_witness.Given as goal

abbrev pub invariant-loop-v : goal.invariant-loop-v
invariant-loop-v l = Along l.route l.span l.width l.spot l.v-index
