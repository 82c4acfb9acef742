-- `rows_at`: the rows that stand before the place are the first entries of the area. The measure is what is left of the text.
use Prim.Native.Nat.{◌-◌}
use lib.ListN.{length}
use Rattle.text_read.proofs.Runs.{Going}
use Rattle.text_read.proofs.rows_at.Given as goal

abbrev pub invariant-loop-fault : goal.invariant-loop-fault
invariant-loop-fault l = Going l.pattern l.s l.at l.initial.out l.out l.next l.count l.used

abbrev pub decreases-loop-fault : goal.decreases-loop-fault
decreases-loop-fault l = length l.s - l.next
