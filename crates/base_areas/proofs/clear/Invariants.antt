-- `base_areas::clear` meets its contract: the loop writes zero at each index below n.
use Prim.Native.Nat.{ℕ}
use lib.ListN.{length}
use Rattle.base_laws.specs.Fill.{Filling}
use Rattle.base_areas.proofs.clear.Given as goal

abbrev pub invariant-loop-x : goal.invariant-loop-x
invariant-loop-x g l = Filling (λ (j : ℕ). l.zero) (length l.initial.x-items) l.initial.x-items l.x-items l.x-index
