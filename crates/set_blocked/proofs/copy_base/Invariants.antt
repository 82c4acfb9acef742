-- `set_blocked::copy_base` meets its contract: the bytes passed are copied.
use mathlib.Core.Bool.{not}
use mathlib.Core.List.{List}
use Prim.Native.Nat.{ℕ}
use lib.Dec.{eqb}
use lib.ListN.{length, get_or}
use Rattle.base_laws.specs.Fill.{Filling}
use Rattle.set_blocked.specs.Blocked.{bit}
use Rattle.set_blocked.proofs.copy_base.Given as goal

abbrev pub marked : List ℕ → ℕ → ℕ
marked base i = bit (not (eqb (get_or base i 0) 0))

abbrev pub invariant-loop-i : goal.invariant-loop-i
invariant-loop-i l = Filling (marked l.base) (length l.fn.map) l.fn.map l.map l.i
