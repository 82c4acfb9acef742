-- `search_rows::among` meets its contract: the set is among all rows exactly when it is among those not yet passed.
use mathlib.Core.List.{List}
use Prim.Native.Nat.{ℕ}
use Rattle.search_rows.specs.Lay.{Seek}
use Rattle.search_rows.proofs.Sets.{Looked}
use Rattle.search_rows.proofs.among.Given as goal

abbrev pub invariant-loop-j : goal.invariant-loop-j
invariant-loop-j l = (s : List ℕ) (vs : List (List ℕ)) (z : List ℕ) → Seek l.area l.count l.set s vs z → Looked s vs l.j
