-- Members of the rows have their edges there.
use Prim.Native.Nat.{ℕ}
use mathlib.Core.List.{List}
use native.Mathlib.Omega.{arith}
use lib.IntN.{ℤ}
use Rattle.set_blocked.specs.Blocked.{Named}
use Rattle.set_extend.specs.Join.{Rowed}

-- members are named in the row of edges
pub named_rows : {n : ℕ} {groups numbers : List ℕ} {edges : List ℤ} {s : List ℕ} → Rowed n groups numbers edges s → Named edges s
named_rows r = record { each = λ i m. let k = r.named i m in omega (arith, r.eights) }
