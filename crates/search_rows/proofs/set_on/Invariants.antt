-- `search_rows::set_on` meets its contract: the row is that of the set on the lists passed.
use mathlib.Core.List.{List}
use Prim.Native.Nat.{ℕ}
use Rattle.rule_search.specs.State.{Extensions}
use Rattle.search_rows.specs.Lay.{Stood}
use Rattle.search_rows.proofs.Stacks.{Sum}
use Rattle.search_rows.proofs.set_on.Given as goal

abbrev pub invariant-loop-k : goal.invariant-loop-k
invariant-loop-k l = (ms : List Extensions) (rest : List ℕ) → Stood l.lists l.places l.nexts ms rest → Sum ms l.k l.set
