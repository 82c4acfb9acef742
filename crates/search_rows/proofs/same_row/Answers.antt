-- The answers to the goals of `search_rows::same_row`.
use mathlib.Core.Path.{sym}
use Prim.Native.Nat.{◌-◌}
use native.Mathlib.Omega.{arith}
use Rattle.search_rows.proofs.Sets.{row_differs, row_equals}
use Rattle.search_rows.proofs.same_row.Goals as goal

pub returns-then-set-i : goal.returns-then-set-i
returns-then-set-i c = sym (row_differs c.args.set c.args.area.now c.args.at (c.loop-i.i - 1) (omega arith) c.if-set-i.true)

pub returns : goal.returns
returns c = sym (row_equals c.args.set c.args.area.now c.args.at c.loop-i.i c.well_formed.1.1.0.1.0.1 c.requires c.loop-i-test.false c.loop-i.invariant)
