-- `search_rows::put_row` meets its contract: seven entries were lent, and are the row's.
use Prim.Native.Nat.{◌+◌, ◌-◌, ◌*◌}
use mathlib.Core.Path.{ap, ◌∙◌}
use mathlib.Core.List.{List}
use native.Mathlib.Omega.{arith}
use lib.ListN.{drop, length-drop}
use lib.Seq.{length-take-le}
use Rattle.base_laws.specs.Fill.{over}
use Rattle.base_laws.proofs.Stores.{over_part}
use Rattle.search_rows.proofs.put_row.Goals as goal

pub returns : goal.returns
returns c =
    let a = c.args.area.now in
    let at = c.args.k * 7 in
    let l = length-drop at a in
    over_part a at (at + 7 - at) c.copy_from_slice.new.self (c.copy_from_slice.ensures.len ∙ length-take-le (at + 7 - at) (drop at a) (omega arith))
    ∙ ap (λ (q : List _). over a at q) c.copy_from_slice.ensures.after
