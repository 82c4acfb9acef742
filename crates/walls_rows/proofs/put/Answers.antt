-- `walls_rows::put` meets its contract: as many entries as the part has were lent, and are the part's.
use Prim.Native.Nat.{◌+◌, ◌-◌}
use mathlib.Core.Path.{◌≡◌, ◌∙◌, ap}
use native.Mathlib.Omega.{arith}
use lib.ListN.{length}
use Rattle.base_laws.specs.Fill.{over}
use Rattle.base_laws.proofs.Stores.{over_part}
use Rattle.walls_rows.proofs.put.Goals as goal

pub returns : goal.returns
returns g c =
    let row = c.args.row.now in
    let at = c.args.at in
    let n = length c.args.part.now in
    let after = c.copy_from_slice.ensures.after in
    over_part row at (at + n - at) c.copy_from_slice.new.self (ap (λ q. length q) after ∙ (let e : n ≡ at + n - at = omega arith in e)) ∙ ap (λ q. over row at q) after
