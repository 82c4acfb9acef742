-- `walls_lent::Plan::flat` meets its contract: what stands in front of the rows is the first placements laid.
use mathlib.Core.Path.{sym}
use Rattle.walls_lent.proofs.Lent.{flat_is}
use Rattle.walls_lent.proofs.Plan.flat.Goals as goal

pub returns : goal.returns
returns c =
    let p = c.args.self in
    sym (flat_is p.query p.groups.now p.block_base.now p.allow_base.now c.args.rows.now c.at_most-laid.result p.places.now c.requires c.at_most-laid.ensures)
