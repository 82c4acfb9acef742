-- `walls_read::read` meets its contract: the placements that are laid flat are those of the row, and too many of them are too many either way.
use mathlib.Core.Path.{sym, ap, ◌∙◌}
use lib.ListN.{length}
use lib.Seq.{length-take-le}
use Rattle.walls_lent.proofs.Cut.{part_le}
use Rattle.walls_lent.proofs.Lent.{read_lent}
use Rattle.call_read.specs.Told.{told}
use Rattle.walls_read.proofs.read.Goals as goal

pub slice_bounds-lent-end : goal.slice_bounds-lent-end
slice_bounds-lent-end c =
    sym (length-take-le c.lists_lent-part.result c.args.kept.now.lists.now
    (part_le c.args.kept.now.lists.now (length c.args.plan.now.places.now) c.lists_lent-part.ensures))

pub returns-clause-call : goal.returns-clause-call
returns-clause-call c =
    let p = c.args.plan.now in
    let s = c.args.kept.now in
    read_lent p.query p.groups.now p.block_base.now p.allow_base.now p.places.now _ c.flat-given.ensures
    s.lists.now s.visited.now s.layouts.now s.points.now c.lists_lent-part.result c.lists_lent-part.ensures
    c.args.limits c.args.rec c.args.k ∙ c.read.ensures.call

pub returns-clause-numbers : goal.returns-clause-numbers
unfolding told
returns-clause-numbers c = ap told (returns-clause-call c)
