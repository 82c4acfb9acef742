-- `driven`: the flat values, then the drive.
use Rattle.sheet_values.proofs.Reading.{flat_held}
use Rattle.sheet_values.proofs.driven.Goals as goal

pub returns : goal.returns
returns c =
    let a = c.args in
    λ s fit h.
    c.drive_front.ensures s
    (flat_held s a.k a.fixed.now a.cells.now a.obstacles.now a.groups.now a.places.now c.requires.rooms _ _ _ _ _ _
    c.sides_of.ensures c.numbers_of.ensures c.edges_of.ensures fit h)
