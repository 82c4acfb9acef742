-- `walls_flat::rows_of` meets its contract: rows of zeros, into which the first placements are laid.
use Rattle.walls_rows.proofs.Turns.{rows_are}
use Rattle.walls_flat.proofs.rows_of.Goals as goal

pub returns : goal.returns
returns c = rows_are _ _ c.at_most.ensures _ _ c.lay_all.ensures.0 c.lay_all.ensures.1
