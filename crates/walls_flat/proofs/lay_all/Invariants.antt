-- `walls_flat::lay_all`: the first i placements are laid, and the rows are as long as they were.
use Rattle.walls_rows.proofs.Turns.{Turn}
use Rattle.walls_flat.proofs.lay_all.Given as goal

abbrev pub invariant-loop-i : goal.invariant-loop-i
invariant-loop-i l = Turn l.places l.fn.numbers l.fn.edges l.i l.numbers l.edges
