-- The map that is lent, as the rules have it.
use Rattle.ground_baseline.specs.declared.Cells.{Cells}
use Rattle.ground_baseline.specs.Baseline.{Map}

abbrev pub map_of : Cells → Map
map_of c = record { across = c.across; down = c.down; cells = c.cells.now }
