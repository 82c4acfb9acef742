-- What is lent flat, as the rules have it: the inputs of a call, and n placements.
use Rattle.std.specs.Prelude.{ℕ}
use Rattle.rule_layouts.specs.Boards.{Places}
use Rattle.rule_layouts.specs.Inputs.{Inputs}
use Rattle.rule_layouts.specs.Flat.{inputs_of, places_in}
use Rattle.set_places.specs.declared.FlatPlaces.{FlatPlaces}
use Rattle.set_places.specs.declared.Given.{Given}

abbrev pub inputs_in : Given → Inputs
inputs_in g = inputs_of g.query g.places.groups.now g.places.numbers.now g.places.edges.now g.block_base.now g.allow_base.now

-- n placements, read from the rows by index
abbrev pub places_at : ℕ → FlatPlaces → Places
places_at n p = places_in n p.groups.now p.numbers.now p.edges.now
