-- What a plan gives a call: all of its placements, and the first 6,145 at most, which are laid flat.
use Rattle.std.specs.Prelude.{take}
use Rattle.rule_layouts.specs.Inputs.{Inputs}
use Rattle.walls_lent.specs.declared.Plan.{Plan}
use Rattle.walls_lent.specs.Given.{given}

abbrev pub given_in : Plan → Inputs
given_in p = given p.query p.groups.now p.places.now p.block_base.now p.allow_base.now

abbrev pub laid_in : Plan → Inputs
laid_in p = given p.query p.groups.now (take 6145 p.places.now) p.block_base.now p.allow_base.now
