-- The mover that a wall must let pass, if there is one (RULES 3.1).
use Rattle.std.specs.Prelude.{Option}
use Rattle.base_model.specs.declared.Bounds.{Bounds}

abbrev pub Allow : Type 0
Allow = Option Bounds
