-- `drive_front`: the areas cut to what the counts say, then the drive.
use mathlib.Core.Path.{sym, ap}
use mathlib.Core.List.{List}
use lib.IntN.{ℤ}
use Rattle.sheet_rule.specs.Drive.{drive_text}
use Rattle.sheet_allowed.proofs.Given.{fronts}
use Rattle.sheet_values.proofs.Reading.{flat_in}
use Rattle.sheet_values.proofs.drive_front.Goals as goal

pub returns : goal.returns
returns c =
    let a = c.args in
    λ s h.
    fronts _ _ _ _ _ (ap (λ (table : List ℤ). drive_text table s) (sym c.original_steps.ensures))
    (c.drive.ensures s
    (flat_in s a.k a.fixed.now a.cells.now a.sides.now a.groups.now a.numbers.now a.edges.now _ _ c.query_in.ensures c.limits_in.ensures h))
