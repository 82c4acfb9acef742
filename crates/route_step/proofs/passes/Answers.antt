-- `route_step::passes` meets its contract: a straight step has no side centres, and a diagonal's two are read from the map.
use mathlib.Core.Path.{sym, ◌∙◌}
use mathlib.Core.Logic.{⊎_elim}
use Rattle.route_step.proofs.Steps.{zero_bits, along_row, along_column, side_row_shut, side_column}
use Rattle.route_step.proofs.passes.Goals as goal

pub returns-then-dx-eq0 : goal.returns-then-dx-eq0
returns-then-dx-eq0 c =
    ⊎_elim (λ e. along_column _ _ _ _ _ _ _ (zero_bits _ c.ranges.dx e)) (λ e. along_row _ _ _ _ _ _ _ (zero_bits _ c.ranges.dy e.1))
    c.then-dx-eq0.either

pub returns-then-not-is_open : goal.returns-then-not-is_open
returns-then-not-is_open c =
    side_row_shut _ _ _ _ _ _ _ _ _ c.requires.dx_value.0 c.requires.dx_value.1 (λ e. c.if-dx-eq0.false (rw e)) (λ e. c.if-dy-eq0.false (rw e))
    (sym (c.if-not-is_open.ensures))

pub returns : goal.returns
returns c =
    c.is_open-2.ensures
    ∙ side_column _ _ _ _ _ _ _ _ _ c.requires.dx_value.0 c.requires.dx_value.1 (λ e. c.if-dx-eq0.false (rw e)) (λ e. c.if-dy-eq0.false (rw e))
    (sym (c.if-not-is_open.ensures))
