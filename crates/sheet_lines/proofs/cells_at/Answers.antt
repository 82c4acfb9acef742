-- `cells_at`: without a digit there is no map, with more than 64 one over the cap.
use Rattle.sheet_lines.proofs.Readers.{cells_not}
use Rattle.sheet_lines.proofs.cells_at.Goals as goal

pub returns-in_err-row : goal.returns-in_err-row
returns-in_err-row c =
    let e = c.in_err-row.ensures in
    rw (c.from_residual.ensures) (cells_not _ _ _ c.requires.at_in_bounds c.requires.cells_len _ e.value c.digits.ensures)
