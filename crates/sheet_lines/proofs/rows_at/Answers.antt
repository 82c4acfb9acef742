-- `rows_at` tells a full area from what stands there; the other answers of `rows` cannot be.
use Rattle.sheet_lines.proofs.Readers.{rows_not, rows_got}
use Rattle.sheet_lines.proofs.rows_at.Goals as goal

pub returns-in_err-read : goal.returns-in_err-read
returns-in_err-read c =
    let e = c.in_err-read.ensures in
    rw (c.from_residual.ensures) (rows_not _ _ _ _ c.requires.pattern_value c.requires.at_in_bounds _ e.value c.rows.ensures)

pub returns : goal.returns
returns c = let e = c.in_ok-read.ensures in rows_got _ _ _ _ c.requires.pattern_value c.requires.at_in_bounds {v = c.in_ok-read.read} _ e.value c.rows.ensures
