-- `line_at`: one part of the area is lent to `line`; of the reasons it gives only a fault can be.
use Rattle.sheet_lines.proofs.Readers.{line_answer}
use Rattle.sheet_lines.proofs.line_at.Goals as goal

pub returns : goal.returns
returns c = rw (c.ok.ensures.value) (line_answer _ _ _ _ _ c.requires _ _ c.line.ensures)
