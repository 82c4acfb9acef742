-- `call_rows::row_fits` meets its contract: the lent part of the area is row k, and with at most six members the row fits when its members do.
use mathlib.Core.Path.{◌∙◌, refl}
use Rattle.call_rows.proofs.Rows.{row_few}
use Rattle.call_rows.proofs.row_fits.Goals as goal

pub returns-then-count-le-SLOTS : goal.returns-then-count-le-SLOTS
returns-then-count-le-SLOTS c =
    let a = c.args in
    c.members_fit.ensures ∙ row_few a.n a.area.now a.k _ refl c.if-count-le-SLOTS.true
