-- `ground_centres::centre_at` meets its contract: the window's corner is read back from its bits.
use Rattle.ground_rects.specs.Windows.{centre_at}
use Rattle.ground_rects.proofs.Edges.{edges}
use Rattle.ground_centres.proofs.Centres.{placed}
use Rattle.ground_centres.proofs.centre_at.Goals as goal

pub width-width-requires : goal.width-width-requires
width-width-requires c = (placed c.args.window c.args.p c.requires.window_value c.requires.p_value).some

pub local_index-requires : goal.local_index-requires
unfolding centre_at
local_index-requires c =
    let a = c.args in
    let k = placed a.window a.p c.requires.window_value c.requires.p_value in
    let e = edges a.window c.struct_told-2-1.given in
    rw (e.left, e.top, c.width-width.ensures.0) (record { column = k.column; row = k.row; fits = k.few })

pub returns : goal.returns
unfolding centre_at
returns c =
    let a = c.args in
    let k = placed a.window a.p c.requires.window_value c.requires.p_value in
    let e = edges a.window c.struct_told-2-1.given in
    let q = rw (e.left, e.top, c.width-width.ensures.0) at c.local_index.ensures in
    (q, rw q k.below)
