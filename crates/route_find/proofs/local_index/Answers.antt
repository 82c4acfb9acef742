-- `route_find::local_index` meets its contract: the two offsets are the row and the column, and the number fits by the requirement.
use native.Mathlib.Omega.{arith}
use mir.Facts.{to_z-of_z}
use Rattle.route_find.proofs.local_index.Goals as goal

pub offset-across-requires : goal.offset-across-requires
offset-across-requires c = rw (to_z-of_z c.ranges.left) c.requires.column

pub offset-down-requires : goal.offset-down-requires
offset-down-requires c = rw (to_z-of_z c.ranges.top) c.requires.row

pub overflow_mul-result : goal.overflow_mul-result
overflow_mul-result c =
    let e = rw (to_z-of_z c.ranges.top) at c.offset-down.ensures in
    let k = rw (to_z-of_z c.ranges.left) at c.offset-across.ensures in
    rw e (omega (arith, c.requires.fits))

pub overflow_add-result : goal.overflow_add-result
overflow_add-result c =
    let e = rw (to_z-of_z c.ranges.top) at c.offset-down.ensures in
    let k = rw (to_z-of_z c.ranges.left) at c.offset-across.ensures in
    rw (e, k) (omega (arith, c.requires.fits))

pub returns : goal.returns
returns c =
    rw (c.offset-down.ensures, c.offset-across.ensures, to_z-of_z c.ranges.top, to_z-of_z c.ranges.left)
