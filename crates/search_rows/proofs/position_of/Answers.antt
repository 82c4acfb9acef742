-- `search_rows::position_of` meets its contract: column and row are below the window's far edges.
use native.Mathlib.Omega.{arith}
use mathlib.Core.Path.{refl}
use Rattle.ground_rects.proofs.Edges.{edges}
use Rattle.search_rows.proofs.Points.{corner, edge_casts, edge_is, pixel_is, pixel_some, pixel_fits}
use Rattle.search_rows.proofs.position_of.Goals as goal

pub width-w-requires : goal.width-w-requires
width-w-requires c = (corner c.args.window c.requires.0).filled

pub overflow_cast-x : goal.overflow_cast-x
overflow_cast-x c =
    let w = c.args.window in
    let k = corner w c.requires.0 in
    edge_casts (edges w c.struct_told-1.given).left k.left (omega (arith, k.across_le))

pub nonzero_rem-x : goal.nonzero_rem-x
nonzero_rem-x c = pixel_some c.args.window c.requires.0 0 _ _ c.width-w.result refl refl c.width-w.ensures.0

pub overflow_add-x : goal.overflow_add-x
overflow_add-x c =
    let w = c.args.window in
    let e = edges w c.struct_told-1.given in
    let k = corner w c.requires.0 in
    let h = pixel_fits w c.requires.0 c.args.c _ _ c.width-w.result (edge_is e.left k.left) refl c.width-w.ensures.0 c.requires.1 in
    omega arith

pub overflow_cast-y : goal.overflow_cast-y
overflow_cast-y c =
    let w = c.args.window in
    let k = corner w c.requires.0 in
    edge_casts (edges w c.struct_told-1.given).top k.top (omega (arith, k.down_le))

pub nonzero_div-y : goal.nonzero_div-y
nonzero_div-y c = pixel_some c.args.window c.requires.0 0 _ _ c.width-w.result refl refl c.width-w.ensures.0

pub overflow_add-y : goal.overflow_add-y
overflow_add-y c =
    let w = c.args.window in
    let e = edges w c.struct_told-1.given in
    let k = corner w c.requires.0 in
    let h = pixel_fits w c.requires.0 c.args.c _ _ c.width-w.result (edge_is e.left k.left) (edge_is e.top k.top) c.width-w.ensures.0 c.requires.1 in
    omega arith

pub returns : goal.returns
returns c =
    let w = c.args.window in
    let e = edges w c.struct_told-1.given in
    let k = corner w c.requires.0 in
    pixel_is w c.requires.0 c.args.c _ _ c.width-w.result (edge_is e.left k.left) (edge_is e.top k.top) c.width-w.ensures.0
