-- `walls_rows::edges_of` meets its contract: the edges are what is read back of them.
use Rattle.ground_rects.proofs.Edges.{edges}
use Rattle.walls_rows.specs.Rows.{rect_edges}
use Rattle.walls_rows.proofs.edges_of.Goals as goal

pub returns : goal.returns
unfolding rect_edges
returns c =
    let e = edges c.args.r c.struct_told-1.given in
    rw (e.left, e.top, e.right, e.bottom)
