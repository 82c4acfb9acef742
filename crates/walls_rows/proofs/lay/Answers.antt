-- `walls_rows::lay` meets its contract: a placement's numbers, then its two rectangles, one behind the other.
use Prim.Native.Nat.{ℕ, ◌+◌, ◌*◌}
use mathlib.Core.Path.{refl, ◌∙◌, ap}
use mathlib.Core.List.{List}
use native.Mathlib.Omega.{arith}
use lib.IntN.{ℤ}
use Rattle.base_laws.specs.Fill.{over}
use Rattle.base_laws.proofs.Stores.{over_twice}
use Rattle.walls_rows.specs.Rows.{rect_edges, both_of}
use Rattle.walls_rows.proofs.lay.Goals as goal

pub returns : goal.returns
unfolding both_of rect_edges
returns c =
    let i = c.args.i in
    let p = c.args.p in
    let xs = c.args.edges.now in
    let first = c.put-2.ensures ∙ ap (λ (q : List ℤ). over xs (8 * i) q) c.edges_of.ensures in (
      refl,
      (
        c.put.ensures ∙ ap (λ (q : List ℕ). over c.args.numbers.now (4 * i) q) c.numbers_of.ensures,
        c.put-3.ensures ∙ ap (λ (q : List ℤ). over c.put-2.new.row (8 * i + 4) q) c.edges_of-2.ensures
            ∙ ap (λ (l : List ℤ). over l (8 * i + 4) (rect_edges p.collision)) first
            ∙ over_twice xs (8 * i) (rect_edges p.footprint) (rect_edges p.collision) (8 * i + 4) refl (omega (arith, c.requires.1)),
      ),
    )
