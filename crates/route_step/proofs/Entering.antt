-- One step of a centre's turn, by the ways in which the code leaves it.
use mathlib.Core.Path.{◌≡◌, ◌∙◌}
use mathlib.Core.Bool.{Bool, true, false, ◌&&◌, and-false}
use mathlib.Core.List.{List, [], ◌∷◌}
use Prim.Native.Nat.{ℕ, ◌+◌, ◌*◌}
use native.Mathlib.Omega.{arith}
use borrow.Author.Tests.{le-leb, lt-ltb}
use lib.IntN.{ℤ, pos, ◌+ℤ◌}
use lib.ListN.{get_or, set}
use lib.Signed.{le_z, lt_z}
use Rattle.std.specs.Prelude.{None, Some}
use Rattle.base_laws.specs.Lists.{all_of}
use Rattle.rule_routes.specs.Edges.{step_by, inside, sides_from}
use Rattle.route_step.specs.Areas.{Area, tried}
use Rattle.route_step.specs.Ground.{open_in, leads, Moved}
use Rattle.route_step.proofs.Steps.{only, leads_in, leads_out}
use Rattle.route_step.proofs.Marks.{tried_none, tried_old, tried_new}

module _ (cells : List ℕ) (width height x y : ℕ) (dx dy : ℤ) (u : ℕ) (a : Area) where
  abbrev turned : Area
  turned = tried u (leads cells width height (pos x) (pos y) (step_by dx dy ∷ [])) a

  pub out_column : Moved x dx width None → a ≡ turned
  unfolding inside step_by
  out_column m = tried_none u _ a (leads_out cells width height (pos x) (pos y) (step_by dx dy) (rw m))

  module _ (nx : ℕ) (m : Moved x dx width (Some nx)) where
    column_inside : le_z (pos 0) (pos x +ℤ dx) && lt_z (pos x +ℤ dx) (pos width) ≡ true
    column_inside = rw (m.0, le-leb 0 nx (omega arith), lt-ltb nx width m.1)

    pub out_row : Moved y dy height None → a ≡ turned
    unfolding inside step_by
    out_row n = tried_none u _ a (leads_out cells width height (pos x) (pos y) (step_by dx dy) (rw column_inside n))

    module _ (ny : ℕ) (n : Moved y dy height (Some ny)) where
      abbrev to : ℕ
      to = ny * width + nx

      abbrev sides : Bool
      sides = all_of (open_in cells) (sides_from width height (pos x) (pos y) (step_by dx dy))

      lead : leads cells width height (pos x) (pos y) (step_by dx dy ∷ []) ≡ only (open_in cells to && sides) to
      lead = leads_in cells width height x y dx dy nx ny m.0 n.0 m.1 n.1

      pub reached : (get_or a.predecessors to 0 ≡ 0 → ⊥) → a ≡ turned
      reached s = tried_old u _ _ to a lead s

      pub shut : open_in cells to ≡ false → a ≡ turned
      unfolding only
      shut s = tried_none u _ a (lead ∙ rw s)

      pub barred : sides ≡ false → a ≡ turned
      unfolding only
      barred s = tried_none u _ a (lead ∙ rw (s, and-false (open_in cells to)))

      pub fresh : open_in cells to ≡ true → get_or a.predecessors to 0 ≡ 0 → sides ≡ true
          → record { queue = set a.queue a.tail to; predecessors = set a.predecessors to (u + 1); tail = a.tail + 1 } ≡ turned
      unfolding only
      fresh o z s = tried_new u _ to a (lead ∙ rw (o, s)) z
