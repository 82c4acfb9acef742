-- Signed edges as the machine has them: an edge is what is read back from its bits.
use mathlib.Core.Path.{◌≡◌}
use Prim.Native.Nat.{◌<◌}
use lib.Signed.{mag}
use mir.Syntax.{w32}
use mir.Val.{to_z, of_z}
use Rattle.base_laws.proofs.Ints.{back}
use Rattle.base_model.specs.declared.Rect.{Rect}

pub record Edges (r : Rect) : Type 0 where
  pub left : to_z w32 (of_z w32 r.left) ≡ r.left
  pub top : to_z w32 (of_z w32 r.top) ≡ r.top
  pub right : to_z w32 (of_z w32 r.right) ≡ r.right
  pub bottom : to_z w32 (of_z w32 r.bottom) ≡ r.bottom

-- from what is told of a rectangle where its fields are read
pub edges : {P Q R S U : Type 0} (r : Rect)
    → (P × (mag r.left < 2147483648)) × ((Q × (mag r.top < 2147483648)) × ((R × (mag r.right < 2147483648)) × ((S × (mag r.bottom < 2147483648)) × U)))
    → Edges r
edges r k = record {
  left = back w32 r.left k.0.1;
  top = back w32 r.top k.1.0.1;
  right = back w32 r.right k.1.1.0.1;
  bottom = back w32 r.bottom k.1.1.1.0.1;
}
