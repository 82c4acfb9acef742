-- `set_extend::extensions` meets its contract: the list holds the extensions among the placements passed, and the members passed do not bar the placement looked
-- at.
use mathlib.Core.Bool.{Bool}
use mathlib.Core.List.{List}
use Prim.Native.Nat.{ℕ, ◌+◌, ◌*◌}
use lib.IntN.{ℤ}
use Rattle.base_model.specs.declared.Rect.{Rect}
use Rattle.base_model.specs.declared.Bounds.{Bounds}
use Rattle.rule_routes.specs.Edges.{Step}
use Rattle.rule_layouts.specs.Flat.{rect_at}
use Rattle.set_places.specs.Given.{places_at}
use Rattle.set_extend.specs.Touch.{Trail, touched}
use Rattle.set_extend.proofs.Joining.{Clear, Looking}
use Rattle.set_extend.proofs.extensions.Given as goal

abbrev pub touch : List ℤ → Bounds → Rect → List ℕ → List Step → ℕ → Bool
touch edges m w r steps i = touched (rect_at edges (8 * i + 4)) m w steps r

abbrev pub invariant-loop-j : goal.invariant-loop-j
invariant-loop-j l = Clear (places_at l.n l.places) l.set l.i l.j

abbrev pub invariant-look : goal.invariant-look
invariant-look l =
    Looking (places_at l.n l.places) l.set (λ (steps : List Step). Trail l.window steps l.route)
    (touch l.places.edges.now l.mover l.window l.route) l.initial.list l.list l.k l.i
