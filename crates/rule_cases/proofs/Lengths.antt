-- The length of the points area, computed from both sides of its bound.
use Prim.Native.Nat.{ℕ}
use mathlib.Core.Path.{◌≡◌, refl}
use mathlib.Core.List.{[], ◌∷◌}
use Rattle.base_model.specs.declared.Rect.{Rect}
use Rattle.std.specs.Prelude.{Some}
use Rattle.rule_calls.specs.Areas.{points_length}
use Rattle.rule_calls.proofs.Computing.{computing}
use Rattle.rule_calls.proofs.Drive.{at, box, limits, still0, W, given, alone, driving}

-- for result limit × c points, at most 1,000,000, two numbers each; none without an allowed mover
pub pointed : Rect → (results : ℕ) → ℕ
pointed w results = points_length (given w (at 0 0) (at 0 0) still0 (Some still0) [] [] [] []) (limits 1 results)

pub point_bounds : pointed W 2 ∷ pointed (box 0 0 1000 999) 1 ∷ pointed (box 0 0 1000 1000) 1 ∷ pointed (box 0 0 1000 1001) 1
    ∷ points_length (alone []) (limits 1 2) ∷ [] ≡ 60 ∷ 1998000 ∷ 2000000 ∷ 2000000 ∷ 0 ∷ []
unfolding computing driving pointed
point_bounds = refl
