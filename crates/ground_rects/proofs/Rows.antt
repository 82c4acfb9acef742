-- The rectangles of a row of numbers: how many there are, and that the i-th is read at i * 4. A part left over is an empty rectangle.
use mathlib.Core.Path.{◌≡◌, refl, ◌∙◌}
use mathlib.Core.Bool.{false, ◌&&◌, and-false}
use mathlib.Core.List.{List, [], ◌∷◌}
use Prim.Native.Nat.{ℕ, zero, suc, ◌+◌, ◌*◌, ◌≤◌, ◌<◌}
use native.Mathlib.Omega.{arith}
use lib.IntN.{ℤ}
use lib.Signed.{lt_z}
use lib.ListN.{length, get_or}
use Rattle.base_laws.proofs.Ints.{fact_nlt_z}
use Rattle.base_laws.specs.Lists.{all_of}
use Rattle.base_model.specs.declared.Rect.{Rect}
use Rattle.ground_rects.specs.Rects.{rect, nonempty, rects_of}
use Rattle.ground_rects.specs.Spans.{nth_rect}

pub rects_length : (row : List ℤ) → (length row ≤ length (rects_of row) * 4) × (length (rects_of row) * 4 < length row + 4)
unfolding rects_of
rects_length [] = omega arith
rects_length (l ∷ []) = omega arith
rects_length (l ∷ t ∷ []) = omega arith
rects_length (l ∷ t ∷ r ∷ []) = omega arith
rects_length (l ∷ t ∷ r ∷ b ∷ rest) = let k = rects_length rest in omega arith

at_later : (l t r b : ℤ) (rest : List ℤ) (i : ℕ) → nth_rect rest i ≡ nth_rect (l ∷ t ∷ r ∷ b ∷ rest) (suc i)
unfolding nth_rect
at_later l t r b rest i =
    let e₀ : suc i * 4 ≡ suc (suc (suc (suc (i * 4)))) = omega arith in
    let e₁ : suc i * 4 + 1 ≡ suc (suc (suc (suc (i * 4 + 1)))) = omega arith in
    let e₂ : suc i * 4 + 2 ≡ suc (suc (suc (suc (i * 4 + 2)))) = omega arith in
    let e₃ : suc i * 4 + 3 ≡ suc (suc (suc (suc (i * 4 + 3)))) = omega arith in
    rw (e₃, e₂, e₁, e₀)

pub rects_at : (row : List ℤ) (i : ℕ) (d : Rect) → i * 4 + 4 ≤ length row → get_or (rects_of row) i d ≡ nth_rect row i
unfolding rects_of nth_rect
rects_at [] i d h = absurd (omega arith)
rects_at (l ∷ []) i d h = absurd (omega arith)
rects_at (l ∷ t ∷ []) i d h = absurd (omega arith)
rects_at (l ∷ t ∷ r ∷ []) i d h = absurd (omega arith)
rects_at (l ∷ t ∷ r ∷ b ∷ rest) zero d h = refl
rects_at (l ∷ t ∷ r ∷ b ∷ rest) (suc i) d h = rects_at rest i d (omega arith) ∙ at_later l t r b rest i

-- a row that holds a part of a rectangle holds an empty one
pub rects_part : (row : List ℤ) → length row < length (rects_of row) * 4 → all_of nonempty (rects_of row) ≡ false
unfolding rects_of all_of nonempty rect
rects_part [] h = absurd (omega arith)
rects_part (l ∷ []) h = rw (fact_nlt_z l l (omega arith))
rects_part (l ∷ t ∷ []) h = rw (fact_nlt_z l l (omega arith))
rects_part (l ∷ t ∷ r ∷ []) h = rw (fact_nlt_z t t (omega arith), and-false (lt_z l r))
rects_part (l ∷ t ∷ r ∷ b ∷ rest) h = rw (rects_part rest (omega arith)) (and-false (lt_z l r && lt_z t b))
