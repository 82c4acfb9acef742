-- A measure is that of the first end, of the second or of the line between them, by the projection; its divisor is never zero.
use Prim.Native.Nat.{◌*◌, ◌<◌}
use mathlib.Core.Path.{◌≡◌}
use mathlib.Core.Bool.{true, false}
use native.Mathlib.Omega.{arith}
use lib.IntN.{pos}
use lib.Signed.{le_z}
use Rattle.base_laws.proofs.Ints.{le_z_not}
use Rattle.base_laws.proofs.Members.{either}
use Rattle.base_model.specs.declared.Rect.{Rect}
use Rattle.base_model.specs.declared.Site.{Site}
use Rattle.rule_ranks.specs.declared.Measure.{Measure}
use Rattle.rule_ranks.specs.Measures.{squared_length, segment, from_first, from_second, projection_twice, beside_end, between_ends, measure_of}

module _ (s : Site) (r : Rect) where
  pub at_first : le_z (projection_twice s r) (pos 0) ≡ true → measure_of s r ≡ beside_end s.radius (from_first s r)
  unfolding measure_of
  at_first h = rw (measure_of, h)

  pub at_second : le_z (projection_twice s r) (pos 0) ≡ false → le_z (pos (2 * squared_length (segment s))) (projection_twice s r) ≡ true
      → measure_of s r ≡ beside_end s.radius (from_second s r)
  unfolding measure_of
  at_second h k = rw (measure_of, h, k)

  pub at_between : le_z (projection_twice s r) (pos 0) ≡ false → le_z (pos (2 * squared_length (segment s))) (projection_twice s r) ≡ false
      → measure_of s r ≡ between_ends s r
  unfolding measure_of
  at_between h k = rw (measure_of, h, k)

  -- whatever holds of the three measures holds of the measure
  pub measure_cases {ℓ} : (P : Measure → Type ℓ)
      → (le_z (projection_twice s r) (pos 0) ≡ true → P (beside_end s.radius (from_first s r)))
      → (le_z (projection_twice s r) (pos 0) ≡ false → le_z (pos (2 * squared_length (segment s))) (projection_twice s r) ≡ true → P (beside_end s.radius (from_second s r)))
      → (le_z (projection_twice s r) (pos 0) ≡ false → le_z (pos (2 * squared_length (segment s))) (projection_twice s r) ≡ false → P (between_ends s r))
      → P (measure_of s r)
  measure_cases P first second between =
      either (le_z (projection_twice s r) (pos 0))
      (λ h. rw (at_first h) (first h))
      (λ h. either (le_z (pos (2 * squared_length (segment s))) (projection_twice s r))
      (λ k. rw (at_second h k) (second h k))
      (λ k. rw (at_between h k) (between h k)))

  -- between the ends 0 < projection < 2 × squared length
  pub length_positive : le_z (projection_twice s r) (pos 0) ≡ false → le_z (pos (2 * squared_length (segment s))) (projection_twice s r) ≡ false → 0 < squared_length (segment s)
  length_positive h k = omega (arith, le_z_not)

  pub divisor_positive : 0 < (measure_of s r).divisor
  unfolding beside_end between_ends
  divisor_positive = measure_cases (λ (m : Measure). 0 < m.divisor) (λ h. omega arith) (λ h k. omega arith) (λ h k. omega (arith, length_positive h k))
