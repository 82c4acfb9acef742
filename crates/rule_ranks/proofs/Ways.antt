-- The way from a point of the entrance to the footprint's centre, by the ways from the two ends.
use Prim.Native.Nat.{ℕ, ◌+◌, ◌*◌}
use mathlib.Core.Path.{◌≡◌}
use native.Mathlib.Omega.{arith}
use lib.IntN.{ℤ, pos, neg_ℤ, ◌+ℤ◌, ◌-ℤ◌, ◌*ℤ◌}
use Rattle.base_laws.proofs.Products.{itself, natural, difference, opposite, times, equal}
use Rattle.base_model.specs.declared.Rect.{Rect}
use Rattle.base_model.specs.declared.Site.{Site}
use Rattle.rule_ranks.specs.Measures.{squared_length, segment, from_first, from_second}
use Rattle.rule_ranks.specs.Nearest.{from_point, scaled}
use Rattle.rule_ranks.proofs.Vectors.{combined, turned}

-- one coordinate: f and g are the ends', c twice the centre's
module _ (a b f g : ℕ) (c : ℤ) where
  by_first : pos (a + b) *ℤ c -ℤ pos (2 * (a * f + b * g)) ≡ pos (a + b) *ℤ (c -ℤ pos 2 *ℤ pos f) -ℤ pos (2 * b) *ℤ (pos g -ℤ pos f)
  by_first =
      equal
      (difference (times (a + b) (itself c)) (natural (2 * (a * f + b * g))))
      (difference (times (a + b) (difference (itself c) (natural (2 * f)))) (times (2 * b) (difference (natural g) (natural f))))
      (omega arith)

  by_second : pos (a + b) *ℤ c -ℤ pos (2 * (a * f + b * g))
      ≡ pos (a + b) *ℤ (c -ℤ pos 2 *ℤ pos f -ℤ pos 2 *ℤ (pos g -ℤ pos f)) -ℤ pos (2 * a) *ℤ neg_ℤ (pos g -ℤ pos f)
  by_second =
      equal
      (difference (times (a + b) (itself c)) (natural (2 * (a * f + b * g))))
      (difference (times (a + b) (difference (difference (itself c) (natural (2 * f))) (times 2 (difference (natural g) (natural f))))) (times (2 * a) (opposite (difference (natural g) (natural f)))))
      (omega arith)

module _ (s : Site) (r : Rect) where
  pub first_way : (a b : ℕ) → scaled s r a b ≡ squared_length (combined (a + b) (from_first s r) (2 * b) (segment s))
  unfolding scaled from_point squared_length combined from_first segment
  first_way a b =
      cc (by_first a b s.first.x s.second.x (r.left +ℤ r.right), by_first a b s.first.y s.second.y (r.top +ℤ r.bottom))

  pub second_way : (a b : ℕ) → scaled s r a b ≡ squared_length (combined (a + b) (from_second s r) (2 * a) (turned (segment s)))
  unfolding scaled from_point squared_length combined from_first from_second segment turned
  second_way a b =
      cc (by_second a b s.first.x s.second.x (r.left +ℤ r.right), by_second a b s.first.y s.second.y (r.top +ℤ r.bottom))
