-- Laws of ways: Lagrange's identity, |u|² |v|² = (u · v)² + (u × v)², and the length of n u − m v.
use Prim.Native.Nat.{ℕ, ◌+◌, ◌*◌, ◌≤◌}
use mathlib.Core.Path.{◌≡◌, ap}
use native.Mathlib.Omega.{arith}
use native.Mathlib.Nat.{mul-le-mul_left}
use lib.IntN.{ℤ, pos, neg_ℤ, ◌+ℤ◌, ◌-ℤ◌, ◌*ℤ◌}
use Rattle.base_laws.specs.Ints.{up, dn}
use Rattle.base_laws.proofs.Ints.{add_parts}
use Rattle.base_laws.proofs.Magnitudes.{abs_mul}
use Rattle.base_laws.proofs.Products.{itself, natural, sum, difference, product, times, opposite, squared, equal, equal_naturals, mul_parts}
use Rattle.rule_ranks.specs.declared.Vector.{Vector}
use Rattle.rule_ranks.specs.Measures.{square, squared_length, dot, cross}

-- ---- of numbers
square_of_product : (a b : ℤ) → square (a *ℤ b) ≡ square a * square b
unfolding square
square_of_product a b = omega (arith, ap (λ (t : ℕ). t * t) (abs_mul a b))

exchanged : (a b c d : ℤ) → a *ℤ c *ℤ (b *ℤ d) ≡ a *ℤ d *ℤ (b *ℤ c)
exchanged a b c d =
    equal (product (product (itself a) (itself c)) (product (itself b) (itself d))) (product (product (itself a) (itself d)) (product (itself b) (itself c))) (omega arith)

-- (a + b)² + (c − d)² where a b = c d
squares : (a b c d : ℤ) → a *ℤ b ≡ c *ℤ d → square (a +ℤ b) + square (c -ℤ d) ≡ square a + square b + square c + square d
unfolding square
squares a b c d e =
    equal_naturals
    (sum (squared (sum (itself a) (itself b))) (squared (difference (itself c) (itself d))))
    (sum (sum (sum (squared (itself a)) (squared (itself b))) (squared (itself c))) (squared (itself d)))
    (omega (arith, mul_parts a b, mul_parts c d, ap up e, ap dn e))

module _ (n m : ℕ) (a b : ℤ) where
  square_combined : square (pos n *ℤ a -ℤ pos m *ℤ b) + 2 * (n * m) * up (a *ℤ b) ≡ n * n * square a + m * m * square b + 2 * (n * m) * dn (a *ℤ b)
  unfolding square
  square_combined =
      let e : pos (square (pos n *ℤ a -ℤ pos m *ℤ b)) ≡ pos (n * n * square a + m * m * square b) -ℤ pos (2 * (n * m)) *ℤ (a *ℤ b) =
      equal
      (squared (difference (times n (itself a)) (times m (itself b))))
      (difference (sum (times (n * n) (squared (itself a))) (times (m * m) (squared (itself b)))) (times (2 * (n * m)) (product (itself a) (itself b))))
      (omega arith)
      in
      omega (arith, rw (← e) at (difference (natural (n * n * square a + m * m * square b)) (times (2 * (n * m)) (itself (a *ℤ b)))))

  product_combined : (pos n *ℤ a -ℤ pos m *ℤ b) *ℤ b ≡ pos n *ℤ (a *ℤ b) -ℤ pos (m * square b)
  unfolding square
  product_combined =
      equal
      (product (difference (times n (itself a)) (times m (itself b))) (itself b))
      (difference (times n (product (itself a) (itself b))) (times m (squared (itself b))))
      (omega arith)

product_turned : (a b : ℤ) → (a -ℤ pos 2 *ℤ b) *ℤ neg_ℤ b ≡ pos (2 * square b) -ℤ a *ℤ b
unfolding square
product_turned a b =
    equal
    (product (difference (itself a) (times 2 (itself b))) (opposite (itself b)))
    (difference (times 2 (squared (itself b))) (product (itself a) (itself b)))
    (omega arith)

-- ---- of ways
-- n u − m v
unfoldable pub combined : (n : ℕ) → Vector → (m : ℕ) → Vector → Vector
combined n u m v = record { x = pos n *ℤ u.x -ℤ pos m *ℤ v.x; y = pos n *ℤ u.y -ℤ pos m *ℤ v.y }

-- −v
unfoldable pub turned : Vector → Vector
turned v = record { x = neg_ℤ v.x; y = neg_ℤ v.y }

-- u − 2 v
unfoldable pub less_twice : Vector → Vector → Vector
less_twice u v = record { x = u.x -ℤ pos 2 *ℤ v.x; y = u.y -ℤ pos 2 *ℤ v.y }

module _ (u v : Vector) where
  pub dot_turned : dot (less_twice u v) (turned v) ≡ pos (2 * squared_length v) -ℤ dot u v
  unfolding dot squared_length less_twice turned
  dot_turned =
      rw (product_turned u.x v.x, product_turned u.y v.y)
      (equal
      (sum (difference (natural (2 * square v.x)) (itself (u.x *ℤ v.x))) (difference (natural (2 * square v.y)) (itself (u.y *ℤ v.y))))
      (difference (natural (2 * (square v.x + square v.y))) (sum (itself (u.x *ℤ v.x)) (itself (u.y *ℤ v.y))))
      (omega arith))

  pub lagrange : squared_length u * squared_length v ≡ square (dot u v) + square (cross u v)
  unfolding squared_length dot cross
  lagrange =
      omega (
        arith,
        squares (u.x *ℤ v.x) (u.y *ℤ v.y) (u.x *ℤ v.y) (u.y *ℤ v.x) (exchanged u.x u.y v.x v.y),
        square_of_product u.x v.x,
        square_of_product u.y v.y,
        square_of_product u.x v.y,
        square_of_product u.y v.x,
      )

module _ (n m : ℕ) (u v : Vector) where
  -- the law of cosines
  pub cosines :
      squared_length (combined n u m v) + 2 * (n * m) * up (dot u v) ≡ n * n * squared_length u + m * m * squared_length v + 2 * (n * m) * dn (dot u v)
  unfolding squared_length dot combined
  cosines =
      omega (
        arith,
        square_combined n m u.x v.x,
        square_combined n m u.y v.y,
        ap (λ (t : ℕ). n * m * t) (add_parts (u.x *ℤ v.x) (u.y *ℤ v.y)),
      )

  -- at a right angle or more n u − m v is no shorter than n u
  pub no_shorter : up (dot u v) ≤ dn (dot u v) → n * n * squared_length u ≤ squared_length (combined n u m v)
  no_shorter h = omega (arith, cosines, mul-le-mul_left (n * m) h)

  cross_combined : cross (combined n u m v) v ≡ pos n *ℤ cross u v
  unfolding cross combined
  cross_combined =
      let a = itself u.x in
      let b = itself u.y in
      let c = itself v.x in
      let d = itself v.y in
      equal
      (difference (product (difference (times n a) (times m c)) d) (product (difference (times n b) (times m d)) c))
      (times n (difference (product a d) (product b c)))
      (omega arith)

  -- n u − m v lies as far from the line along v as n u
  pub beside : squared_length (combined n u m v) * squared_length v ≡ square (dot (combined n u m v) v) + n * n * square (cross u v)
  unfolding square
  beside = omega (arith, lagrange (combined n u m v) v, ap square cross_combined, square_of_product (pos n) (cross u v))

  dot_combined : dot (combined n u m v) v ≡ pos n *ℤ dot u v -ℤ pos (m * squared_length v)
  unfolding dot combined squared_length
  dot_combined =
      rw (product_combined n m u.x v.x, product_combined n m u.y v.y)
      (equal
      (sum (difference (times n (itself (u.x *ℤ v.x))) (natural (m * square v.x))) (difference (times n (itself (u.y *ℤ v.y))) (natural (m * square v.y))))
      (difference (times n (sum (itself (u.x *ℤ v.x)) (itself (u.y *ℤ v.y)))) (natural (m * (square v.x + square v.y))))
      (omega arith))

  -- at right angles to v its length is that distance
  pub perpendicular : (p : ℕ) → dot u v ≡ pos p → n * p ≡ m * squared_length v → squared_length (combined n u m v) * squared_length v ≡ n * n * square (cross u v)
  unfolding square
  perpendicular p e h =
      let zero : dot (combined n u m v) v ≡ pos 0 =
      rw (dot_combined, e) (equal (difference (natural (n * p)) (natural (m * squared_length v))) (natural 0) (omega arith))
      in
      omega (arith, beside, ap square zero)
