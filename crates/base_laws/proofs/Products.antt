-- Integers as differences of naturals: sums, products and squares of differences are differences, so that an equation of integers comes to one of naturals.
use mathlib.Core.Path.{◌≡◌, ap}
use Prim.Native.Nat.{ℕ, suc, ◌+◌, ◌*◌}
use native.Mathlib.Omega.{arith}
use lib.IntN.{ℤ, pos, negsuc, neg_ℤ, nat_abs, ◌+ℤ◌, ◌-ℤ◌, ◌*ℤ◌}
use Rattle.base_laws.specs.Ints.{up, dn}
use Rattle.base_laws.proofs.Ints.{add_parts, minus_parts, neg_up, neg_dn, eq_parts}
use Rattle.base_laws.proofs.Magnitudes.{square_pos}

pub mul_parts : (a b : ℤ) → up (a *ℤ b) + up a * dn b + dn a * up b ≡ dn (a *ℤ b) + up a * up b + dn a * dn b
mul_parts (pos a) (pos b) = omega arith
mul_parts (pos a) (negsuc b) = omega (arith, neg_up (pos (a * suc b)), neg_dn (pos (a * suc b)))
mul_parts (negsuc a) (pos b) = omega (arith, neg_up (pos (suc a * b)), neg_dn (pos (suc a * b)))
mul_parts (negsuc a) (negsuc b) = omega arith

-- z is a − b
pub record IsDifference (z : ℤ) (a b : ℕ) : Type 0 where
  pub parts : up z + b ≡ dn z + a

pub itself : (z : ℤ) → IsDifference z (up z) (dn z)
itself z = record { parts = omega arith }

pub natural : (n : ℕ) → IsDifference (pos n) n 0
natural n = record { parts = omega arith }

module _ {x y : ℤ} {a b c d : ℕ} (h : IsDifference x a b) (k : IsDifference y c d) where
  pub sum : IsDifference (x +ℤ y) (a + c) (b + d)
  sum = record { parts = omega (arith, add_parts x y) }

  pub difference : IsDifference (x -ℤ y) (a + d) (b + c)
  difference = record { parts = omega (arith, minus_parts x y) }

  pub product : IsDifference (x *ℤ y) (a * c + b * d) (a * d + b * c)
  product = record { parts = omega (arith, mul_parts x y, by (up y) h.parts, by (dn y) h.parts, by a k.parts, by b k.parts) }
    where
      by : (n : ℕ) {p q : ℕ} → p ≡ q → p * n ≡ q * n
      by n e = ap (λ t. t * n) e

  pub equal : a + d ≡ c + b → x ≡ y
  equal e = eq_parts x y (omega arith)

pub opposite : {z : ℤ} {a b : ℕ} → IsDifference z a b → IsDifference (neg_ℤ z) b a
opposite {z} h = record { parts = omega (arith, neg_up z, neg_dn z) }

pub times : (n : ℕ) {z : ℤ} {a b : ℕ} → IsDifference z a b → IsDifference (pos n *ℤ z) (n * a) (n * b)
times n h = record { parts = omega (arith, (product (natural n) h).parts) }

pub squared : {z : ℤ} {a b : ℕ} → IsDifference z a b → IsDifference (pos (nat_abs z * nat_abs z)) (a * a + b * b) (2 * (a * b))
squared {z} {a} {b} h = rw (← square_pos z) (record { parts = omega (arith, (product h h).parts) })

pub equal_naturals : {m n a b c d : ℕ} → IsDifference (pos m) a b → IsDifference (pos n) c d → a + d ≡ c + b → m ≡ n
equal_naturals h k e = omega arith
