-- Signed 64-bit numbers as the machine holds them: where they are small, what is read back of a number, a sum or a product is the integers' own.
use mathlib.Core.Path.{◌≡◌, ap, ap₂, ◌∙◌}
use Prim.Native.Nat.{◌*◌, ◌≤◌, ◌<◌}
use native.Mathlib.Omega.{arith}
use lib.IntN.{ℤ, pos, nat_abs, ◌+ℤ◌, ◌-ℤ◌, ◌*ℤ◌}
use mir.Syntax.{w64}
use mir.Val.{SFits, to_z, of_z}
use mir.Facts.{to_z-of_z}
use Rattle.base_laws.proofs.Magnitudes.{abs_add, abs_minus, abs_mul_le, square_pos, fits_i64}
use Rattle.rule_ranks.specs.declared.Vector.{Vector}

abbrev pub vector : ℤ → ℤ → Vector
vector x y = record { x = x; y = y }

-- a number written and read back
abbrev pub word : ℤ → ℤ
word z = to_z w64 (of_z w64 z)

pub read : (z : ℤ) → nat_abs z < 9223372036854775808 → word z ≡ z
read z h = to_z-of_z (fits_i64 z h)

-- ---- products of factors up to 2^28
module _ (a b : ℤ) (h : nat_abs a ≤ 268435456) (k : nat_abs b ≤ 268435456) where
  product_le : nat_abs (a *ℤ b) ≤ 72057594037927936
  product_le = abs_mul_le a b h k

  factors : word a *ℤ word b ≡ a *ℤ b
  factors = ap₂ ◌*ℤ◌ (read a (omega arith)) (read b (omega arith))

  pub product_read : word (word a *ℤ word b) ≡ a *ℤ b
  product_read = ap word factors ∙ read (a *ℤ b) (omega (arith, product_le))

-- a square as an unsigned number
module _ (z : ℤ) (h : nat_abs z ≤ 268435456) where
  pub square_read : word (word z *ℤ word z) ≡ pos (nat_abs z * nat_abs z)
  square_read = product_read z z h h ∙ square_pos z

-- ---- sums and differences of two products
module _ (a b c d : ℤ) (h : nat_abs a ≤ 268435456) (i : nat_abs b ≤ 268435456) (j : nat_abs c ≤ 268435456) (k : nat_abs d ≤ 268435456) where
  summands : word (word a *ℤ word b) +ℤ word (word c *ℤ word d) ≡ a *ℤ b +ℤ c *ℤ d
  summands = ap₂ ◌+ℤ◌ (product_read a b h i) (product_read c d j k)

  sum_le : nat_abs (a *ℤ b +ℤ c *ℤ d) ≤ 144115188075855872
  sum_le = omega (arith, abs_add (a *ℤ b) (c *ℤ d), product_le a b h i, product_le c d j k)

  pub sum_fits : SFits w64 (word (word a *ℤ word b) +ℤ word (word c *ℤ word d))
  sum_fits = rw summands (fits_i64 (a *ℤ b +ℤ c *ℤ d) (omega (arith, sum_le)))

  pub sum_read : word (word (word a *ℤ word b) +ℤ word (word c *ℤ word d)) ≡ a *ℤ b +ℤ c *ℤ d
  sum_read = ap word summands ∙ read (a *ℤ b +ℤ c *ℤ d) (omega (arith, sum_le))

  parts : word (word a *ℤ word b) -ℤ word (word c *ℤ word d) ≡ a *ℤ b -ℤ c *ℤ d
  parts = ap₂ ◌-ℤ◌ (product_read a b h i) (product_read c d j k)

  difference_le : nat_abs (a *ℤ b -ℤ c *ℤ d) ≤ 144115188075855872
  difference_le = omega (arith, abs_minus (a *ℤ b) (c *ℤ d), product_le a b h i, product_le c d j k)

  pub difference_fits : SFits w64 (word (word a *ℤ word b) -ℤ word (word c *ℤ word d))
  difference_fits = rw parts (fits_i64 (a *ℤ b -ℤ c *ℤ d) (omega (arith, difference_le)))

  pub difference_read : word (word (word a *ℤ word b) -ℤ word (word c *ℤ word d)) ≡ a *ℤ b -ℤ c *ℤ d
  difference_read = ap word parts ∙ read (a *ℤ b -ℤ c *ℤ d) (omega (arith, difference_le))
