-- How large an integer is: laws of `nat_abs` over sums and products, and the range of 64 bits.
use mathlib.Core.Path.{◌≡◌, refl}
use Prim.Native.Nat.{ℕ, suc, ◌+◌, ◌*◌, ◌≤◌, ◌<◌}
use native.Mathlib.Nat.{mul-le-mul}
use native.Mathlib.Omega.{arith}
use lib.IntN.{ℤ, pos, negsuc, neg_ℤ, nat_abs, ◌+ℤ◌, ◌-ℤ◌, ◌*ℤ◌}
use mir.Syntax.{w64}
use mir.Val.{SFits}
use Rattle.base_laws.specs.Ints.{up, dn}
use Rattle.base_laws.proofs.Ints.{add_parts, minus_parts, neg_up, neg_dn, sfits_parts}

pub abs_parts : (z : ℤ) → nat_abs z ≡ up z + dn z
abs_parts (pos n) = omega arith
abs_parts (negsuc n) = omega arith

-- z lies from −n to n
pub abs_within : (z : ℤ) (n : ℕ) → up z ≤ dn z + n → dn z ≤ up z + n → nat_abs z ≤ n
abs_within (pos m) n p q = omega arith
abs_within (negsuc m) n p q = omega arith

pub abs_add : (a b : ℤ) → nat_abs (a +ℤ b) ≤ nat_abs a + nat_abs b
abs_add a b =
    abs_within (a +ℤ b) (nat_abs a + nat_abs b) (omega (arith, add_parts a b, abs_parts a, abs_parts b)) (omega (arith, add_parts a b, abs_parts a, abs_parts b))

pub abs_minus : (a b : ℤ) → nat_abs (a -ℤ b) ≤ nat_abs a + nat_abs b
abs_minus a b =
    abs_within (a -ℤ b) (nat_abs a + nat_abs b) (omega (arith, minus_parts a b, abs_parts a, abs_parts b)) (omega (arith, minus_parts a b, abs_parts a, abs_parts b))

pub abs_neg : (z : ℤ) → nat_abs (neg_ℤ z) ≡ nat_abs z
abs_neg z = omega (arith, abs_parts z, abs_parts (neg_ℤ z), neg_up z, neg_dn z)

pub abs_mul : (a b : ℤ) → nat_abs (a *ℤ b) ≡ nat_abs a * nat_abs b
abs_mul (pos a) (pos b) = refl
abs_mul (pos a) (negsuc b) = abs_neg (pos (a * suc b))
abs_mul (negsuc a) (pos b) = abs_neg (pos (suc a * b))
abs_mul (negsuc a) (negsuc b) = refl

-- a product of bounded factors
pub abs_mul_le : (a b : ℤ) {m n : ℕ} → nat_abs a ≤ m → nat_abs b ≤ n → nat_abs (a *ℤ b) ≤ m * n
abs_mul_le a b {m} {n} p q = omega (arith, abs_mul a b, mul-le-mul p q)

-- a square is not negative
pub square_pos : (z : ℤ) → z *ℤ z ≡ pos (nat_abs z * nat_abs z)
square_pos (pos n) = refl
square_pos (negsuc n) = refl

pub twice_up : (z : ℤ) → up (pos 2 *ℤ z) ≡ 2 * up z
twice_up (pos n) = refl
twice_up (negsuc n) = neg_up (pos (2 * suc n))

pub twice_dn : (z : ℤ) → dn (pos 2 *ℤ z) ≡ 2 * dn z
twice_dn (pos n) = refl
twice_dn (negsuc n) = neg_dn (pos (2 * suc n))

pub fits_i64 : (z : ℤ) → nat_abs z < 9223372036854775808 → SFits w64 z
fits_i64 z h = sfits_parts w64 z (omega (arith, abs_parts z)) (omega (arith, abs_parts z))
