-- Fractions of naturals, compared by multiplying each numerator with the other's divisor: two laws of transitivity, and that this comparison is the one by whole parts
-- and then by rests.
use Prim.Native.Nat.{ℕ, suc, ◌+◌, ◌*◌, ◌≤◌, ◌<◌}
use mathlib.Core.Path.{◌≡◌, sym}
use mathlib.Core.Bool.{◌&&◌, ◌||◌}
use native.Mathlib.Nat.{mul-le-mul_right, mul-lt-mul_of_pos_right, lt_of_mul-lt-mul_right}
use native.Mathlib.Omega.{arith}
use lib.Dec.{ltb, eqb}
use borrow.Author.Tests.{ltb-true, ltb-false, eqb-true, eqb-false, lt-ltb, le-ltb}
use Rattle.base_laws.proofs.Ints.{leb_iff}
use Rattle.base_laws.proofs.Members.{either}

-- x / d ≤ y / e < z / f gives x / d < z / f
pub at_most_below : (x y z d e f : ℕ) → 0 < d → x * e ≤ y * d → y * f < z * e → x * f < z * d
at_most_below x y z d e f h p q = lt_of_mul-lt-mul_right e (omega (arith, mul-le-mul_right f p, mul-lt-mul_of_pos_right q h))

-- x / d < y / e ≤ z / f gives x / d < z / f
pub below_at_most : (x y z d e f : ℕ) → 0 < f → x * e < y * d → y * f ≤ z * e → x * f < z * d
below_at_most x y z d e f h p q = lt_of_mul-lt-mul_right e (omega (arith, mul-lt-mul_of_pos_right p h, mul-le-mul_right d q))

-- ---- p + a / d beside q + b / e, with a below d and b below e
-- the lower whole part decides
whole_below : (p q a b d e : ℕ) → a < d → 0 < e → p < q → (p * d + a) * e < (q * e + b) * d
whole_below p q a b d e rest positive h = omega (arith, mul-lt-mul_of_pos_right rest positive, mul-le-mul_right (d * e) h)

-- equal whole parts leave it to the rests
rests_decide : (q a b d e : ℕ) → ltb (a * e) (b * d) ≡ ltb ((q * d + a) * e) ((q * e + b) * d)
rests_decide q a b d e = leb_iff (suc (a * e)) (b * d) (suc ((q * d + a) * e)) ((q * e + b) * d) (λ h. omega arith) (λ h. omega arith)

pub compared : (p q a b d e : ℕ) → a < d → b < e → (ltb p q || eqb p q && ltb (a * e) (b * d)) ≡ ltb ((p * d + a) * e) ((q * e + b) * d)
compared p q a b d e h k =
    either (ltb p q)
    (λ t. rw t (sym (lt-ltb _ _ (whole_below p q a b d e h (omega arith) (ltb-true p q t)))))
    (λ f. either (eqb p q)
    (λ t. rw (f, t, eqb-true p q t) (rests_decide q a b d e))
    (λ n.
    let ne : p ≡ q → ⊥ = eqb-false p q n in
    let more : q < p = omega (arith, ltb-false p q f) in
    rw (f, n) (sym (le-ltb ((p * d + a) * e) ((q * e + b) * d) (omega (arith, whole_below q p b a e d k (omega arith) more))))))
