-- Laws of integers as differences of naturals: each speaks of `up` and `dn` alone, so that `omega` proves what is linear.
use mathlib.Core.Path.{◌≡◌, refl, sym, ap, ◌∙◌}
use mathlib.Core.Bool.{Bool, true, false, cond}
use Prim.Native.Nat.{ℕ, zero, suc, ◌+◌, ◌-◌, ◌≤◌, ◌<◌, ◌^◌}
use native.Mathlib.Omega.{arith}
use lib.IntN.{ℤ, pos, negsuc, neg_ℤ, nat_abs, sub_ℕ, ◌+ℤ◌, ◌-ℤ◌}
use lib.Signed.{mag, le_z, lt_z, non_neg}
use lib.Dec.{T, ltb, leb}
use borrow.Author.Tests.{ltb-true, ltb-false, leb-true, leb-false, lt-ltb, le-ltb, le-leb, lt-leb}
use mir.Syntax.{Width}
use mir.Val.{SFits, hbits, to_z, of_z}
use mir.Facts.{to_z-of_z}
use Rattle.base_laws.specs.Ints.{up, dn}

-- ---- two tests of naturals agree where the facts do
leb_by : (a b c d : ℕ) (s t : Bool) → leb a b ≡ s → leb c d ≡ t → (a ≤ b → c ≤ d) → (c ≤ d → a ≤ b) → s ≡ t
leb_by a b c d true true e k f g = refl
leb_by a b c d true false e k f g =
    let p : a ≤ b = leb-true a b e in
    let q : d < c = leb-false c d k in
    let r : c ≤ d = f p in
    absurd (omega arith)
leb_by a b c d false true e k f g =
    let p : b < a = leb-false a b e in
    let q : c ≤ d = leb-true c d k in
    let r : a ≤ b = g q in
    absurd (omega arith)
leb_by a b c d false false e k f g = refl

pub leb_iff : (a b c d : ℕ) → (a ≤ b → c ≤ d) → (c ≤ d → a ≤ b) → leb a b ≡ leb c d
leb_iff a b c d f g = leb_by a b c d (leb a b) (leb c d) refl refl f g

-- ---- sums
sub_by : (a b : ℕ) (t : Bool) → ltb a b ≡ t → up (cond t (negsuc (b - suc a)) (pos (a - b))) + b ≡ dn (cond t (negsuc (b - suc a)) (pos (a - b))) + a
sub_by a b true e = omega (arith, ltb-true a b e)
sub_by a b false e = omega (arith, ltb-false a b e)

pub sub_parts : (a b : ℕ) → up (sub_ℕ a b) + b ≡ dn (sub_ℕ a b) + a
sub_parts a b = sub_by a b (ltb a b) refl

pub add_parts : (a b : ℤ) → up (a +ℤ b) + dn a + dn b ≡ dn (a +ℤ b) + up a + up b
add_parts (pos a) (pos b) = omega arith
add_parts (pos a) (negsuc b) = omega (arith, sub_parts a (suc b))
add_parts (negsuc a) (pos b) = omega (arith, sub_parts b (suc a))
add_parts (negsuc a) (negsuc b) = omega arith

pub neg_up : (a : ℤ) → up (neg_ℤ a) ≡ dn a
neg_up (pos zero) = refl
neg_up (pos (suc n)) = refl
neg_up (negsuc n) = refl

pub neg_dn : (a : ℤ) → dn (neg_ℤ a) ≡ up a
neg_dn (pos zero) = refl
neg_dn (pos (suc n)) = refl
neg_dn (negsuc n) = refl

pub minus_parts : (a b : ℤ) → up (a -ℤ b) + dn a + up b ≡ dn (a -ℤ b) + up a + dn b
minus_parts a b = omega (arith, add_parts a (neg_ℤ b), neg_up b, neg_dn b)

-- ---- order: the tests are tests of naturals
pub le_z_parts : (a b : ℤ) → le_z a b ≡ leb (up a + dn b) (up b + dn a)
le_z_parts (pos a) (pos b) = leb_iff a b (a + 0) (b + 0) (λ h. omega arith) (λ h. omega arith)
le_z_parts (pos a) (negsuc b) = sym (lt-leb (a + suc b) (0 + 0) (omega arith))
le_z_parts (negsuc a) (pos b) = sym (le-leb (0 + 0) (b + suc a) (omega arith))
le_z_parts (negsuc a) (negsuc b) = leb_iff b a (0 + suc b) (0 + suc a) (λ h. omega arith) (λ h. omega arith)

pub lt_z_parts : (a b : ℤ) → lt_z a b ≡ ltb (up a + dn b) (up b + dn a)
lt_z_parts (pos a) (pos b) = leb_iff (suc a) b (suc (a + 0)) (b + 0) (λ h. omega arith) (λ h. omega arith)
lt_z_parts (pos a) (negsuc b) = sym (le-ltb (a + suc b) (0 + 0) (omega arith))
lt_z_parts (negsuc a) (pos b) = sym (lt-ltb (0 + 0) (b + suc a) (omega arith))
lt_z_parts (negsuc a) (negsuc b) = leb_iff (suc b) a (suc (0 + suc b)) (0 + suc a) (λ h. omega arith) (λ h. omega arith)

-- as facts, for `omega`'s list: rules that read and prove the tests
pub le_z_fact : (a b : ℤ) → le_z a b ≡ true → up a + dn b ≤ up b + dn a
le_z_fact a b e = leb-true (up a + dn b) (up b + dn a) (sym (le_z_parts a b) ∙ e)

pub le_z_not : (a b : ℤ) → le_z a b ≡ false → up b + dn a < up a + dn b
le_z_not a b e = leb-false (up a + dn b) (up b + dn a) (sym (le_z_parts a b) ∙ e)

pub lt_z_fact : (a b : ℤ) → lt_z a b ≡ true → up a + dn b < up b + dn a
lt_z_fact a b e = ltb-true (up a + dn b) (up b + dn a) (sym (lt_z_parts a b) ∙ e)

pub lt_z_not : (a b : ℤ) → lt_z a b ≡ false → up b + dn a ≤ up a + dn b
lt_z_not a b e = ltb-false (up a + dn b) (up b + dn a) (sym (lt_z_parts a b) ∙ e)

pub fact_le_z : (a b : ℤ) → up a + dn b ≤ up b + dn a → le_z a b ≡ true
fact_le_z a b h = le_z_parts a b ∙ le-leb (up a + dn b) (up b + dn a) h

pub fact_nle_z : (a b : ℤ) → up b + dn a < up a + dn b → le_z a b ≡ false
fact_nle_z a b h = le_z_parts a b ∙ lt-leb (up a + dn b) (up b + dn a) h

pub fact_lt_z : (a b : ℤ) → up a + dn b < up b + dn a → lt_z a b ≡ true
fact_lt_z a b h = lt_z_parts a b ∙ lt-ltb (up a + dn b) (up b + dn a) h

pub fact_nlt_z : (a b : ℤ) → up b + dn a ≤ up a + dn b → lt_z a b ≡ false
fact_nlt_z a b h = lt_z_parts a b ∙ le-ltb (up a + dn b) (up b + dn a) h

-- ---- equality, range, and the way back to a natural
pub eq_parts : (a b : ℤ) → up a + dn b ≡ up b + dn a → a ≡ b
eq_parts (pos a) (pos b) h = ap pos (omega arith)
eq_parts (pos a) (negsuc b) h = absurd (omega arith)
eq_parts (negsuc a) (pos b) h = absurd (omega arith)
eq_parts (negsuc a) (negsuc b) h = ap negsuc (omega arith)

pub sum_minus : (a b : ℤ) → a +ℤ b -ℤ a ≡ b
sum_minus a b = eq_parts (a +ℤ b -ℤ a) b (omega (arith, minus_parts (a +ℤ b) a, add_parts a b))

pub mag_parts : (z : ℤ) (H : ℕ) → up z < dn z + H → dn z ≤ up z + H → mag z < H
mag_parts (pos n) H p q = omega arith
mag_parts (negsuc n) H p q = omega arith

pub sfits_parts : (w : Width) (z : ℤ) → up z < dn z + 2 ^ hbits w → dn z ≤ up z + 2 ^ hbits w → SFits w z
sfits_parts w z p q = record { sfits = mag_parts z (2 ^ hbits w) p q }

pub mag_up : (z : ℤ) {H : ℕ} → mag z < H → (up z < H) × (dn z ≤ H)
mag_up (pos n) h = omega arith
mag_up (negsuc n) h = omega arith

pub parts_sfits : {w : Width} {z : ℤ} → SFits w z → (up z < 2 ^ hbits w) × (dn z ≤ 2 ^ hbits w)
parts_sfits {w} {z} h = mag_up z h.sfits

pub non_neg_parts : (z : ℤ) → dn z ≤ up z → T (non_neg z)
non_neg_parts (pos n) h = tt
non_neg_parts (negsuc n) h = absurd (omega arith)

pub nat_abs_parts : (z : ℤ) → dn z ≤ up z → nat_abs z + dn z ≡ up z
nat_abs_parts (pos n) h = omega arith
nat_abs_parts (negsuc n) h = absurd (omega arith)

-- a test of naturals is a test of integers
pub leb_le_z : (r x : ℕ) (a b : ℤ) → (r ≤ x → up a + dn b ≤ up b + dn a) → (up a + dn b ≤ up b + dn a → r ≤ x) → leb r x ≡ le_z a b
leb_le_z r x a b f g = leb_iff r x (up a + dn b) (up b + dn a) f g ∙ sym (le_z_parts a b)

pub ltb_lt_z : (x r : ℕ) (a b : ℤ) → (x < r → up a + dn b < up b + dn a) → (up a + dn b < up b + dn a → x < r) → ltb x r ≡ lt_z a b
ltb_lt_z x r a b f g = leb_iff (suc x) r (suc (up a + dn b)) (up b + dn a) f g ∙ sym (lt_z_parts a b)

-- a signed argument or field reaches a callee's contract, and a need, as what the machine reads back from its bits, which is the number itself
pub back : (w : Width) (z : ℤ) → mag z < 2 ^ hbits w → to_z w (of_z w z) ≡ z
back w z h = to_z-of_z {w = w} {z = z} (record { sfits = h })
