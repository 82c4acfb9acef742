-- The laws of writing: one text after another, a number digit by digit, a signed number, and how long a number is. Assumes nothing.
use mathlib.Core.Path.{◌≡◌, refl, sym, ap, ◌∙◌, subst}
use mathlib.Core.Bool.{Bool, true, false}
use mathlib.Core.List.{List, [], ◌∷◌, ◌++◌}
use Prim.Native.Nat.{ℕ, zero, suc, ◌+◌, ◌-◌, ◌*◌, ◌/◌, ◌%◌, ◌≤◌, ◌<◌}
use native.Mathlib.Omega.{arith}
use native.Mathlib.Nat.{div-add-mod', mod-lt, div-lt_self}
use native.Mathlib.Numerals.{add-one}
use lib.Dec.{ltb}
use borrow.Author.Tests.{ltb-true, ltb-false, eq-eqb, ne_eqb}
use lib.ListN.{length, set, length-append}
use lib.Seq.{sets, length-sets}
use Rattle.text_forms.specs.Forms.{decimal, signed}
use Rattle.text_forms.proofs.Decimals.{one_digit, digit_more, signed_plain, signed_minus}
use Rattle.text_forms.specs.Patterns.{piece, piece_by, limit_of, form_of}
use Rattle.text_forms.specs.Writing.{Put}

pub sets_append : (xs ys l : List ℕ) (i : ℕ) → sets l i (xs ++ ys) ≡ sets (sets l i xs) (i + length xs) ys
sets_append [] ys l i = ap (λ (k : ℕ). sets l k ys) (omega arith)
sets_append (x ∷ xs) ys l i = sets_append xs ys (set l i x) (suc i) ∙ ap (λ (k : ℕ). sets (sets (set l i x) (suc i) xs) k ys) (omega arith)

-- one text after another
pub put_then : (v w before mid out : List ℕ) (at i n : ℕ) → Put v before at mid i → Put w mid i out n → Put (v ++ w) before at out n
put_then v w before mid out at i n h k = record {
  text = k.text ∙ ap (λ (l : List ℕ). sets l i w) h.text ∙ ap (λ (m : ℕ). sets (sets before at v) m w) h.ends ∙ sym (sets_append v w before at);
  ends = (let a : i ≡ at + length v = h.ends in let b : n ≡ i + length w = k.ends in omega (arith, length-append v w));
}

pub put_byte : (c : ℕ) (before : List ℕ) (at : ℕ) → Put (c ∷ []) before at (set before at c) (at + 1)
put_byte c before at = record { text = refl; ends = refl }

pub put_digit : (n : ℕ) (before : List ℕ) (at : ℕ) → n < 10 → Put (decimal n) before at (set before at (48 + n)) (at + 1)
put_digit n before at h = subst (λ (l : List ℕ). Put l before at (set before at (48 + n)) (at + 1)) (sym (one_digit n h)) (put_byte (48 + n) before at)

-- a number is its front and its last digit
pub last_digit_lem : (n : ℕ) → 10 ≤ n → decimal n ≡ decimal (n / 10) ++ ((48 + n % 10) ∷ [])
last_digit_lem n h =
    let e : n / 10 * 10 + n % 10 ≡ n = div-add-mod' n 10 in
    let d : n % 10 < 10 = mod-lt n (omega arith) in
    ap decimal (sym e) ∙ digit_more (n / 10) (n % 10) (omega arith) d

pub front_shorter : (n : ℕ) → 10 ≤ n → length (decimal n) ≡ length (decimal (n / 10)) + 1
front_shorter n h = ap length (last_digit_lem n h) ∙ length-append (decimal (n / 10)) ((48 + n % 10) ∷ [])

pub put_more : (n : ℕ) (before mid : List ℕ) (at i : ℕ) → 10 ≤ n → Put (decimal (n / 10)) before at mid i → Put (decimal n) before at (set mid i (48 + n % 10)) (i + 1)
put_more n before mid at i h k = subst (λ (l : List ℕ). Put l before at (set mid i (48 + n % 10)) (i + 1)) (sym (last_digit_lem n h))
    (put_then (decimal (n / 10)) ((48 + n % 10) ∷ []) before mid (set mid i (48 + n % 10)) at i (i + 1) k (put_byte (48 + n % 10) mid i))

pub put_length : (w before out : List ℕ) (at n : ℕ) → Put w before at out n → length out ≡ length before
put_length w before out at n h = ap length h.text ∙ length-sets before at w

pub one_long : (n : ℕ) → n < 10 → length (decimal n) ≡ 1
one_long n h = ap length (one_digit n h)

-- the last digit's place is inside
pub last_place : (n : ℕ) (before mid : List ℕ) (at i : ℕ) → 10 ≤ n → at + length (decimal n) ≤ length before → Put (decimal (n / 10)) before at mid i → i < length mid
last_place n before mid at i h r k = let a : i ≡ at + length (decimal (n / 10)) = k.ends in omega (arith, front_shorter n h, put_length (decimal (n / 10)) before mid at i k)

-- ---- signed numbers
pub put_plain : (x : ℕ) (before out : List ℕ) (at n : ℕ) → x < 2147483648 → Put (decimal x) before at out n → Put (signed x) before at out n
put_plain x before out at n h k = subst (λ (l : List ℕ). Put l before at out n) (sym (signed_plain x h)) k

pub plain_long : (x : ℕ) → x < 2147483648 → length (signed x) ≡ length (decimal x)
plain_long x h = ap length (signed_plain x h)

-- the code's way to 2³² − x
other : (x : ℕ) → 2147483648 ≤ x → 4294967296 - x ≡ 4294967295 - x + 1 → 45 ∷ decimal (4294967295 - x + 1) ≡ signed x
other x h e = ap (λ (n : ℕ). 45 ∷ decimal n) (sym e) ∙ sym (signed_minus x h)

pub minus_long : (x : ℕ) → 2147483648 ≤ x → x < 4294967296 → length (signed x) ≡ length (decimal (4294967295 - x + 1)) + 1
minus_long x h k = sym (ap length (other x h (omega arith))) ∙ sym (add-one (length (decimal (4294967295 - x + 1))))

pub put_minus : (x : ℕ) (before out : List ℕ) (at n : ℕ) → 2147483648 ≤ x → x < 4294967296 → Put (decimal (4294967295 - x + 1)) (set before at 45) (at + 1) out n → Put (signed x) before at out n
put_minus x before out at n h b k = subst (λ (l : List ℕ). Put l before at out n) (other x h (omega arith))
    (put_then (45 ∷ []) (decimal (4294967295 - x + 1)) before (set before at 45) out at (at + 1) n (put_byte 45 before at) k)

-- ---- how long a number is
-- the digits counted and those of the front are one more than all
pub record Counted (n v k : ℕ) : Type 0 where
  pub all : k + length (decimal v) ≡ length (decimal n) + 1
  pub small : k + v ≤ n + 1

pub counted_start : (n : ℕ) → Counted n n 1
counted_start n = record { all = omega arith; small = omega arith }

pub counted_more : (n v k : ℕ) → 9 < v → Counted n v k → Counted n (v / 10) (k + 1)
counted_more n v k h w =
    let a : k + length (decimal v) ≡ length (decimal n) + 1 = w.all in
    let b : k + v ≤ n + 1 = w.small in
    let less : v / 10 < v = div-lt_self (omega arith) (omega arith) in
    record { all = omega (arith, front_shorter v (omega arith)); small = omega arith }

pub counted_done : (n v k : ℕ) → v ≤ 9 → Counted n v k → k ≡ length (decimal n)
counted_done n v k h w = let a : k + length (decimal v) ≡ length (decimal n) + 1 = w.all in omega (arith, one_long v (omega arith))

-- a number has at most one digit more than its value
short_by : (t n : ℕ) → n < t → length (decimal n) ≤ n + 1
short_by zero n h = absurd (omega arith)
short_by (suc t) n h = go (ltb n 10) refl (λ k. short_by t (n / 10) k)
  where
    go : (b : Bool) → ltb n 10 ≡ b → (n / 10 < t → length (decimal (n / 10)) ≤ n / 10 + 1) → length (decimal n) ≤ n + 1
    go true e ih = omega (arith, one_long n (ltb-true n 10 e))
    go false e ih =
        let big : 10 ≤ n = ltb-false n 10 e in
        let less : n / 10 < n = div-lt_self (omega arith) (omega arith) in
        let k : length (decimal (n / 10)) ≤ n / 10 + 1 = ih (omega arith) in
        omega (arith, front_shorter n big)

pub decimal_short : (n : ℕ) → length (decimal n) ≤ n + 1
decimal_short n = short_by (suc n) n (omega arith)

pub put_same : (v w before out : List ℕ) (at n : ℕ) → v ≡ w → Put w before at out n → Put v before at out n
put_same v w before out at n e h = subst (λ (l : List ℕ). Put l before at out n) (sym e) h

-- ---- a number of a pattern
plain_spell : (m c x : ℕ) → (form_of (piece_by false m c)).spell x ≡ decimal x
plain_spell zero c x = refl
plain_spell (suc m) c x = refl

pub field_signed : (c x : ℕ) → c ≡ 35 → (form_of (piece c)).spell x ≡ signed x
field_signed c x e = ap (λ (t : Bool). (form_of (piece_by t (limit_of c) c)).spell x) (eq-eqb c 35 e)

pub field_plain : (c x : ℕ) → (c ≡ 35 → ⊥) → (form_of (piece c)).spell x ≡ decimal x
field_plain c x ne = ap (λ (t : Bool). (form_of (piece_by t (limit_of c) c)).spell x) (ne_eqb c 35 ne) ∙ plain_spell (limit_of c) c x
