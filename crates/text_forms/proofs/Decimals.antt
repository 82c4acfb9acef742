-- Decimal numbers: one digit more, and that a number is told by its digits and what follows. Reading digit by digit is a function on
-- lists here, the proofs' own means, which no contract cites. Assumes nothing.
use mathlib.Core.Path.{◌≡◌, refl, sym, ap, ◌∙◌, subst}
use mathlib.Core.Bool.{Bool, true, false, ◌&&◌}
use mathlib.Core.List.{List, [], ◌∷◌, ◌++◌, append_assoc, append_cancel_left}
use Prim.Native.Nat.{ℕ, zero, suc, ◌+◌, ◌-◌, ◌*◌, ◌/◌, ◌%◌, ◌≤◌, ◌<◌}
use native.Mathlib.Omega.{arith}
use native.Mathlib.Nat.{div-add-mod', mod-lt, div-lt_self}
use lib.Arith.{digits_div, digits_mod}
use lib.Dec.{ltb, leb}
use borrow.Author.Tests.{ltb-true, ltb-false, leb-true, lt-ltb, le-ltb, le-leb}
use lib.ListN.{length, take}
use Rattle.base_laws.proofs.Members.{both}
use Rattle.text_forms.specs.Forms.{decimal, decimal_by, last_digit, number, signed, integer}
use Rattle.text_forms.specs.Patterns.{pick}
use Rattle.text_forms.specs.Reading.{Past, Stop, Got, Bad}
use Rattle.text_forms.proofs.Laws.{Tells}

-- ---- any number of steps above n serves
module _ where
  tenth : (n : ℕ) → 10 ≤ n → n / 10 < n
  tenth n h = div-lt_self (omega arith) (omega arith)

  enough : (k m n : ℕ) → n < k → n < m → decimal_by k n ≡ decimal_by m n
  unfolding decimal_by
  enough zero m n h e = absurd (omega arith)
  enough (suc k) zero n h e = absurd (omega arith)
  enough (suc k) (suc m) n h e = go (ltb n 10) refl (λ p q. enough k m (n / 10) p q)
    where
      go : (t : Bool) → ltb n 10 ≡ t → (n / 10 < k → n / 10 < m → decimal_by k (n / 10) ≡ decimal_by m (n / 10))
          → last_digit t n (λ _. decimal_by k (n / 10)) ≡ last_digit t n (λ _. decimal_by m (n / 10))
      go true q ih = refl
      go false q ih = ap (λ (l : List ℕ). l ++ ((48 + n % 10) ∷ [])) (ih (omega (arith, tenth n (ltb-false n 10 q))) (omega (arith, tenth n (ltb-false n 10 q))))

pub one_digit : (d : ℕ) → d < 10 → decimal d ≡ (48 + d) ∷ []
unfolding decimal decimal_by
one_digit d h = rw (lt-ltb d 10 h)

pub digit_more : (v d : ℕ) → 0 < v → d < 10 → decimal (v * 10 + d) ≡ decimal v ++ ((48 + d) ∷ [])
unfolding decimal decimal_by
digit_more v d p h =
    rw (le-ltb (v * 10 + d) 10 (omega arith), digits_div v h, digits_mod v h)
    (ap (λ (l : List ℕ). l ++ ((48 + d) ∷ [])) (enough (v * 10 + d) (suc v) v (omega arith) (omega arith)))

-- ---- digit by digit
-- c is a digit that may follow v, below max
pub record Goes (max v c : ℕ) : Type 0 where
  pub low : 48 ≤ c
  pub high : c ≤ 57
  pub positive : 0 < v
  pub below : v * 10 + (c - 48) ≤ max

goes : ℕ → ℕ → ℕ → Bool
goes max v c = leb 48 c && (leb c 57 && (ltb 0 v && leb (v * 10 + (c - 48)) max))

goes_fact : (max v c : ℕ) → goes max v c ≡ true → Goes max v c
unfolding goes
goes_fact max v c e =
    let lo = both (leb 48 c) _ e in
    let hi = both (leb c 57) _ lo.1 in
    let pos = both (ltb 0 v) _ hi.1 in
    record {
      low = leb-true 48 c lo.0;
      high = leb-true c 57 hi.0;
      positive = ltb-true 0 v pos.0;
      below = leb-true (v * 10 + (c - 48)) max pos.1;
    }

fact_goes : (max v c : ℕ) → Goes max v c → goes max v c ≡ true
unfolding goes
fact_goes max v c h = rw (le-leb 48 c h.low, le-leb c 57 h.high, lt-ltb 0 v h.positive, le-leb (v * 10 + (c - 48)) max h.below)

not_goes : (max v c : ℕ) → (Goes max v c → ⊥) → goes max v c ≡ false
not_goes max v c h = go (goes max v c) refl
  where
    go : (t : Bool) → goes max v c ≡ t → t ≡ false
    go true e = absurd (h (goes_fact max v c e))
    go false e = refl

-- the number that v and the digits at the start of a list make
run : ℕ → ℕ → List ℕ → ℕ
run max v [] = v
run max v (c ∷ t) = pick (goes max v c) (run max (v * 10 + (c - 48)) t) v

start : ℕ → List ℕ → ℕ
start max [] = 0
start max (c ∷ t) = run max (c - 48) t

-- nothing at the start of a list goes on from v
unfoldable pub Ends : ℕ → ℕ → List ℕ → Type 0
Ends max v [] = Unit {0}
Ends max v (c ∷ t) = Goes max v c → ⊥

run_ends : (max v : ℕ) (t : List ℕ) → Ends max v t → run max v t ≡ v
unfolding run Ends
run_ends max v [] h = refl
run_ends max v (c ∷ t) h = rw (not_goes max v c h)

-- v is ten times its front, and its last digit
front : (v : ℕ) → v / 10 * 10 + v % 10 ≡ v
front v = div-add-mod' v 10

start_by : (k max v : ℕ) (y : List ℕ) → v < k → v ≤ max → start max (decimal v ++ y) ≡ run max v y
unfolding start run
start_by zero max v y h m = absurd (omega arith)
start_by (suc k) max v y h m = go (ltb v 10) refl (λ p q. start_by k max (v / 10) ((48 + v % 10) ∷ y) p q)
  where
    go : (t : Bool) → ltb v 10 ≡ t → (v / 10 < k → v / 10 ≤ max → start max (decimal (v / 10) ++ ((48 + v % 10) ∷ y)) ≡ run max (v / 10) ((48 + v % 10) ∷ y))
        → start max (decimal v ++ y) ≡ run max v y
    go true e ih =
        let z : 48 + v - 48 ≡ v = omega arith in
        ap (λ (l : List ℕ). start max (l ++ y)) (one_digit v (ltb-true v 10 e)) ∙ ap (λ (n : ℕ). run max n y) z
    go false e ih =
        let big : 10 ≤ v = ltb-false v 10 e in
        let less : v / 10 < v = tenth v big in
        let d : v % 10 < 10 = mod-lt v (omega arith) in
        let p : 0 < v / 10 = omega (arith, front v) in
        let back : 48 + v % 10 - 48 ≡ v % 10 = omega arith in
        let g : goes max (v / 10) (48 + v % 10) ≡ true =
        fact_goes max (v / 10) (48 + v % 10) (record { low = omega arith; high = omega arith; positive = p; below = omega (arith, front v) }) in
        ap (λ (n : ℕ). start max (decimal n ++ y)) (sym (front v))
        ∙ ap (λ (l : List ℕ). start max (l ++ y)) (digit_more (v / 10) (v % 10) p d)
        ∙ ap (start max) (append_assoc (decimal (v / 10)) ((48 + v % 10) ∷ []) y)
        ∙ ih (omega arith) (omega arith)
        ∙ ap (λ (t : Bool). pick t (run max (v / 10 * 10 + (48 + v % 10 - 48)) y) (v / 10)) g
        ∙ ap (λ (n : ℕ). run max n y) (ap (λ (n : ℕ). v / 10 * 10 + n) back ∙ front v)

-- a number up to max is what its digits make, where nothing goes on
told : (max v : ℕ) (y : List ℕ) → v ≤ max → Ends max v y → start max (decimal v ++ y) ≡ v
told max v y h e = start_by (suc v) max v y (omega arith) h ∙ run_ends max v y e

-- no digit follows a form: nothing goes on
stop_ends : (max v : ℕ) (x : List ℕ) → Stop x → Ends max v x
unfolding Ends
stop_ends max v [] h = tt
stop_ends max v (c ∷ x) h = λ g. let z : 57 < c = h g.low in omega (arith, g.high)

ends_past : (max v : ℕ) (r y : List ℕ) → 0 < length r → Ends max v r → Ends max v (take 1 r ++ y)
unfolding Ends
ends_past max v [] y p h = absurd (omega arith)
ends_past max v (c ∷ r) y p h = h

-- ---- the two outcomes of reading a number
pub number_got : (max v : ℕ) (t r : List ℕ) → v ≤ max → t ≡ decimal v ++ r → 0 < length r → Ends max v r → Got (number max) t v r
number_got max v t r h e p n = record {
  fits = h;
  text = e;
  only = λ b x u stop past.
      sym (told max b x u (stop_ends max b x stop))
      ∙ ap (start max) past.text
      ∙ told max v (take 1 r ++ past.rest) h (ends_past max v r past.rest p n);
}

-- a number's first byte is a digit, and above zero no zero
pub record First (v : ℕ) (l : List ℕ) : Type 0 where
  pub head : ℕ
  pub tail : List ℕ
  pub text : l ≡ head ∷ tail
  pub low : 48 ≤ head
  pub high : head ≤ 57
  pub above : 0 < v → 49 ≤ head

first_by : (k v : ℕ) (y : List ℕ) → v < k → First v (decimal v ++ y)
first_by zero v y h = absurd (omega arith)
first_by (suc k) v y h = go (ltb v 10) refl (λ p. first_by k (v / 10) ((48 + v % 10) ∷ y) p)
  where
    go : (t : Bool) → ltb v 10 ≡ t → (v / 10 < k → First (v / 10) (decimal (v / 10) ++ ((48 + v % 10) ∷ y))) → First v (decimal v ++ y)
    go true e ih = let s : v < 10 = ltb-true v 10 e in
        record { head = 48 + v; tail = y; text = ap (λ (l : List ℕ). l ++ y) (one_digit v s); low = omega arith; high = omega arith; above = λ p. omega arith }
    go false e ih =
        let big : 10 ≤ v = ltb-false v 10 e in
        let less : v / 10 < v = tenth v big in
        let d : v % 10 < 10 = mod-lt v (omega arith) in
        let p : 0 < v / 10 = omega (arith, front v) in
        let w : First (v / 10) (decimal (v / 10) ++ ((48 + v % 10) ∷ y)) = ih (omega arith) in
        record {
          head = w.head;
          tail = w.tail;
          text = ap (λ (n : ℕ). decimal n ++ y) (sym (front v))
              ∙ ap (λ (l : List ℕ). l ++ y) (digit_more (v / 10) (v % 10) p d)
              ∙ append_assoc (decimal (v / 10)) ((48 + v % 10) ∷ []) y ∙ w.text;
          low = w.low;
          high = w.high;
          above = λ q. w.above p;
        }

pub first : (v : ℕ) (y : List ℕ) → First v (decimal v ++ y)
first v y = first_by (suc v) v y (omega arith)

abbrev pub head_of : List ℕ → ℕ
head_of [] = 0
head_of (d ∷ l) = d

pub number_bad : (max : ℕ) (t : List ℕ) → 0 < length t → Stop t → Bad (number max) t [] t
number_bad max [] p h = absurd (omega arith)
number_bad max (c ∷ t) p h = record { text = refl; begins = (0, decimal 0, omega arith, refl); none = λ b x u past. go b x past (first b x) }
  where
    go : (b : ℕ) (x : List ℕ) → Past (decimal b ++ x) [] (c ∷ t) → First b (decimal b ++ x) → ⊥
    go b x past w =
        let e : w.head ≡ c = ap head_of (sym w.text ∙ past.text) in
        let lo : 48 ≤ c = omega arith in
        let hi : 57 < c = h lo in omega arith

-- a digit above max begins no number
pub number_above : (max c : ℕ) (t : List ℕ) → 48 ≤ c → c ≤ 57 → max < c - 48 → Bad (number max) (c ∷ t) [] (c ∷ t)
number_above max c t lo hi above = record {
  text = refl;
  begins = (0, decimal 0, omega arith, refl);
  none = λ b x u past.
      let e : 48 + b ≡ c = sym (ap (λ (l : List ℕ). head_of (l ++ x)) (one_digit b (omega arith))) ∙ ap head_of past.text in
      omega arith;
}

-- a number is told by its digits where no digit follows
pub number_tells : (max : ℕ) → Tells Stop (number max)
number_tells max = record {
  tells = λ a b x y u v p q e.
      sym (told max a x u (stop_ends max a x p)) ∙ ap (start max) e ∙ told max b y v (stop_ends max b y q);
}

-- ---- signed numbers
pub signed_plain : (x : ℕ) → x < 2147483648 → signed x ≡ decimal x
unfolding signed
signed_plain x h = rw (lt-ltb x 2147483648 h)

pub signed_minus : (x : ℕ) → 2147483648 ≤ x → signed x ≡ 45 ∷ decimal (4294967296 - x)
unfolding signed
signed_minus x h = rw (le-ltb x 2147483648 h)

past_head : (u p r t : List ℕ) → Past u p r → t ≡ p ++ r → 0 < length r → head_of u ≡ head_of t
past_head u [] [] t h e n = absurd (omega arith)
past_head u [] (c ∷ r) t h e n = ap head_of h.text ∙ sym (ap head_of e)
past_head u (d ∷ p) r t h e n = ap head_of h.text ∙ sym (ap head_of e)

-- two kinds of values
sign : (x : ℕ) (P : Type 0) → (x < 2147483648 → P) → (2147483648 ≤ x → P) → P
sign x P f g = go (ltb x 2147483648) refl
  where
    go : (t : Bool) → ltb x 2147483648 ≡ t → P
    go true e = f (ltb-true x 2147483648 e)
    go false e = g (ltb-false x 2147483648 e)

module _ (t r : List ℕ) (long : 0 < length r) (no : head_of t ≡ 45 → ⊥) where
  pub plain_got : (v : ℕ) → Got (number 2147483647) t v r → Got integer t v r
  plain_got v h =
      let fit : v ≤ 2147483647 = h.fits in
      let sv : signed v ≡ decimal v = signed_plain v (omega arith) in
      record {
        fits = omega arith;
        text = h.text ∙ ap (λ (l : List ℕ). l ++ r) (sym sv);
        only = λ b x u stop past.
            let past' : Past (signed b ++ x) (decimal v) r = subst (λ (l : List ℕ). Past (signed b ++ x) l r) sv past in
            sign b (b ≡ v)
            (λ small. h.only b x (omega arith) stop (subst (λ (l : List ℕ). Past (l ++ x) (decimal v) r) (signed_plain b small) past'))
            (λ large. absurd (no (sym (past_head (signed b ++ x) (decimal v) r t past' h.text long) ∙ ap (λ (l : List ℕ). head_of (l ++ x)) (signed_minus b large))));
      }

  pub plain_bad : (p : List ℕ) → Bad (number 2147483647) t p r → Bad integer t p r
  plain_bad p h =
      let a : ℕ = h.begins.0 in
      let fit : a ≤ 2147483647 = h.begins.2 in
      record {
        text = h.text;
        begins = (a, h.begins.1, omega arith, signed_plain a (omega arith) ∙ h.begins.3);
        none = λ b x u past.
            sign b ⊥
            (λ small. h.none b x (omega arith) (subst (λ (l : List ℕ). Past (l ++ x) p r) (signed_plain b small) past))
            (λ large. no (sym (past_head (signed b ++ x) p r t past h.text long) ∙ ap (λ (l : List ℕ). head_of (l ++ x)) (signed_minus b large)));
      }

-- after the sign
plain_head : (b : ℕ) (x p r : List ℕ) → b < 2147483648 → Past (signed b ++ x) (45 ∷ p) r → ⊥
plain_head b x p r h past =
    let w : First b (decimal b ++ x) = first b x in
    let e : w.head ≡ 45 = ap head_of (sym w.text ∙ ap (λ (l : List ℕ). l ++ x) (sym (signed_plain b h)) ∙ past.text) in
    omega (arith, w.low)

past_tail : (c : ℕ) (u p r : List ℕ) → Past (c ∷ u) (c ∷ p) r → Past u p r
past_tail c u p r h = record { rest = h.rest; text = append_cancel_left (c ∷ []) u (p ++ (take 1 r ++ h.rest)) h.text }

minus_past : (b : ℕ) (x p r : List ℕ) → 2147483648 ≤ b → Past (signed b ++ x) (45 ∷ p) r → Past (decimal (4294967296 - b) ++ x) p r
minus_past b x p r h past = past_tail 45 (decimal (4294967296 - b) ++ x) p r (subst (λ (l : List ℕ). Past (l ++ x) (45 ∷ p) r) (signed_minus b h) past)

minus_spell : (v : ℕ) → 0 < v → v ≤ 2147483648 → signed (4294967296 - v) ≡ 45 ∷ decimal v
minus_spell v pos fit = signed_minus (4294967296 - v) (omega arith) ∙ ap (λ (n : ℕ). 45 ∷ decimal n) twice
  where
    twice : 4294967296 - (4294967296 - v) ≡ v
    twice = omega arith

pub minus_got : (t r : List ℕ) (v : ℕ) → 0 < v → Got (number 2147483648) t v r → Got integer (45 ∷ t) (4294967296 - v) r
minus_got t r v pos h =
    let fit : v ≤ 2147483648 = h.fits in
    let sv : signed (4294967296 - v) ≡ 45 ∷ decimal v = minus_spell v pos fit in
    record {
      fits = omega arith;
      text = ap (λ (l : List ℕ). 45 ∷ l) h.text ∙ ap (λ (l : List ℕ). l ++ r) (sym sv);
      only = λ b x u stop past.
          let past' : Past (signed b ++ x) (45 ∷ decimal v) r = subst (λ (l : List ℕ). Past (signed b ++ x) l r) sv past in
          sign b (b ≡ 4294967296 - v)
          (λ small. absurd (plain_head b x (decimal v) r small past'))
          (λ large.
          let e : 4294967296 - b ≡ v = h.only (4294967296 - b) x (omega arith) stop (minus_past b x (decimal v) r large past') in
          let fb : b < 4294967296 = u in omega arith);
    }

pub minus_bad : (c : ℕ) (t : List ℕ) → (49 ≤ c → 57 < c) → Bad integer (45 ∷ c ∷ t) (45 ∷ []) (c ∷ t)
minus_bad c t h = record {
  text = refl;
  begins = (4294967295, 49 ∷ [], omega arith, minus_one);
  none = λ b x u past.
      sign b ⊥
      (λ small. plain_head b x [] (c ∷ t) small past)
      (λ large.
      let fb : b < 4294967296 = u in
      let w : First (4294967296 - b) (decimal (4294967296 - b) ++ x) = first (4294967296 - b) x in
      let e : w.head ≡ c = ap head_of (sym w.text ∙ (minus_past b x [] (c ∷ t) large past).text) in
      let lo : 49 ≤ c = (let z : 49 ≤ w.head = w.above (omega arith) in omega arith) in
      let hi : 57 < c = h lo in omega (arith, w.high));
}
  where
    minus_one : signed 4294967295 ≡ 45 ∷ 49 ∷ []
    minus_one = signed_minus 4294967295 (omega arith) ∙ ap (λ (l : List ℕ). 45 ∷ l) (one_digit 1 (omega arith))

pub integer_tells : Tells Stop integer
integer_tells = record {
  tells = λ a b x y u v p q e.
      sign a (a ≡ b)
      (λ small. sign b (a ≡ b)
      (λ small'. (number_tells 4294967296).tells a b x y (omega arith) (omega arith) p q
      (ap (λ (l : List ℕ). l ++ x) (sym (signed_plain a small)) ∙ e ∙ ap (λ (l : List ℕ). l ++ y) (signed_plain b small')))
      (λ large'. absurd (plain_head a x [] [] small (sign_past a b x y large' e))))
      (λ large. sign b (a ≡ b)
      (λ small'. absurd (plain_head b y [] [] small' (sign_past b a y x large (sym e))))
      (λ large'.
      let k : 4294967296 - a ≡ 4294967296 - b = (number_tells 4294967296).tells (4294967296 - a) (4294967296 - b) x y (omega arith) (omega arith) p q
      (append_cancel_left (45 ∷ []) (decimal (4294967296 - a) ++ x) (decimal (4294967296 - b) ++ y)
      (ap (λ (l : List ℕ). l ++ x) (sym (signed_minus a large)) ∙ e ∙ ap (λ (l : List ℕ). l ++ y) (signed_minus b large'))) in
      let ua : a < 4294967296 = u in let ub : b < 4294967296 = v in omega arith));
}
  where
    sign_past : (a b : ℕ) (x y : List ℕ) → 2147483648 ≤ b → signed a ++ x ≡ signed b ++ y → Past (signed a ++ x) (45 ∷ []) []
    sign_past a b x y large e = record { rest = decimal (4294967296 - b) ++ y; text = e ∙ ap (λ (l : List ℕ). l ++ y) (signed_minus b large) }
