-- One span of the difference grid: its four corners, summed along the rows, give its first row less the row past its last; summed down the columns, its indicator.
use mathlib.Core.Path.{◌≡◌, refl, sym, ap, ap₂, ◌∙◌, subst}
use mathlib.Core.Bool.{Bool, true, false, ◌&&◌}
use mathlib.Core.Logic.{◌⊎◌, inl, inr, ⊎_elim}
use Prim.Native.Nat.{ℕ, suc, ◌+◌, ◌*◌, ◌/◌, ◌%◌, ◌≤◌, ◌<◌}
use native.Mathlib.Nat.{mod-lt, div-add-mod', add-mod_right, add-div_right, mul-le-mul_right, div-eq_of_lt}
use native.Mathlib.Omega.{arith}
use lib.Dec.{ltb, leb, eqb}
use borrow.Author.Tests.{ltb-true, ltb-false, leb-true, leb-false, eqb-true, eqb-false, lt-ltb, le-ltb, lt-leb}
use Rattle.base_laws.proofs.Ints.{leb_iff}
use Rattle.ground_rects.specs.declared.Span.{Span}
use Rattle.ground_rects.specs.Spans.{in_span}
use Rattle.ground_counts.specs.Counts.{bit, in_b, live, at_top_left, at_top_right, at_bottom_left, at_bottom_right, plus1, minus1, row_plus1, row_minus1, cover1}

-- ---- indicators
le_cases : (a i : ℕ) (t : Bool) → leb a i ≡ t → ((a ≤ i) × (bit t ≡ 1)) ⊎ ((i < a) × (bit t ≡ 0))
le_cases a i true e = inl (leb-true a i e, refl)
le_cases a i false e = inr (leb-false a i e, refl)

eq_cases : (i a : ℕ) (t : Bool) → eqb i a ≡ t → ((i ≡ a) × (bit t ≡ 1)) ⊎ ((i ≡ a → ⊥) × (bit t ≡ 0))
eq_cases i a true e = inl (eqb-true i a e, refl)
eq_cases i a false e = inr (eqb-false i a e, refl)

-- [a ≤ i + 1] = [a ≤ i] + [i + 1 = a]
ge_step : (a i : ℕ) → bit (leb a (i + 1)) ≡ bit (leb a i) + bit (eqb (i + 1) a)
ge_step a i =
    ⊎_elim
    (λ p. ⊎_elim
    (λ q. ⊎_elim (λ r. omega arith) (λ r. omega arith) (eq_cases (i + 1) a (eqb (i + 1) a) refl))
    (λ q. ⊎_elim (λ r. omega arith) (λ r. omega arith) (eq_cases (i + 1) a (eqb (i + 1) a) refl))
    (le_cases a i (leb a i) refl))
    (λ p. ⊎_elim
    (λ q. ⊎_elim (λ r. omega arith) (λ r. omega arith) (eq_cases (i + 1) a (eqb (i + 1) a) refl))
    (λ q. ⊎_elim (λ r. omega arith) (λ r. omega arith) (eq_cases (i + 1) a (eqb (i + 1) a) refl))
    (le_cases a i (leb a i) refl))
    (le_cases a (i + 1) (leb a (i + 1)) refl)

ge_zero : (a : ℕ) → bit (leb a 0) ≡ bit (eqb 0 a)
ge_zero a =
    ⊎_elim
    (λ p. ⊎_elim (λ r. omega arith) (λ r. omega arith) (eq_cases 0 a (eqb 0 a) refl))
    (λ p. ⊎_elim (λ r. omega arith) (λ r. omega arith) (eq_cases 0 a (eqb 0 a) refl))
    (le_cases a 0 (leb a 0) refl)

in_by : (a b i : ℕ) (s t u : Bool) → leb a i ≡ s → ltb i b ≡ t → leb b i ≡ u → a ≤ b → bit (s && t) + bit u ≡ bit s
in_by a b i true true true e f g h = absurd (omega (arith, ltb-true i b f, leb-true b i g))
in_by a b i true true false e f g h = refl
in_by a b i true false true e f g h = refl
in_by a b i true false false e f g h = absurd (omega (arith, ltb-false i b f, leb-false b i g))
in_by a b i false t true e f g h = absurd (omega (arith, leb-false a i e, leb-true b i g))
in_by a b i false t false e f g h = refl

-- [a ≤ i < b] + [b ≤ i] = [a ≤ i]
in_ge : (a b i : ℕ) → a ≤ b → bit (in_b a b i) + bit (leb b i) ≡ bit (leb a i)
in_ge a b i h = in_by a b i (leb a i) (ltb i b) (leb b i) refl refl refl h

-- the one-dimensional law, used along the rows and down the columns
pub line_zero : (a b : ℕ) → a ≤ b → bit (in_b a b 0) + bit (eqb 0 b) ≡ bit (eqb 0 a)
line_zero a b h = omega (arith, in_ge a b 0 h, ge_zero a, ge_zero b)

pub line_step : (a b i : ℕ) → a ≤ b → bit (in_b a b (i + 1)) + bit (eqb (i + 1) b) ≡ bit (in_b a b i) + bit (eqb (i + 1) a)
line_step a b i h = omega (arith, in_ge a b i h, in_ge a b (i + 1) h, ge_step a i, ge_step b i)

-- ---- the flat index: i is (i / s) * s + i % s
and_by : (p q u v t : Bool) → (t ≡ true → (p && q) ≡ (u && v)) → (t ≡ false → (p && q) ≡ false) → (p && q) ≡ ((u && v) && t)
and_by p q true true true f g = f refl
and_by p q true true false f g = g refl
and_by p q true false true f g = f refl
and_by p q true false false f g = g refl
and_by p q false v true f g = f refl
and_by p q false v false f g = g refl

no_in : (a b i : ℕ) → ((i < a) ⊎ (b ≤ i)) → in_b a b i ≡ false
no_in a b i (inl h) = ap (λ (t : Bool). t && ltb i b) (lt-leb a i h)
no_in a b i (inr h) = ap (λ (t : Bool). leb a i && t) (le-ltb i b h) ∙ and-false (leb a i)
  where
    and-false : (t : Bool) → (t && false) ≡ false
    and-false true = refl
    and-false false = refl

apart : (y c : ℕ) → (y ≡ c → ⊥) → (suc y ≤ c) ⊎ (suc c ≤ y)
apart y c h = by (ltb y c) refl
  where
    by : (t : Bool) → ltb y c ≡ t → (suc y ≤ c) ⊎ (suc c ≤ y)
    by true e = inl (ltb-true y c e)
    by false e = inr (omega (arith, ltb-false y c e))

-- the columns l up to r of row c are an interval of the flat indexes
pub flat : (s c l r i : ℕ) → 0 < s → r ≤ s → in_b (c * s + l) (c * s + r) i ≡ (in_b l r (i % s) && eqb (i / s) c)
flat s c l r i hs hr =
    and_by (leb (c * s + l) i) (ltb i (c * s + r)) (leb l (i % s)) (ltb (i % s) r) (eqb (i / s) c)
    (λ e. let k : i / s ≡ c = eqb-true (i / s) c e in
    let d : c * s + i % s ≡ i = subst (λ (y : ℕ). y * s + i % s ≡ i) k (div-add-mod' i s) in
    ap₂ ◌&&◌
    (leb_iff (c * s + l) i l (i % s) (λ h. omega arith) (λ h. omega arith))
    (leb_iff (suc i) (c * s + r) (suc (i % s)) r (λ h. omega arith) (λ h. omega arith)))
    (λ e. no_in (c * s + l) (c * s + r) i
    (⊎_elim
    (λ h. inl (omega (arith, div-add-mod' i s, mod-lt i hs, mul-le-mul_right s h)))
    (λ h. inr (omega (arith, div-add-mod' i s, mod-lt i hs, mul-le-mul_right s h)))
    (apart (i / s) c (eqb-false (i / s) c e))))

and_left : (p q : Bool) → (p && q) ≡ true → p ≡ true
and_left true q e = refl
and_left false q e = e

and_right : (p q : Bool) → (p && q) ≡ true → q ≡ true
and_right true q e = e
and_right false q e = absurd (ne e)
  where
    ne : false ≡ true → ⊥
    ne e = let z : ◌≡◌ {A = ℕ} 0 1 = ap bit e in omega arith

pub live_left : (p : Span) → live p ≡ true → p.left < p.right
unfolding live
live_left p e = ltb-true p.left p.right (and_left (ltb p.left p.right) (ltb p.top p.bottom) e)

pub live_top : (p : Span) → live p ≡ true → p.top < p.bottom
unfolding live
live_top p e = ltb-true p.top p.bottom (and_right (ltb p.left p.right) (ltb p.top p.bottom) e)

dead_by : (p : Span) (x y : ℕ) (t : Bool) → in_span p x y ≡ t → live p ≡ false → in_span p x y ≡ false
unfolding in_span live
dead_by p x y false e d = e
dead_by p x y true e d =
    let a = and_left (in_b p.left p.right x) (in_b p.top p.bottom y) e in
    let b = and_right (in_b p.left p.right x) (in_b p.top p.bottom y) e in
    let a₁ = leb-true p.left x (and_left (leb p.left x) (ltb x p.right) a) in
    let a₂ = ltb-true x p.right (and_right (leb p.left x) (ltb x p.right) a) in
    let b₁ = leb-true p.top y (and_left (leb p.top y) (ltb y p.bottom) b) in
    let b₂ = ltb-true y p.bottom (and_right (leb p.top y) (ltb y p.bottom) b) in
    let l : (ltb p.left p.right && ltb p.top p.bottom) ≡ true =
    ap₂ ◌&&◌ (lt-ltb p.left p.right (omega arith)) (lt-ltb p.top p.bottom (omega arith)) in
    let z : ◌≡◌ {A = ℕ} 0 1 = ap bit (sym d ∙ l) in absurd (omega arith)

pub dead : (p : Span) (x y : ℕ) → live p ≡ false → in_span p x y ≡ false
dead p x y d = dead_by p x y (in_span p x y) refl d

box_zero : (c : Bool) (t b : ℕ) → t ≤ b → bit (c && in_b t b 0) + bit (c && eqb 0 b) ≡ bit (c && eqb 0 t)
box_zero true t b h = line_zero t b h
box_zero false t b h = refl

box_step : (c : Bool) (t b y : ℕ) → t ≤ b → bit (c && in_b t b (y + 1)) + bit (c && eqb (y + 1) b) ≡ bit (c && in_b t b y) + bit (c && eqb (y + 1) t)
box_step true t b y h = line_step t b y h
box_step false t b y h = refl

module _ (s : ℕ) (p : Span) where
  row_zero_by : (t : Bool) → live p ≡ t → row_plus1 s p 0 + minus1 s p 0 ≡ row_minus1 s p 0 + plus1 s p 0
  unfolding plus1 minus1 row_plus1 row_minus1
  row_zero_by true e =
      let h = live_left p e in
      rw e (omega (arith, line_zero (at_top_left s p) (at_top_right s p) (omega arith), line_zero (at_bottom_left s p) (at_bottom_right s p) (omega arith)))
  row_zero_by false e = rw e

  pub row_zero : row_plus1 s p 0 + minus1 s p 0 ≡ row_minus1 s p 0 + plus1 s p 0
  row_zero = row_zero_by (live p) refl

  row_step_by : (i : ℕ) (t : Bool) → live p ≡ t → row_plus1 s p (i + 1) + row_minus1 s p i + minus1 s p (i + 1) ≡ row_minus1 s p (i + 1) + row_plus1 s p i + plus1 s p (i + 1)
  unfolding plus1 minus1 row_plus1 row_minus1
  row_step_by i true e =
      let h = live_left p e in
      rw e (omega (arith, line_step (at_top_left s p) (at_top_right s p) i (omega arith), line_step (at_bottom_left s p) (at_bottom_right s p) i (omega arith)))
  row_step_by i false e = rw e

  pub row_step : (i : ℕ) → row_plus1 s p (i + 1) + row_minus1 s p i + minus1 s p (i + 1) ≡ row_minus1 s p (i + 1) + row_plus1 s p i + plus1 s p (i + 1)
  row_step i = row_step_by i (live p) refl

module _ (s : ℕ) (p : Span) (hs : 0 < s) (hr : p.right ≤ s) where
  col_zero_by : (i : ℕ) (t : Bool) → live p ≡ t → i < s → cover1 s p i + row_minus1 s p i ≡ row_plus1 s p i
  unfolding row_plus1 row_minus1 cover1 in_span
  col_zero_by i true e h =
      rw (e, flat s p.top p.left p.right i hs hr, flat s p.bottom p.left p.right i hs hr, div-eq_of_lt h)
      (box_zero (in_b p.left p.right (i % s)) p.top p.bottom (omega (arith, live_top p e)))
  col_zero_by i false e h = rw (e, dead p (i % s) (i / s) e)

  pub col_zero : (i : ℕ) → i < s → cover1 s p i + row_minus1 s p i ≡ row_plus1 s p i
  col_zero i h = col_zero_by i (live p) refl h

  col_step_by : (i : ℕ) (t : Bool) → live p ≡ t → cover1 s p (i + s) + row_minus1 s p (i + s) ≡ cover1 s p i + row_plus1 s p (i + s)
  unfolding row_plus1 row_minus1 cover1 in_span
  col_step_by i true e =
      rw (e, flat s p.top p.left p.right (i + s) hs hr, flat s p.bottom p.left p.right (i + s) hs hr, add-div_right i hs, add-mod_right i s)
      (box_step (in_b p.left p.right (i % s)) p.top p.bottom (i / s) (omega (arith, live_top p e)))
  col_step_by i false e = rw (e, dead p (i % s) (i / s) e, dead p ((i + s) % s) ((i + s) / s) e)

  pub col_step : (i : ℕ) → cover1 s p (i + s) + row_minus1 s p (i + s) ≡ cover1 s p i + row_plus1 s p (i + s)
  col_step i = col_step_by i (live p) refl

pub live_true : (p : Span) → p.left < p.right → p.top < p.bottom → live p ≡ true
unfolding live
live_true p h k = ap₂ ◌&&◌ (lt-ltb p.left p.right h) (lt-ltb p.top p.bottom k)

pub live_across : (p : Span) → p.right ≤ p.left → live p ≡ false
unfolding live
live_across p h = ap (λ (t : Bool). t && ltb p.top p.bottom) (le-ltb p.left p.right h)

pub live_down : (p : Span) → p.bottom ≤ p.top → live p ≡ false
unfolding live
live_down p h = ap (λ (t : Bool). ltb p.left p.right && t) (le-ltb p.top p.bottom h) ∙ and-false (ltb p.left p.right)
  where
    and-false : (t : Bool) → (t && false) ≡ false
    and-false true = refl
    and-false false = refl
