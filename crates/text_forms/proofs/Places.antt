-- Reading at places of a text: what stands there is one thing, and the steps of the readers of numbers. Assumes nothing.
use mathlib.Core.Path.{◌≡◌, sym, ap, ◌∙◌, subst}
use mathlib.Core.List.{List, [], ◌∷◌, ◌++◌, append_assoc, append_cancel_left, append_cancel_right}
use Prim.Native.Nat.{ℕ, ◌+◌, ◌-◌, ◌*◌, ◌≤◌, ◌<◌}
use native.Mathlib.Omega.{arith}
use native.Mathlib.Numerals.{add-one}
use lib.ListN.{length, take, drop, get_or, length-append, length-drop, drop_of_length-le, take-append-drop}
use lib.Seq.{drop-cons, drop-drop, length-take-le}
use Rattle.text_forms.specs.Forms.{Form, decimal, number, integer}
use Rattle.text_forms.specs.Reading.{Stop, Got, Bad, GotAt, BadAt, ReadAs, Out, got, bad, from}
use Rattle.text_forms.proofs.Laws.{Tells, got_bad, bad_same, got_same}
use Rattle.text_forms.proofs.Decimals.{Goes, Ends, one_digit, digit_more, number_got, number_bad, number_above, head_of, plain_got, plain_bad, minus_got, minus_bad}

pub from_cons : (s : List ℕ) (i : ℕ) → i < length s → from i s ≡ get_or s i 0 ∷ from (i + 1) s
from_cons s i h = ap (λ (l : List ℕ). l ++ (256 ∷ [])) (drop-cons s i 0 h ∙ ap (λ (n : ℕ). get_or s i 0 ∷ drop n s) (sym (add-one i)))

pub from_end : (s : List ℕ) (i : ℕ) → length s ≤ i → from i s ≡ 256 ∷ []
from_end s i h = ap (λ (l : List ℕ). l ++ (256 ∷ [])) (drop_of_length-le s h)

pub from_long : (s : List ℕ) (i : ℕ) → 0 < length (from i s)
from_long s i = simp (length-append) (omega arith)

-- the two kinds of answer, made; a fault where the reader began
pub bad_here : {A : Type 0} (f : Form A) (s : List ℕ) (at : ℕ) → at ≤ length s → Bad f (from at s) [] (from at s) → BadAt f s at at
bad_here f s at h b = record { after = omega arith; inside = h; bad = rw (nothing) b }
  where
    nothing : at - at ≡ 0
    nothing = omega arith

-- ---- a number
-- v has been read up to i
pub record Taking (s : List ℕ) (at max v i : ℕ) : Type 0 where
  pub after : at ≤ i
  pub inside : i ≤ length s
  pub below : v ≤ max
  pub text : from at s ≡ decimal v ++ from i s

pub taking_first : (s : List ℕ) (at max : ℕ) → get_or s at 0 - 48 ≤ max → at < length s → 48 ≤ get_or s at 0 → get_or s at 0 ≤ 57 → Taking s at max (get_or s at 0 - 48) (at + 1)
taking_first s at max m h lo hi = record {
  after = omega arith;
  inside = omega arith;
  below = omega arith;
  text = from_cons s at h ∙ ap (λ (c : ℕ). c ∷ from (at + 1) s) back ∙ ap (λ (l : List ℕ). l ++ from (at + 1) s) (sym (one_digit (get_or s at 0 - 48) (omega arith)));
}
  where
    back : get_or s at 0 ≡ 48 + (get_or s at 0 - 48)
    back = omega arith

pub taking_next : (s : List ℕ) (at max v i : ℕ) → Taking s at max v i → i < length s → Goes max v (get_or s i 0) → Taking s at max (v * 10 + (get_or s i 0 - 48)) (i + 1)
taking_next s at max v i r h g = record {
  after = omega arith;
  inside = omega arith;
  below = g.below;
  text = r.text ∙ ap (λ (l : List ℕ). decimal v ++ l) (from_cons s i h ∙ ap (λ (c : ℕ). c ∷ from (i + 1) s) back)
      ∙ sym (append_assoc (decimal v) ((48 + (get_or s i 0 - 48)) ∷ []) (from (i + 1) s))
      ∙ ap (λ (l : List ℕ). l ++ from (i + 1) s) (sym (digit_more v (get_or s i 0 - 48) g.positive (omega (arith, g.high))));
}
  where
    back : get_or s i 0 ≡ 48 + (get_or s i 0 - 48)
    back = omega (arith, g.low)

taking_done : (s : List ℕ) (at max v i : ℕ) → Taking s at max v i → Ends max v (from i s) → GotAt (number max) s at v i
taking_done s at max v i r e = record { after = r.after; inside = r.inside; got = number_got max v (from at s) (from i s) r.below r.text (from_long s i) e }

pub taking_stops : (s : List ℕ) (at max v i : ℕ) → Taking s at max v i → i < length s → (Goes max v (get_or s i 0) → ⊥) → GotAt (number max) s at v i
unfolding Ends
taking_stops s at max v i r h g = taking_done s at max v i r (subst (λ (l : List ℕ). Ends max v l) (sym (from_cons s i h)) g)

pub taking_ends : (s : List ℕ) (at max v i : ℕ) → Taking s at max v i → length s ≤ i → GotAt (number max) s at v i
unfolding Ends
taking_ends s at max v i r h = taking_done s at max v i r (subst (λ (l : List ℕ). Ends max v l) (sym (from_end s i h)) (λ g. omega (arith, g.high)))

number_none : (s : List ℕ) (at max : ℕ) → at ≤ length s → Stop (from at s) → ReadAs (number max) s at (Out.bad at)
number_none s at max h stop = record { right = bad_here (number max) s at h (number_bad max (from at s) (from_long s at) stop) }

pub stop_end : (s : List ℕ) (i : ℕ) → length s ≤ i → Stop (from i s)
stop_end s i h = subst (λ (l : List ℕ). Stop l) (sym (from_end s i h)) (λ g. omega arith)

pub stop_at : (s : List ℕ) (i : ℕ) → i < length s → (48 ≤ get_or s i 0 → 57 < get_or s i 0) → Stop (from i s)
stop_at s i h g = subst (λ (l : List ℕ). Stop l) (sym (from_cons s i h)) g

pub none_end : (s : List ℕ) (at max : ℕ) → at ≡ length s → ReadAs (number max) s at (Out.bad at)
none_end s at max h = number_none s at max (omega arith) (stop_end s at (omega arith))

pub none_at : (s : List ℕ) (at max : ℕ) → at < length s → (48 ≤ get_or s at 0 → 57 < get_or s at 0) → ReadAs (number max) s at (Out.bad at)
none_at s at max h g = number_none s at max (omega arith) (stop_at s at h g)

pub none_above : (s : List ℕ) (at max : ℕ) → at < length s → 48 ≤ get_or s at 0 → get_or s at 0 ≤ 57 → max < get_or s at 0 - 48 → ReadAs (number max) s at (Out.bad at)
none_above s at max h lo hi above = record {
  right = bad_here (number max) s at (omega arith)
      (subst (λ (t : List ℕ). Bad (number max) t [] t) (sym (from_cons s at h)) (number_above max (get_or s at 0) (from (at + 1) s) lo hi above));
}

-- ---- any form, at places
pub split_from : (s : List ℕ) (at p : ℕ) → at ≤ p → from at s ≡ take (p - at) (drop at s) ++ from p s
split_from s at p h =
    let e : at + (p - at) ≡ p = omega arith in
    ap (λ (l : List ℕ). l ++ (256 ∷ [])) (sym (take-append-drop (p - at) (drop at s)))
    ∙ append_assoc (take (p - at) (drop at s)) (drop (p - at) (drop at s)) (256 ∷ [])
    ∙ ap (λ (l : List ℕ). take (p - at) (drop at s) ++ (l ++ (256 ∷ []))) (drop-drop (p - at) at s ∙ ap (λ (n : ℕ). drop n s) e)

-- any way to the same rest is the part between the places
same_part : (s : List ℕ) (at p : ℕ) (l : List ℕ) → at ≤ p → from at s ≡ l ++ from p s → l ≡ take (p - at) (drop at s)
same_part s at p l h e = append_cancel_right l (take (p - at) (drop at s)) (from p s) (sym e ∙ split_from s at p h)

-- a fault in any beginning is one between places
pub bad_at : {A : Type 0} (f : Form A) (s : List ℕ) (at p : ℕ) (l : List ℕ) → at ≤ p → p ≤ length s → Bad f (from at s) l (from p s) → BadAt f s at p
bad_at f s at p l h k b = record { after = h; inside = k; bad = subst (λ (q : List ℕ). Bad f (from at s) q (from p s)) (same_part s at p l h b.text) b }

-- ---- at a place there is one answer
pub long_from : (s : List ℕ) (i : ℕ) → i ≤ length s → length (from i s) ≡ length s - i + 1
long_from s i h = length-append (drop i s) (256 ∷ []) ∙ ap (λ (n : ℕ). n + 1) (length-drop i s)

module _ {A : Type 0} (f : Form A) (s : List ℕ) {at : ℕ} where
  pub not_both : {n p : ℕ} {a : A} → GotAt f s at a n → BadAt f s at p → ⊥
  not_both h k = got_bad f h.got k.bad

  fault_le : {p q : ℕ} → BadAt f s at p → BadAt f s at q → q ≤ p
  fault_le {p} {q} h k =
      let hi : p ≤ length s = h.inside in let ki : q ≤ length s = k.inside in let ha : at ≤ p = h.after in let ka : at ≤ q = k.after in
      let e : length (take (q - at) (drop at s)) ≤ length (take (p - at) (drop at s)) = bad_same f h.bad k.bad in
      omega (arith, length-take-le (p - at) (drop at s) (omega (arith, length-drop at s)), length-take-le (q - at) (drop at s) (omega (arith, length-drop at s)))

  pub one_fault : {p q : ℕ} → BadAt f s at p → BadAt f s at q → p ≡ q
  one_fault {p} {q} h k = let a : q ≤ p = fault_le h k in let b : p ≤ q = fault_le k h in omega arith

  pub one_value : {n m : ℕ} {a b : A} → Tells Stop f → GotAt f s at a n → GotAt f s at b m → (a ≡ b) × (n ≡ m)
  one_value {n} {m} {a} {b} once h k =
      let e : a ≡ b = got_same f once h.got k.got in
      let t : f.spell a ++ from n s ≡ f.spell a ++ from m s = sym h.got.text ∙ k.got.text ∙ ap (λ (z : A). f.spell z ++ from m s) (sym e) in
      let l : length (from n s) ≡ length (from m s) = ap length (append_cancel_left (f.spell a) (from n s) (from m s) t) in
      let hi : n ≤ length s = h.inside in let ki : m ≤ length s = k.inside in
      (e, omega (arith, long_from s n hi, long_from s m ki))

-- ---- a signed number
no_minus : (s : List ℕ) (at : ℕ) → at < length s → (get_or s at 0 ≡ 45 → ⊥) → head_of (from at s) ≡ 45 → ⊥
no_minus s at h ne e = ne (sym (ap head_of (from_cons s at h)) ∙ e)

pub plain_reads : (s : List ℕ) (at : ℕ) (o : Out ℕ) → at < length s → (get_or s at 0 ≡ 45 → ⊥) → ReadAs (number 2147483647) s at o → ReadAs integer s at o
plain_reads s at (got v n) h ne k = record {
  right = record {
    after = k.right.after;
    inside = k.right.inside;
    got = plain_got (from at s) (from n s) (from_long s n) (no_minus s at h ne) v k.right.got;
  };
}
plain_reads s at (bad p) h ne k = record {
  right = record {
    after = k.right.after;
    inside = k.right.inside;
    bad = plain_bad (from at s) (from p s) (from_long s p) (no_minus s at h ne) (take (p - at) (drop at s)) k.right.bad;
  };
}

pub plain_short : (s : List ℕ) (at : ℕ) → at ≡ length s → ReadAs integer s at (bad at)
plain_short s at h = record {
  right = bad_here integer s at (omega arith)
      (plain_bad (from at s) (from at s) (from_long s at) (λ e. let z : 256 ≡ 45 = sym (ap head_of (from_end s at (omega arith))) ∙ e in omega arith) []
      (number_bad 2147483647 (from at s) (from_long s at) (stop_end s at (omega arith))));
}

pub minus_reads : (s : List ℕ) (at v n : ℕ) → at < length s → get_or s at 0 ≡ 45 → (v ≡ 0 → ⊥) → GotAt (number 2147483648) s (at + 1) v n → ReadAs integer s at (got (4294967295 - (v - 1)) n)
minus_reads s at v n h e nz k =
    let fit : v ≤ 2147483648 = k.got.fits in
    let pos : 0 < v = omega (arith, nz) in
    let same : 4294967296 - v ≡ 4294967295 - (v - 1) = omega arith in
    record {
      right = record {
        after = (let a : at + 1 ≤ n = k.after in omega arith);
        inside = k.inside;
        got = subst (λ (w : ℕ). Got integer (from at s) w (from n s)) same
            (subst (λ (t : List ℕ). Got integer t (4294967296 - v) (from n s)) (sym (from_cons s at h ∙ ap (λ (c : ℕ). c ∷ from (at + 1) s) e))
            (minus_got (from (at + 1) s) (from n s) v pos k.got));
      };
    }

minus_fault : (s : List ℕ) (at c : ℕ) (l : List ℕ) → at < length s → get_or s at 0 ≡ 45 → from (at + 1) s ≡ c ∷ l → (49 ≤ c → 57 < c) → ReadAs integer s at (bad (at + 1))
minus_fault s at c l h e k g = record {
  right = bad_at integer s at (at + 1) (45 ∷ []) (omega arith) (omega arith)
      (subst (λ (t : List ℕ). Bad integer t (45 ∷ []) (from (at + 1) s)) (sym (from_cons s at h ∙ ap (λ (d : ℕ). d ∷ from (at + 1) s) e))
      (subst (λ (t : List ℕ). Bad integer (45 ∷ t) (45 ∷ []) t) (sym k) (minus_bad c l g)));
}

pub minus_wrong : (s : List ℕ) (at : ℕ) → at + 1 < length s → get_or s at 0 ≡ 45 → (49 ≤ get_or s (at + 1) 0 → 57 < get_or s (at + 1) 0) → ReadAs integer s at (bad (at + 1))
minus_wrong s at h e g = minus_fault s at (get_or s (at + 1) 0) (from (at + 1 + 1) s) (omega arith) e (from_cons s (at + 1) h) g

pub minus_short : (s : List ℕ) (at : ℕ) → at < length s → at + 1 ≡ length s → get_or s at 0 ≡ 45 → ReadAs integer s at (bad (at + 1))
minus_short s at h k e = minus_fault s at 256 [] h e (from_end s (at + 1) (omega arith)) (λ z. omega arith)

-- where no zero stands, no zero is read
pub no_zero : (s : List ℕ) (at max v n : ℕ) → at < length s → 49 ≤ get_or s at 0 → GotAt (number max) s at v n → v ≡ 0 → ⊥
no_zero s at max v n h lo k z =
    let e : get_or s at 0 ≡ 48 = sym (ap head_of (from_cons s at h)) ∙ ap head_of k.got.text ∙ ap (λ (w : ℕ). head_of (decimal w ++ from n s)) z
    ∙ ap (λ (l : List ℕ). head_of (l ++ from n s)) (one_digit 0 (omega arith)) in
    omega arith
