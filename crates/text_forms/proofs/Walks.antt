-- The loops over a pattern. What the rest of the pattern comes to is what the whole comes to; the readers' loops carry that as a function.
-- Assumes nothing.
use mathlib.Core.Path.{◌≡◌, refl, sym, ap, ◌∙◌, subst}
use mathlib.Core.Bool.{Bool, true, false, not, ◌&&◌, ◌||◌, and-false, and-true}
use mathlib.Core.List.{List, [], ◌∷◌, ◌++◌, append_assoc, append-nil}
use Prim.Native.Nat.{ℕ, zero, suc, ◌+◌, ◌≤◌, ◌<◌}
use native.Mathlib.Omega.{arith}
use native.Mathlib.Numerals.{add-one}
use lib.ListN.{length, drop, get_or, length-append, drop_of_length-le}
use lib.Seq.{drop-cons}
use lib.Dec.{ltb, eqb}
use borrow.Author.Tests.{lt-ltb, le-ltb, eq-eqb, ne_eqb}
use Rattle.base_laws.proofs.Members.{both}
use Rattle.text_forms.specs.Forms.{Form, number, integer}
use Rattle.text_forms.specs.Patterns.{Piece, byte, plain, minus, piece, piece_by, limit_of, is_number, form_of, onto, join, line, opens, opens_by, good, good_by, fields, fields_by, repeats}
use Rattle.text_forms.specs.Reading.{GotAt, BadAt, ReadAs, Out, got, bad, after}
use Rattle.text_forms.proofs.Laws.{Joined}
use Rattle.text_forms.proofs.Pieces.{clash, reads_onto, reads_first, reads_byte, reads_other, reads_short, line_none, line_some, joined_line}

-- ---- a piece by the code's tests
pub limit_piece : (m c : ℕ) → not (eqb m 0) ≡ is_number (piece_by false m c)
limit_piece zero c = refl
limit_piece (suc m) c = ap not (ne_eqb (suc m) 0 (λ e. omega arith))

limit_form : (m c : ℕ) (s : List ℕ) (at : ℕ) (o : Out ℕ) → is_number (piece_by false m c) ≡ true → ReadAs (number m) s at o → ReadAs (form_of (piece_by false m c)) s at o
limit_form zero c s at o e h = clash e
limit_form (suc m) c s at o e h = h

pub limit_signed : (c : ℕ) (s : List ℕ) (at : ℕ) (o : Out ℕ) → c ≡ 35 → ReadAs integer s at o → ReadAs (form_of (piece c)) s at o
limit_signed c s at o e h = subst (λ (t : Bool). ReadAs (form_of (piece_by t (limit_of c) c)) s at o) (sym (eq-eqb c 35 e)) h

pub limit_reads : (c m : ℕ) (s : List ℕ) (at : ℕ) (o : Out ℕ) → (c ≡ 35 → ⊥) → is_number (piece c) ≡ true → m ≡ limit_of c → ReadAs (number m) s at o → ReadAs (form_of (piece c)) s at o
limit_reads c m s at o ne e k h =
    let t : eqb c 35 ≡ false = ne_eqb c 35 ne in
    subst (λ (t : Bool). ReadAs (form_of (piece_by t (limit_of c) c)) s at o) (sym t)
    (limit_form (limit_of c) c s at o (subst (λ (t : Bool). is_number (piece_by t (limit_of c) c) ≡ true) t e) (subst (λ (n : ℕ). ReadAs (number n) s at o) k h))

piece_byte : (t : Bool) (m c : ℕ) → is_number (piece_by t m c) ≡ false → piece_by t m c ≡ byte c
piece_byte true m c e = clash (sym e)
piece_byte false zero c e = refl
piece_byte false (suc m) c e = clash (sym e)

-- a byte that is no number is itself
pub itself : (c : ℕ) → is_number (piece c) ≡ false → piece c ≡ byte c
itself c e = piece_byte (eqb c 35) (limit_of c) c e

-- a number's piece, where it is read
field_reads : (q : Piece) (g : Form (List ℕ)) (s : List ℕ) (at : ℕ) (o : Out (List ℕ)) → is_number q ≡ true → ReadAs (onto (form_of q) g) s at o → ReadAs (join q g) s at o
field_reads (byte c) g s at o e h = clash e
field_reads (plain m) g s at o e h = h
field_reads minus g s at o e h = h

field_good : (q : Piece) (here rest : Bool) → is_number q ≡ true → good_by q here rest ≡ here && rest
field_good (byte c) here rest e = clash e
field_good (plain m) here rest e = refl
field_good minus here rest e = refl

pub field_count : (q : Piece) (n : ℕ) → is_number q ≡ true → fields_by q n ≡ suc n
field_count (byte c) n e = clash e
field_count (plain m) n e = refl
field_count minus n e = refl

field_opens : (q : Piece) → is_number q ≡ true → opens_by q ≡ false
field_opens (byte c) e = clash e
field_opens (plain m) e = refl
field_opens minus e = refl

-- ---- the next piece of a pattern
pub next_piece : (p : List ℕ) (j : ℕ) → j < length p → drop j p ≡ get_or p j 0 ∷ drop (j + 1) p
next_piece p j h = drop-cons p j 0 h ∙ ap (λ (n : ℕ). get_or p j 0 ∷ drop n p) (sym (add-one j))

-- ---- whether a pattern can be read: the rest after a number, or not after one
abbrev pub good_after : Bool → List ℕ → Bool
good_after false p = good p
good_after true p = opens p && good p

good_number : (c : ℕ) (p : List ℕ) → is_number (piece c) ≡ true → good (c ∷ p) ≡ good_after true p
unfolding good
good_number c p e = field_good (piece c) (opens p) (good p) e

good_twice : (c : ℕ) (p : List ℕ) → is_number (piece c) ≡ true → good_after true (c ∷ p) ≡ false
good_twice c p e = ap (λ (b : Bool). b && good (c ∷ p)) (field_opens (piece c) e)

good_byte : (c : ℕ) (p : List ℕ) → is_number (piece c) ≡ false → good (c ∷ p) ≡ good p
unfolding good
good_byte c p e = ap (λ (q : Piece). good_by q (opens p) (good p)) (itself c e)

opens_byte : (c : ℕ) → is_number (piece c) ≡ false → opens_by (piece c) ≡ ltb c 48 || ltb 57 c
opens_byte c e = ap opens_by (itself c e)

good_low : (c : ℕ) (p : List ℕ) → is_number (piece c) ≡ false → c < 48 → good_after true (c ∷ p) ≡ good p
good_low c p e h = ap (λ (b : Bool). b && good (c ∷ p)) (opens_byte c e ∙ ap (λ (b : Bool). b || ltb 57 c) (lt-ltb c 48 h)) ∙ good_byte c p e

good_high : (c : ℕ) (p : List ℕ) → is_number (piece c) ≡ false → 57 < c → good_after true (c ∷ p) ≡ good p
good_high c p e h =
    ap (λ (b : Bool). b && good (c ∷ p)) (opens_byte c e ∙ ap (λ (b : Bool). b || ltb 57 c) (le-ltb c 48 (omega arith)) ∙ lt-ltb 57 c h) ∙ good_byte c p e

good_digit : (c : ℕ) (p : List ℕ) → is_number (piece c) ≡ false → 48 ≤ c → c ≤ 57 → good_after true (c ∷ p) ≡ false
good_digit c p e lo hi = ap (λ (b : Bool). b && good (c ∷ p)) (opens_byte c e ∙ ap (λ (b : Bool). b || ltb 57 c) (le-ltb c 48 lo) ∙ le-ltb 57 c hi)

-- what the rest of the pattern says is what the whole says
pub record Checking (p : List ℕ) (after_number : Bool) (j : ℕ) : Type 0 where
  pub short : j ≤ length p
  pub same : good p ≡ good_after after_number (drop j p)

pub record Counting (p : List ℕ) (n j : ℕ) : Type 0 where
  pub short : j ≤ length p
  pub few : n ≤ j
  pub same : fields p ≡ n + fields (drop j p)

pub check_start : (p : List ℕ) → Checking p false 0
check_start p = record { short = omega arith; same = refl }

pub count_start : (p : List ℕ) → Counting p 0 0
count_start p = record { short = omega arith; few = omega arith; same = omega arith }

module _ (p : List ℕ) (j : ℕ) (more : j < length p) where
  module _ (after_number : Bool) (w : Checking p after_number j) where
    abbrev c : ℕ
    c = get_or p j 0

    abbrev q : List ℕ
    q = drop (j + 1) p

    check_next : (a b : Bool) → after_number ≡ a → good_after a (c ∷ q) ≡ good_after b q → Checking p b (j + 1)
    check_next a b k e = record { short = omega arith; same = w.same ∙ ap (good_after after_number) (next_piece p j more) ∙ ap (λ (z : Bool). good_after z (c ∷ q)) k ∙ e }

    check_stop : after_number ≡ true → good_after true (c ∷ q) ≡ false → false ≡ good p
    check_stop k e = sym (w.same ∙ ap (good_after after_number) (next_piece p j more) ∙ ap (λ (z : Bool). good_after z (c ∷ q)) k ∙ e)

    module _ (f : is_number (piece c) ≡ true) where
      pub check_number : after_number ≡ false → Checking p true (j + 1)
      check_number k = check_next false true k (good_number c q f)

      pub check_twice : after_number ≡ true → false ≡ good p
      check_twice k = check_stop k (good_twice c q f)

    module _ (f : is_number (piece c) ≡ false) where
      pub check_byte : after_number ≡ false → Checking p after_number (j + 1)
      check_byte k = subst (λ (b : Bool). Checking p b (j + 1)) (sym k) (check_next false false k (good_byte c q f))

      pub check_low : after_number ≡ true → c < 48 → Checking p false (j + 1)
      check_low k h = check_next true false k (good_low c q f h)

      pub check_high : after_number ≡ true → 57 < c → Checking p false (j + 1)
      check_high k h = check_next true false k (good_high c q f h)

      pub check_digit : after_number ≡ true → 48 ≤ c → c ≤ 57 → false ≡ good p
      check_digit k lo hi = check_stop k (good_digit c q f lo hi)

  module _ (n : ℕ) (w : Counting p n j) where
    pub count_number : is_number (piece (get_or p j 0)) ≡ true → Counting p (n + 1) (j + 1)
    unfolding fields
    count_number e = record {
      short = omega arith;
      few = (let a : n ≤ j = w.few in omega arith);
      same = (let a : fields p ≡ n + fields (drop j p) = w.same in
          omega (arith, ap fields (next_piece p j more), field_count (piece (get_or p j 0)) (fields (drop (j + 1) p)) e));
    }

    pub count_byte : is_number (piece (get_or p j 0)) ≡ false → Counting p n (j + 1)
    unfolding fields
    count_byte e = record {
      short = omega arith;
      few = (let a : n ≤ j = w.few in omega arith);
      same = w.same ∙ ap (λ (l : List ℕ). n + fields l) (next_piece p j more) ∙ ap (λ (q : Piece). n + fields_by q (fields (drop (j + 1) p))) (itself (get_or p j 0) e);
    }

pub check_done : (p : List ℕ) (b : Bool) (j : ℕ) → Checking p b j → length p ≤ j → true ≡ good p
unfolding good
check_done p b j w h = sym (w.same ∙ ap (good_after b) (drop_of_length-le p h) ∙ ends b)
  where
    ends : (b : Bool) → good_after b [] ≡ true
    ends true = refl
    ends false = refl

pub count_done : (p : List ℕ) (n j : ℕ) → Counting p n j → length p ≤ j → n ≡ fields p
unfolding fields
count_done p n j w h = sym (w.same ∙ ap (λ (l : List ℕ). n + fields l) (drop_of_length-le p h) ∙ omega arith)

-- ---- whether lines of a pattern can stand one after the other
repeat_no : (c : ℕ) (p : List ℕ) → opens_by (piece c) ≡ false → false ≡ repeats (c ∷ p)
unfolding repeats
repeat_no c p e = sym (ap (λ (b : Bool). good (c ∷ p) && b) e ∙ and-false (good (c ∷ p)))

repeat_yes : (c : ℕ) (p : List ℕ) → opens_by (piece c) ≡ true → good (c ∷ p) ≡ repeats (c ∷ p)
unfolding repeats
repeat_yes c p e = sym (ap (λ (b : Bool). good (c ∷ p) && b) e ∙ and-true (good (c ∷ p)))

pub repeat_none : (p : List ℕ) → length p ≡ 0 → false ≡ repeats p
unfolding repeats
repeat_none [] e = sym (and-false (good []))
repeat_none (c ∷ p) e = absurd (omega arith)

pub repeat_number : (p : List ℕ) → 0 < length p → is_number (piece (get_or p 0 0)) ≡ true → false ≡ repeats p
repeat_number [] h f = absurd (omega arith)
repeat_number (c ∷ p) h f = repeat_no c p (field_opens (piece c) f)

pub repeat_digit : (p : List ℕ) → 0 < length p → is_number (piece (get_or p 0 0)) ≡ false → 48 ≤ get_or p 0 0 → get_or p 0 0 ≤ 57 → false ≡ repeats p
repeat_digit [] h f lo hi = absurd (omega arith)
repeat_digit (c ∷ p) h f lo hi = repeat_no c p (opens_byte c f ∙ ap (λ (b : Bool). b || ltb 57 c) (le-ltb c 48 lo) ∙ le-ltb 57 c hi)

pub repeat_low : (p : List ℕ) → 0 < length p → is_number (piece (get_or p 0 0)) ≡ false → get_or p 0 0 < 48 → good p ≡ repeats p
repeat_low [] h f lo = absurd (omega arith)
repeat_low (c ∷ p) h f lo = repeat_yes c p (opens_byte c f ∙ ap (λ (b : Bool). b || ltb 57 c) (lt-ltb c 48 lo))

pub repeat_high : (p : List ℕ) → 0 < length p → is_number (piece (get_or p 0 0)) ≡ false → 57 < get_or p 0 0 → good p ≡ repeats p
repeat_high [] h f hi = absurd (omega arith)
repeat_high (c ∷ p) h f hi = repeat_yes c p (opens_byte c f ∙ ap (λ (b : Bool). b || ltb 57 c) (le-ltb c 48 (omega arith)) ∙ lt-ltb 57 c hi)

-- ---- reading a line
pub record Walk (pattern s : List ℕ) (at : ℕ) (vs : List ℕ) (i j : ℕ) : Type 0 where
  pub inside : i ≤ length s
  pub short : j ≤ length pattern
  pub fine : good (drop j pattern) ≡ true
  pub count : length vs + fields (drop j pattern) ≡ fields pattern
  pub carry : (o : Out (List ℕ)) → ReadAs (line (drop j pattern)) s i o → ReadAs (line pattern) s at (after vs o)

after_none : (o : Out (List ℕ)) → after [] o ≡ o
after_none (got ws n) = refl
after_none (bad p) = refl

after_after : (vs : List ℕ) (v : ℕ) (o : Out (List ℕ)) → after vs (after (v ∷ []) o) ≡ after (vs ++ (v ∷ [])) o
after_after vs v (got ws n) = ap (λ (l : List ℕ). got l n) (sym (append_assoc vs (v ∷ []) ws))
after_after vs v (bad p) = refl

pub walk_start : (pattern s : List ℕ) (at : ℕ) → at ≤ length s → good pattern ≡ true → Walk pattern s at [] at 0
walk_start pattern s at h g = record {
  inside = h;
  short = omega arith;
  fine = g;
  count = omega arith;
  carry = λ o k. subst (λ (z : Out (List ℕ)). ReadAs (line pattern) s at z) (sym (after_none o)) k;
}

module _ (pattern s : List ℕ) (at : ℕ) (vs : List ℕ) (i j : ℕ) (w : Walk pattern s at vs i j) (more : j < length pattern) where
  abbrev here : ℕ
  here = get_or pattern j 0

  abbrev rest : List ℕ
  rest = drop (j + 1) pattern

  good_here : good (here ∷ rest) ≡ true
  good_here = subst (λ (l : List ℕ). good l ≡ true) (next_piece pattern j more) w.fine

  count_here : length vs + fields (here ∷ rest) ≡ fields pattern
  count_here = subst (λ (l : List ℕ). length vs + fields l ≡ fields pattern) (next_piece pattern j more) w.count

  carry_here : (o : Out (List ℕ)) → ReadAs (line (here ∷ rest)) s i o → ReadAs (line pattern) s at (after vs o)
  carry_here o h = w.carry o (subst (λ (l : List ℕ). ReadAs (line l) s i o) (sym (next_piece pattern j more)) h)

  module _ (f : is_number (piece here) ≡ true) where
    good_rest : (opens rest ≡ true) × (good rest ≡ true)
    good_rest = both (opens rest) (good rest) (sym (good_number here rest f) ∙ good_here)

    joined : Joined (form_of (piece here)) (λ _. line rest)
    joined = joined_line (form_of (piece here)) rest good_rest.0

    counted : length vs + suc (fields rest) ≡ fields pattern
    unfolding fields
    counted = ap (λ (n : ℕ). length vs + n) (sym (field_count (piece here) (fields rest) f)) ∙ count_here

    pub walk_few : length vs < fields pattern
    walk_few = omega (arith, counted)

    pub walk_field : (v n : ℕ) → GotAt (form_of (piece here)) s i v n → Walk pattern s at (vs ++ (v ∷ [])) n (j + 1)
    walk_field v n h = record {
      inside = h.inside;
      short = omega arith;
      fine = good_rest.1;
      count = omega (arith, counted, length-append vs (v ∷ []));
      carry = λ o r.
          subst (λ (z : Out (List ℕ)). ReadAs (line pattern) s at z) (after_after vs v o)
          (carry_here (after (v ∷ []) o)
          (field_reads (piece here) (line rest) s i (after (v ∷ []) o) f
          (reads_onto (form_of (piece here)) (line rest) s i n v o joined h r)));
    }

    pub walk_wrong : (p : ℕ) → BadAt (form_of (piece here)) s i p → BadAt (line pattern) s at p
    walk_wrong p h = (carry_here (bad p) (field_reads (piece here) (line rest) s i (bad p) f (reads_first (form_of (piece here)) (line rest) s i p (line_some rest) h))).right

  module _ (f : is_number (piece here) ≡ false) where
    by_byte : (o : Out (List ℕ)) → ReadAs (join (byte here) (line rest)) s i o → ReadAs (line pattern) s at (after vs o)
    by_byte o h = carry_here o (subst (λ (q : Piece). ReadAs (join q (line rest)) s i o) (sym (itself here f)) h)

    pub walk_byte : i < length s → get_or s i 0 ≡ here → Walk pattern s at vs (i + 1) (j + 1)
    unfolding fields
    walk_byte h e = record {
      inside = omega arith;
      short = omega arith;
      fine = sym (good_byte here rest f) ∙ good_here;
      count = ap (λ (q : Piece). length vs + fields_by q (fields rest)) (sym (itself here f)) ∙ count_here;
      carry = λ o r. by_byte o (reads_byte here (line rest) s i o h e r);
    }

    pub walk_other : i < length s → (get_or s i 0 ≡ here → ⊥) → BadAt (line pattern) s at i
    walk_other h ne = (by_byte (bad i) (reads_other here (line rest) s i h ne (line_some rest))).right

    pub walk_short : i ≡ length s → here < 256 → BadAt (line pattern) s at i
    walk_short h b = (by_byte (bad i) (reads_short here (line rest) s i h b (line_some rest))).right

pub walk_done : (pattern s : List ℕ) (at : ℕ) (vs : List ℕ) (i j : ℕ) → Walk pattern s at vs i j → length pattern ≤ j → GotAt (line pattern) s at vs i
walk_done pattern s at vs i j w h =
    let e : drop j pattern ≡ [] = drop_of_length-le pattern h in
    (subst (λ (l : List ℕ). ReadAs (line pattern) s at (got l i)) (append-nil vs)
    (w.carry (got [] i) (subst (λ (l : List ℕ). ReadAs (line l) s i (got [] i)) (sym e) (line_none s i w.inside)))).right
