-- A line by its pattern, piece by piece: a number or a byte, then the rest. Assumes nothing.
use mathlib.Core.Path.{◌≡◌, refl, sym, ap, ◌∙◌, subst}
use mathlib.Core.Bool.{Bool, true, false, not, ◌&&◌, ◌||◌, false≢true}
use mathlib.Core.List.{List, [], ◌∷◌, ◌++◌, append_assoc, append_cancel_left}
use Prim.Native.Nat.{ℕ, suc, ◌+◌, ◌-◌, ◌≤◌, ◌<◌}
use native.Mathlib.Omega.{arith}
use lib.ListN.{length, take, drop, get_or}
use lib.Dec.{ltb, eqb}
use borrow.Author.Tests.{ltb-true, eq-eqb}
use Rattle.base_laws.proofs.Members.{both}
use Rattle.text_forms.specs.Forms.{Form, number, integer, seq}
use Rattle.text_forms.specs.Patterns.{Piece, byte, plain, minus, piece, onto, join, line, spell_more, FitsMore, opens, opens_by, good, good_by, fields, fields_by}
use Rattle.text_forms.specs.Reading.{Past, Stop, Got, Bad, GotAt, BadAt, ReadAs, Out, got, bad, after, from}
use Rattle.text_forms.proofs.Laws.{Solid, Some, Joined, Apart, Tells, Any, joined_solid, seq_got, seq_first, seq_second, past_cancel, past_of}
use Rattle.text_forms.proofs.Decimals.{number_tells, integer_tells, head_of}
use Rattle.text_forms.proofs.Places.{bad_at, from_cons, from_end, bad_here}

pub clash : {A : Type 0} → false ≡ true → A
clash e = absurd (false≢true e)

-- ---- a number, then the rest
module _ (f : Form ℕ) (g : Form (List ℕ)) where
  onto_got : {t r r' : List ℕ} {v : ℕ} {vs : List ℕ} → Joined f (λ _. g) → Got f t v r → Got g r vs r' → Got (onto f g) t (v ∷ vs) r'
  onto_got {t} {r} {r'} {v} {vs} o h k =
      let w : Got (seq f (λ _. g)) t (v, vs) r' = seq_got f (λ _. g) o h k in
      record { fits = w.fits; text = w.text; only = λ b x u stop past. go w b x u stop past }
    where
      go : Got (seq f (λ _. g)) t (v, vs) r' → (b : List ℕ) (x : List ℕ) → FitsMore f.fits g.fits b → Stop x
          → Past (spell_more f.spell g.spell b ++ x) (f.spell v ++ g.spell vs) r' → b ≡ v ∷ vs
      go w [] x u stop past = absurd u
      go w (a ∷ l) x u stop past = ap {B = List ℕ} (λ (p : ℕ × List ℕ). p.0 ∷ p.1) (w.only (a, l) x u stop past)

  onto_bad : {t p r : List ℕ} → Bad (seq f (λ _. g)) t p r → Bad (onto f g) t p r
  onto_bad {t} {p} {r} w = record {
    text = w.text;
    begins = (w.begins.0.0 ∷ w.begins.0.1, w.begins.1, w.begins.2, w.begins.3);
    none = λ b x u past. go b x u past;
  }
    where
      go : (b : List ℕ) (x : List ℕ) → FitsMore f.fits g.fits b → Past (spell_more f.spell g.spell b ++ x) p r → ⊥
      go [] x u past = u
      go (a ∷ l) x u past = w.none (a, l) x u past

  pub reads_onto : (s : List ℕ) (at next v : ℕ) (o : Out (List ℕ)) → Joined f (λ _. g) → GotAt f s at v next → ReadAs g s next o → ReadAs (onto f g) s at (after (v ∷ []) o)
  reads_onto s at next v (got vs n) j h k = record {
    right = record {
      after = let a : at ≤ next = h.after in let b : next ≤ n = k.right.after in omega arith;
      inside = k.right.inside;
      got = onto_got j h.got k.right.got;
    };
  }
  reads_onto s at next v (bad p) j h k = record {
    right =
        bad_at (onto f g) s at p (f.spell v ++ take (p - next) (drop next s)) (let a : at ≤ next = h.after in let b : next ≤ p = k.right.after in omega arith) k.right.inside
        (onto_bad (seq_second f (λ _. g) j h.got k.right.bad));
  }

  pub reads_first : (s : List ℕ) (at p : ℕ) → Some g → BadAt f s at p → ReadAs (onto f g) s at (bad p)
  reads_first s at p k h = record { right = record { after = h.after; inside = h.inside; bad = onto_bad (seq_first f (λ _. g) (λ _. k) h.bad) } }

-- ---- a byte, then the rest
module _ (c : ℕ) (g : Form (List ℕ)) where
  byte_got : {r r' : List ℕ} {vs : List ℕ} → Got g r vs r' → Got (join (byte c) g) (c ∷ r) vs r'
  byte_got {r} {r'} {vs} h = record {
    fits = h.fits;
    text = ap (λ (l : List ℕ). c ∷ l) h.text;
    only = λ b x u stop past. h.only b x u stop (past_cancel (c ∷ []) (g.spell b ++ x) (g.spell vs) r' past);
  }

  byte_second : {r p r' : List ℕ} → Bad g r p r' → Bad (join (byte c) g) (c ∷ r) (c ∷ p) r'
  byte_second {r} {p} {r'} h = record {
    text = ap (λ (l : List ℕ). c ∷ l) h.text;
    begins = (h.begins.0, h.begins.1, h.begins.2, ap (λ (l : List ℕ). c ∷ l) h.begins.3);
    none = λ b x u past. h.none b x u (past_cancel (c ∷ []) (g.spell b ++ x) p r' past);
  }

  byte_first : (d : ℕ) (r : List ℕ) → (d ≡ c → ⊥) → Some g → Bad (join (byte c) g) (d ∷ r) [] (d ∷ r)
  byte_first d r ne s = record {
    text = refl;
    begins = (s.value, c ∷ g.spell s.value, s.fits, refl);
    none = λ b x u past. ne (sym (ap head_of past.text));
  }

  pub reads_byte : (s : List ℕ) (at : ℕ) (o : Out (List ℕ)) → at < length s → get_or s at 0 ≡ c → ReadAs g s (at + 1) o → ReadAs (join (byte c) g) s at o
  reads_byte s at (got vs n) h e k = record {
    right = record {
      after = let b : at + 1 ≤ n = k.right.after in omega arith;
      inside = k.right.inside;
      got = subst (λ (t : List ℕ). Got (join (byte c) g) t vs (from n s)) (sym (from_cons s at h ∙ ap (λ (d : ℕ). d ∷ from (at + 1) s) e)) (byte_got k.right.got);
    };
  }
  reads_byte s at (bad p) h e k = record {
    right =
        bad_at (join (byte c) g) s at p (c ∷ take (p - (at + 1)) (drop (at + 1) s)) (let b : at + 1 ≤ p = k.right.after in omega arith) k.right.inside
        (subst (λ (t : List ℕ). Bad (join (byte c) g) t (c ∷ take (p - (at + 1)) (drop (at + 1) s)) (from p s))
        (sym (from_cons s at h ∙ ap (λ (d : ℕ). d ∷ from (at + 1) s) e)) (byte_second k.right.bad));
  }

  pub reads_other : (s : List ℕ) (at : ℕ) → at < length s → (get_or s at 0 ≡ c → ⊥) → Some g → ReadAs (join (byte c) g) s at (bad at)
  reads_other s at h ne k = record {
    right = bad_here (join (byte c) g) s at (omega arith)
        (subst (λ (t : List ℕ). Bad (join (byte c) g) t [] t) (sym (from_cons s at h)) (byte_first (get_or s at 0) (from (at + 1) s) ne k));
  }

  pub reads_short : (s : List ℕ) (at : ℕ) → at ≡ length s → c < 256 → Some g → ReadAs (join (byte c) g) s at (bad at)
  reads_short s at h b k = record {
    right = bad_here (join (byte c) g) s at (omega arith)
        (subst (λ (t : List ℕ). Bad (join (byte c) g) t [] t) (sym (from_end s at (omega arith))) (byte_first 256 [] (λ e. omega arith) k));
  }

-- ---- whole patterns
pub line_none : (s : List ℕ) (at : ℕ) → at ≤ length s → ReadAs (line []) s at (got [] at)
line_none s at h = record { right = record { after = omega arith; inside = h; got = record { fits = refl; text = refl; only = λ b x u stop past. u } } }

some_join : (p : Piece) (g : Form (List ℕ)) → Some g → Some (join p g)
some_join (byte c) g s = record { value = s.value; fits = s.fits }
some_join (plain m) g s = record { value = 0 ∷ s.value; fits = (omega arith, s.fits) }
some_join minus g s = record { value = 0 ∷ s.value; fits = (omega arith, s.fits) }

pub line_some : (p : List ℕ) → Some (line p)
line_some [] = record { value = []; fits = refl }
line_some (c ∷ p) = some_join (piece c) (line p) (line_some p)

no_digit : (c : ℕ) → ltb c 48 || ltb 57 c ≡ true → 48 ≤ c → 57 < c
no_digit c e h = go (ltb c 48) refl e
  where
    go : (t : Bool) → ltb c 48 ≡ t → t || ltb 57 c ≡ true → 57 < c
    go true q e = absurd (omega (arith, ltb-true c 48 q))
    go false q e = ltb-true 57 c e

solid_join : (p : Piece) (g : Form (List ℕ)) → opens_by p ≡ true → Solid (join p g)
solid_join (byte c) g e = record { solid = λ a x u. no_digit c e }
solid_join (plain m) g e = clash e
solid_join minus g e = clash e

pub line_solid : (c : ℕ) (p : List ℕ) → opens (c ∷ p) ≡ true → Solid (line (c ∷ p))
line_solid c p e = solid_join (piece c) (line p) e

-- a pattern that opens, or is empty, may follow a number
pub joined_line : {A : Type 0} (f : Form A) (p : List ℕ) → opens p ≡ true → Joined f (λ _. line p)
joined_line f [] e = record {
  if_got = λ h b c x u v stop past. h.only b x u stop past;
  if_bad = λ h k b c x u v past. absurd (k.none [] (_) refl (past_whole k));
}
  where
    past_whole : {r p r' : List ℕ} → Bad (line []) r p r' → Past r p r'
    past_whole {r} {p} {r'} k = past_of r p r' k.text
joined_line f (c ∷ p) e = joined_solid f (λ _. line (c ∷ p)) (λ _. line_solid c p e)

-- ---- a value's numbers are as many as the pattern's
count_join : (p : Piece) (g : Form (List ℕ)) (n : ℕ) → ((vs : List ℕ) → g.fits vs → length vs ≡ n) → (vs : List ℕ) → (join p g).fits vs → length vs ≡ fields_by p n
count_join (byte c) g n h vs u = h vs u
count_join (plain m) g n h [] u = absurd u
count_join (plain m) g n h (v ∷ vs) u = ap suc (h vs u.1)
count_join minus g n h [] u = absurd u
count_join minus g n h (v ∷ vs) u = ap suc (h vs u.1)

pub line_count : (p vs : List ℕ) → (line p).fits vs → length vs ≡ fields p
unfolding fields
line_count [] vs u = ap length u
line_count (c ∷ p) vs u = count_join (piece c) (line p) (fields p) (λ ws k. line_count p ws k) vs u

-- ---- values are told by their spelling; where the pattern ends in a byte, whatever follows
abbrev pub behind : List ℕ → Bool → Bool
behind [] rest = false
behind (c ∷ p) rest = rest

abbrev pub closes_by : Piece → List ℕ → Bool → Bool
closes_by (byte c) p rest = rest
closes_by (plain m) p rest = behind p rest
closes_by minus p rest = behind p rest

abbrev pub closes : List ℕ → Bool
closes [] = true
closes (c ∷ p) = closes_by (piece c) p (closes p)

module _ (P : List ℕ → Type 0) (f : Form ℕ) (once : Tells Stop f) where
  onto_tells : (p : List ℕ) → opens p ≡ true → Tells P (line p) → (p ≡ [] → (x : List ℕ) → P x → Stop x) → Tells P (onto f (line p))
  onto_tells p o h stops = record { tells = λ a b x y u v px py e. go p o h stops a b x y u v px py e }
    where
      after_first : (p : List ℕ) → opens p ≡ true → (p ≡ [] → (x : List ℕ) → P x → Stop x) → (vs x : List ℕ) → (line p).fits vs → P x → Stop ((line p).spell vs ++ x)
      after_first [] o stops vs x u px = stops refl x px
      after_first (c ∷ p) o stops vs x u px = (line_solid c p o).solid vs x u

      go : (p : List ℕ) → opens p ≡ true → Tells P (line p) → (p ≡ [] → (x : List ℕ) → P x → Stop x) → (a b x y : List ℕ) → (onto f (line p)).fits a → (onto f (line p)).fits b → P x → P y
          → (onto f (line p)).spell a ++ x ≡ (onto f (line p)).spell b ++ y → a ≡ b
      go p o h stops [] b x y u v px py e = absurd u
      go p o h stops (a ∷ as') [] x y u v px py e = absurd v
      go p o h stops (a ∷ l) (b ∷ m) x y u v px py e =
          let e' : f.spell a ++ ((line p).spell l ++ x) ≡ f.spell b ++ ((line p).spell m ++ y) =
          sym (append_assoc (f.spell a) ((line p).spell l) x) ∙ e ∙ append_assoc (f.spell b) ((line p).spell m) y in
          let k : a ≡ b = once.tells a b ((line p).spell l ++ x) ((line p).spell m ++ y) u.0 v.0 (after_first p o stops l x u.1 px) (after_first p o stops m y v.1 py) e' in
          let d : l ≡ m = h.tells l m x y u.1 v.1 px py
          (append_cancel_left (f.spell a) ((line p).spell l ++ x) ((line p).spell m ++ y) (e' ∙ ap (λ (z : ℕ). f.spell z ++ ((line p).spell m ++ y)) (sym k))) in
          ap (λ (z : ℕ). z ∷ l) k ∙ ap (λ (z : List ℕ). b ∷ z) d

module _ (P : List ℕ → Type 0) where
  field_tells : (f : Form ℕ) → Tells Stop f → (p : List ℕ) → opens p && good p ≡ true → (behind p (closes p) ≡ false → (x : List ℕ) → P x → Stop x)
      → (good p ≡ true → (closes p ≡ false → (x : List ℕ) → P x → Stop x) → Tells P (line p)) → Tells P (onto f (line p))
  field_tells f once [] g s ih = onto_tells P f once [] refl (ih (both true (good []) g).1 (λ e. clash (sym e))) (λ _. s refl)
  field_tells f once (c ∷ p) g s ih =
      onto_tells P f once (c ∷ p) (both (opens (c ∷ p)) (good (c ∷ p)) g).0 (ih (both (opens (c ∷ p)) (good (c ∷ p)) g).1 s) (λ e. not_nil e)
    where
      not_nil : {X : Type 0} → c ∷ p ≡ [] → X
      not_nil e = let z : ◌≡◌ {A = ℕ} 0 1 = cc in absurd (omega arith)

  join_tells : (q : Piece) (p : List ℕ) → good_by q (opens p) (good p) ≡ true → (closes_by q p (closes p) ≡ false → (x : List ℕ) → P x → Stop x)
      → (good p ≡ true → (closes p ≡ false → (x : List ℕ) → P x → Stop x) → Tells P (line p)) → Tells P (join q (line p))
  join_tells (byte c) p g s ih = record { tells = λ a b x y u v px py e. (ih g s).tells a b x y u v px py (append_cancel_left (c ∷ []) ((line p).spell a ++ x) ((line p).spell b ++ y) e) }
  join_tells (plain m) p g s ih = field_tells (number m) (number_tells m) p g s ih
  join_tells minus p g s ih = field_tells integer integer_tells p g s ih

  tells_by : (p : List ℕ) → good p ≡ true → (closes p ≡ false → (x : List ℕ) → P x → Stop x) → Tells P (line p)
  unfolding good
  tells_by [] g s = record { tells = λ a b x y u v px py e. u ∙ sym v }
  tells_by (c ∷ p) g s = join_tells (piece c) p g s (λ g' s'. tells_by p g' s')

pub line_tells : (p : List ℕ) → good p ≡ true → Tells Stop (line p)
line_tells p g = tells_by Stop p g (λ _ x px. px)

pub line_closed : (p : List ℕ) → good p ≡ true → closes p ≡ true → Tells Any (line p)
line_closed p g c = tells_by Any p g (λ e. clash (sym e ∙ c))

-- ---- patterns that no text begins with both: at the first place where they differ, each has a byte of its own
abbrev pub differ_by : Piece → Piece → Bool → Bool
differ_by (byte c) (byte d) rest = not (eqb c d) || rest
differ_by (byte c) (plain m) rest = false
differ_by (byte c) minus rest = false
differ_by (plain m) q rest = false
differ_by minus q rest = false

abbrev pub differ : List ℕ → List ℕ → Bool
differ [] q = false
differ (c ∷ p) [] = false
differ (c ∷ p) (d ∷ q) = differ_by (piece c) (piece d) (differ p q)

apart_join : (p q : Piece) (f g : Form (List ℕ)) (rest : Bool) → (rest ≡ true → Apart f g) → differ_by p q rest ≡ true → Apart (join p f) (join q g)
apart_join (byte c) (byte d) f g rest h e = record { apart = λ a b x y k. go (eqb c d) refl e a b x y k }
  where
    go : (t : Bool) → eqb c d ≡ t → not t || rest ≡ true → (a b x y : List ℕ) → c ∷ (f.spell a ++ x) ≡ d ∷ (g.spell b ++ y) → ⊥
    go true q e a b x y k = (h e).apart a b x y (let t : f.spell a ++ x ≡ g.spell b ++ y = cc in t)
    go false q e a b x y k = let z : c ≡ d = cc in clash (sym q ∙ eq-eqb c d z)
apart_join (byte c) (plain m) f g rest h e = clash e
apart_join (byte c) minus f g rest h e = clash e
apart_join (plain m) q f g rest h e = clash e
apart_join minus q f g rest h e = clash e

pub line_apart : (p q : List ℕ) → differ p q ≡ true → Apart (line p) (line q)
line_apart [] q e = clash e
line_apart (c ∷ p) [] e = clash e
line_apart (c ∷ p) (d ∷ q) e = apart_join (piece c) (piece d) (line p) (line q) (differ p q) (λ k. line_apart p q k) e
