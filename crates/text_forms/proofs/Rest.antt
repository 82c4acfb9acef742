-- What is left of a text after a part of it, over any forms: a piece, a run of pieces, one piece or none, and the end. Assumes nothing.
use mathlib.Core.Path.{◌≡◌, refl, sym, ap, ◌∙◌, subst}
use mathlib.Core.List.{List, [], ◌∷◌, ◌++◌, append_assoc, append-nil, append_cancel_left, append_cancel_right}
use Prim.Native.Nat.{ℕ, ◌≤◌, ◌<◌}
use native.Mathlib.Omega.{arith}
use lib.ListN.{length, drop, drop_of_length-le, length-drop}
use Rattle.text_forms.specs.Forms.{Form, seq, many, perhaps, spells, AtMostOne, All}
use Rattle.text_forms.specs.Patterns.{line}
use Rattle.text_forms.specs.Reading.{Stop, GotAt, BadAt, Series, none, more, Few, absent, present, from}
use Rattle.text_forms.specs.Rest.{RestSpelled, Only, Absent}
use Rattle.text_forms.proofs.Laws.{Apart, Solid, Tells, Any, past_of}

-- ---- what a form has to be, to follow another
-- a text of it, up to the end mark, begins with no digit
pub record Follows {B : Type 0} (g : Form B) : Type 0 where
  pub stop : (b : B) → g.fits b → Stop (g.spell b ++ (256 ∷ []))

-- no text of it begins with one of the other's
pub record Unlike {A B : Type 0} (f : Form A) (g : Form B) : Type 0 where
  pub unlike : (a : A) (b : B) (x : List ℕ) → f.spell a ++ x ≡ g.spell b → ⊥

pub solid_follows : {B : Type 0} (g : Form B) → Solid g → Follows g
solid_follows g o = record { stop = λ b u. o.solid b (256 ∷ []) u }

pub apart_unlike : {A B : Type 0} (f : Form A) (g : Form B) → Apart f g → Unlike f g
apart_unlike f g o = record { unlike = λ a b x e. o.apart a b x [] (e ∙ sym (append-nil (g.spell b))) }

pub many_follows : {A B : Type 0} (f : Form A) (g : Form B) → Solid f → Follows g → Follows (many f g)
many_follows {A} {B} f g o o' = record { stop = λ p u. go p.0 p.1 u.0 u.1 }
  where
    go : (l : List A) (b : B) → All f.fits l → g.fits b → Stop (spells f.spell l (g.spell b) ++ (256 ∷ []))
    go [] b u v = o'.stop b v
    go (a ∷ l) b u v =
        subst (λ (t : List ℕ). Stop t) (sym (append_assoc (f.spell a) (spells f.spell l (g.spell b)) (256 ∷ [])))
        (o.solid a (spells f.spell l (g.spell b) ++ (256 ∷ [])) u.0)

-- ---- one piece, without the end mark
marked : {A : Type 0} (f : Form A) (s : List ℕ) (i : ℕ) (b : A) (x : List ℕ) → f.spell b ++ x ≡ drop i s → f.spell b ++ (x ++ (256 ∷ [])) ≡ from i s
marked f s i b x e = sym (append_assoc (f.spell b) x (256 ∷ [])) ∙ ap (λ (l : List ℕ). l ++ (256 ∷ [])) e

module _ {A : Type 0} {f : Form A} {s : List ℕ} {i : ℕ} where
  pub got_text : {n : ℕ} {a : A} → GotAt f s i a n → drop i s ≡ f.spell a ++ drop n s
  got_text {n} {a} h = append_cancel_right (drop i s) (f.spell a ++ drop n s) (256 ∷ []) (h.got.text ∙ sym (append_assoc (f.spell a) (drop n s) (256 ∷ [])))

  pub got_only : {n : ℕ} {a : A} → GotAt f s i a n → (b : A) (x : List ℕ) → f.fits b → Stop (x ++ (256 ∷ [])) → f.spell b ++ x ≡ drop i s
      → (b ≡ a) × (x ≡ drop n s)
  got_only {n} {a} h b x u stop e =
      let same : b ≡ a = h.got.only b (x ++ (256 ∷ [])) u stop
      (past_of (f.spell b ++ (x ++ (256 ∷ []))) (f.spell a) (from n s) (marked f s i b x e ∙ h.got.text)) in
      (same, append_cancel_left (f.spell a) x (drop n s) (ap (λ (z : A). f.spell z ++ x) (sym same) ∙ e ∙ got_text h))

  pub bad_absent : {p : ℕ} → BadAt f s i p → Absent f s i
  bad_absent {p} h = record {
    none = λ b x u e. h.bad.none b (x ++ (256 ∷ [])) u (past_of (f.spell b ++ (x ++ (256 ∷ []))) _ (from p s) (marked f s i b x e ∙ h.bad.text));
  }

-- ---- parts in a row
pub left_then : {W G H : Type 0} {s : List ℕ} {F : Form W} {g : Form G} {h : Form H} {i m n : ℕ} {u : G → W} {v : H → G} → RestSpelled s F i g m u
    → RestSpelled s g m h n v → RestSpelled s F i h n (λ b. u (v b))
left_then {u = u} {v = v} a b = record {
  inside = b.inside;
  makes = λ x fit e. (let k = b.makes x fit e in a.makes (v x) k.0 k.1);
  only = λ w fit e.
      let k = a.only w fit e in
      let l = b.only k.0 k.1 k.2 in
      (l.0, l.1, l.2, k.3 ∙ ap u l.3);
}

pub only_then : {W G : Type 0} {s : List ℕ} {F : Form W} {g : Form G} {i m : ℕ} {u : G → W} {P : W → Type 0} → RestSpelled s F i g m u
    → Only s g m (λ x. P (u x)) → Only s F i P
only_then {P = P} a b = record { only = λ w fit e. (let k = a.only w fit e in subst P (sym k.3) (b.only k.0 k.1 k.2)) }

pub only_more : {W : Type 0} {s : List ℕ} {F : Form W} {i : ℕ} {P Q : W → Type 0} → ((w : W) → P w → Q w) → Only s F i P → Only s F i Q
only_more k o = record { only = λ w fit e. k w (o.only w fit e) }

-- ---- a piece, then the rest
module _ {A B : Type 0} (f : Form A) (g : Form B) {s : List ℕ} {i : ℕ} where
  left_by : {n : ℕ} {a : A} → GotAt f s i a n
      → ((w : A × B) → (seq f (λ _. g)).fits w → (seq f (λ _. g)).spell w ≡ drop i s → (w.0 ≡ a) × (g.spell w.1 ≡ drop n s))
      → RestSpelled s (seq f (λ _. g)) i g n (λ b. (a, b))
  left_by {n} {a} h same = record {
    inside = h.inside;
    makes = λ b fit e. ((h.got.fits, fit), ap (λ (l : List ℕ). f.spell a ++ l) e ∙ sym (got_text h));
    only = λ w fit e. (let k = same w fit e in (w.1, fit.1, k.1, ap (λ (z : A). (z, w.1)) k.0));
  }

  pub left_one : {n : ℕ} {a : A} → Follows g → GotAt f s i a n → RestSpelled s (seq f (λ _. g)) i g n (λ b. (a, b))
  left_one o h = left_by h (λ w fit e. got_only h w.0 (g.spell w.1) fit.0 (o.stop w.1 fit.1) e)

  -- a piece that ends in a byte of its own, whatever follows
  pub left_closed : {n : ℕ} {a : A} → Tells Any f → GotAt f s i a n → RestSpelled s (seq f (λ _. g)) i g n (λ b. (a, b))
  left_closed {n} {a} o h = left_by h (λ w fit e.
      let both : f.spell w.0 ++ g.spell w.1 ≡ f.spell a ++ drop n s = e ∙ got_text h in
      let same : w.0 ≡ a = o.tells w.0 a (g.spell w.1) (drop n s) fit.0 h.got.fits tt tt both in
      (same, append_cancel_left (f.spell a) (g.spell w.1) (drop n s) (ap (λ (z : A). f.spell z ++ g.spell w.1) (sym same) ∙ both)))

  pub only_one : {P : A × B → Type 0} → Absent f s i → Only s (seq f (λ _. g)) i P
  only_one h = record { only = λ w fit e. absurd (h.none w.0 (g.spell w.1) fit.0 e) }

-- ---- a run, then the rest
module _ {A B : Type 0} (f : Form A) (g : Form B) {s : List ℕ} (apart : Unlike f g) (o : Follows (many f g)) where
  one_more_lem : {i n : ℕ} {a : A} → GotAt f s i a n → RestSpelled s (many f g) i (many f g) n (λ p. (a ∷ p.0, p.1))
  one_more_lem {i} {n} {a} h = record {
    inside = h.inside;
    makes = λ p fit e. (((h.got.fits, fit.0), fit.1), ap (λ (l : List ℕ). f.spell a ++ l) e ∙ sym (got_text h));
    only = λ p fit e. go p.0 p.1 fit.0 fit.1 e;
  }
    where
      go : (l : List A) (b : B) → All f.fits l → g.fits b → spells f.spell l (g.spell b) ≡ drop i s
          → (q : List A × B) × (many f g).fits q × ((many f g).spell q ≡ drop n s) × (◌≡◌ {A = List A × B} (l, b) (a ∷ q.0, q.1))
      go [] b u v e = absurd (apart.unlike a b (drop n s) (sym (got_text h) ∙ sym e))
      go (c ∷ l) b u v e =
          let k : (c ≡ a) × (spells f.spell l (g.spell b) ≡ drop n s) =
          got_only h c (spells f.spell l (g.spell b)) u.0 (o.stop (l, b) (u.1, v)) e in
          ((l, b), (u.1, v), k.1, ap (λ (z : A). (z ∷ l, b)) k.0)

  no_more : {i : ℕ} → i ≤ length s → Absent f s i → RestSpelled s (many f g) i g i (λ b. ([], b))
  no_more {i} inside h = record {
    inside = inside;
    makes = λ b fit e. ((tt, fit), e);
    only = λ p fit e. go p.0 p.1 fit.0 fit.1 e;
  }
    where
      go : (l : List A) (b : B) → All f.fits l → g.fits b → spells f.spell l (g.spell b) ≡ drop i s
          → (d : B) × g.fits d × (g.spell d ≡ drop i s) × (◌≡◌ {A = List A × B} (l, b) ([], d))
      go [] b u v e = (b, v, e, refl)
      go (a ∷ l) b u v e = absurd (h.none a (spells f.spell l (g.spell b)) u.0 e)

  pub left_run : {i n : ℕ} {l : List A} → Series f s i l n → n ≤ length s → Absent f s n → RestSpelled s (many f g) i g n (λ b. (l, b))
  left_run none inside h = no_more inside h
  left_run (more c r) inside h = left_then (one_more_lem c) (left_run r inside h)

  -- a run that goes on
  pub only_longer : {i m n : ℕ} {l : List A} {a : A} → Series f s i l m → GotAt f s m a n → Only s (many f g) i (λ p. length l < length p.0)
  only_longer none h = only_then (one_more_lem h) (record { only = λ w fit e. omega arith })
  only_longer (more c r) h = only_then (one_more_lem c) (only_more (λ w k. omega arith) (only_longer r h))

-- ---- one piece or none, then the rest
module _ {A B : Type 0} (f : Form A) (g : Form B) {s : List ℕ} (apart : Unlike f g) (o : Follows g) where
  pub left_few : {i n p : ℕ} {l : List A} → i ≤ length s → Few f s i l n p → RestSpelled s (perhaps f g) i g n (λ b. (l, b))
  left_few {i} inside (absent h) = record {
    inside = inside;
    makes = λ b fit e. ((tt, fit), e);
    only = λ q fit e. go q.0 q.1 fit.0 fit.1 e;
  }
    where
      go : (l : List A) (b : B) → AtMostOne f.fits l → g.fits b → spells f.spell l (g.spell b) ≡ drop i s
          → (d : B) × g.fits d × (g.spell d ≡ drop i s) × (◌≡◌ {A = List A × B} (l, b) ([], d))
      go [] b u v e = (b, v, e, refl)
      go (a ∷ []) b u v e = absurd ((bad_absent h).none a (g.spell b) u e)
      go (a ∷ c ∷ l) b u v e = absurd u
  left_few {i} {n} inside (present {a = a} h) = record {
    inside = h.inside;
    makes = λ b fit e. ((h.got.fits, fit), ap (λ (l : List ℕ). f.spell a ++ l) e ∙ sym (got_text h));
    only = λ q fit e. go q.0 q.1 fit.0 fit.1 e;
  }
    where
      go : (l : List A) (b : B) → AtMostOne f.fits l → g.fits b → spells f.spell l (g.spell b) ≡ drop i s
          → (d : B) × g.fits d × (g.spell d ≡ drop n s) × (◌≡◌ {A = List A × B} (l, b) (a ∷ [], d))
      go [] b u v e = absurd (apart.unlike a b (drop n s) (sym (got_text h) ∙ sym e))
      go (c ∷ []) b u v e =
          let k : (c ≡ a) × (g.spell b ≡ drop n s) = got_only h c (g.spell b) u (o.stop b v) e in
          (b, v, k.1, ap (λ (z : A). (z ∷ [], b)) k.0)
      go (c ∷ d ∷ l) b u v e = absurd u

-- ---- the end
pub end_made : (s : List ℕ) (n : ℕ) → n ≡ length s → (line []).spell [] ≡ drop n s
end_made s n e = sym (drop_of_length-le s {i = n} (omega arith))

pub end_only : {P : List ℕ → Type 0} (s : List ℕ) (n : ℕ) → n < length s → Only s (line []) n P
end_only s n lt = record { only = λ w fit e. absurd (omega (arith, ap length e, length-drop n s)) }
