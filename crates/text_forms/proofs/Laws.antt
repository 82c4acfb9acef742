-- The laws of reading, each stated once over any forms: what a text comes to is unique, and if each of two pieces is read rightly then so is
-- one after the other. Assumes nothing.
use mathlib.Core.Path.{◌≡◌, refl, sym, ap, ◌∙◌, subst}
use mathlib.Core.List.{List, [], ◌∷◌, ◌++◌, append_assoc, append-nil, append_cancel_left}
use Prim.Native.Nat.{ℕ, zero, suc, ◌≤◌, ◌<◌}
use native.Mathlib.Omega.{arith}
use lib.ListN.{length, take, drop, length-append, take-append-drop}
use Rattle.text_forms.specs.Forms.{Form, seq}
use Rattle.text_forms.specs.Reading.{Past, Stop, Got, Bad}

-- ---- beginnings
pub past_split : (u p q r : List ℕ) → Past u (p ++ q) r → Past u p (q ++ r)
past_split u p [] r h = record { rest = h.rest; text = h.text ∙ ap (λ (l : List ℕ). l ++ (take 1 r ++ h.rest)) (append-nil p) }
past_split u p (c ∷ q) r h = record { rest = q ++ (take 1 r ++ h.rest); text = h.text ∙ append_assoc p (c ∷ q) (take 1 r ++ h.rest) }

pub past_cancel : (p u q r : List ℕ) → Past (p ++ u) (p ++ q) r → Past u q r
past_cancel p u q r h = record { rest = h.rest; text = append_cancel_left p u (q ++ (take 1 r ++ h.rest)) (h.text ∙ append_assoc p q (take 1 r ++ h.rest)) }

pub past_text : {u v p r : List ℕ} → u ≡ v → Past u p r → Past v p r
past_text k h = record { rest = h.rest; text = sym k ∙ h.text }

pub past_of : (u p r : List ℕ) → u ≡ p ++ r → Past u p r
past_of u p r e = record { rest = drop 1 r; text = e ∙ ap (λ (l : List ℕ). p ++ l) (sym (take-append-drop 1 r)) }

-- the shorter of two beginnings of a text begins the longer
pub prefix : (p q r r' : List ℕ) → length p ≤ length q → p ++ r ≡ q ++ r' → (d : List ℕ) × (q ≡ p ++ d) × (r ≡ d ++ r')
prefix [] q r r' h e = (q, refl, e)
prefix (c ∷ p) [] r r' h e = absurd (omega arith)
prefix (c ∷ p) (c' ∷ q) r r' h e =
    let w : (d : List ℕ) × (q ≡ p ++ d) × (r ≡ d ++ r') = prefix p q r r' (omega arith) (cc) in
    let k : c' ≡ c = cc in
    (w.0, ap (λ (z : ℕ). z ∷ q) k ∙ ap (λ (l : List ℕ). c ∷ l) w.1, w.2)

-- a longer beginning goes past a shorter one
pub past_longer : (p q r r' y : List ℕ) → length p < length q → p ++ r ≡ q ++ r' → Past (q ++ y) p r
past_longer p q r r' y h e =
    let w : (d : List ℕ) × (q ≡ p ++ d) × (r ≡ d ++ r') = prefix p q r r' (omega arith) e in
    go w.0 w.1 w.2
  where
    go : (d : List ℕ) → q ≡ p ++ d → r ≡ d ++ r' → Past (q ++ y) p r
    go [] k j = absurd (omega (arith, ap length k, length-append p []))
    go (c ∷ d) k j = record {
      rest = d ++ y;
      text =
          ap (λ (l : List ℕ). l ++ y) k ∙ append_assoc p (c ∷ d) y ∙ ap (λ (l : List ℕ). p ++ (take 1 l ++ (d ++ y))) (sym j);
    }

-- ---- what a text comes to is unique
pub got_bad : {A : Type 0} (f : Form A) {t r p r' : List ℕ} {a : A} → Got f t a r → Bad f t p r' → ⊥
got_bad f {t} {r} {p} {r'} {a} h k = k.none a r h.fits (past_of (f.spell a ++ r) p r' (sym h.text ∙ k.text))

pub bad_same : {A : Type 0} (f : Form A) {t p r q r' : List ℕ} → Bad f t p r → Bad f t q r' → length q ≤ length p
bad_same {A} f {t} {p} {r} {q} {r'} h k = go (λ less. h.none k.begins.0 [] k.begins.2
    (past_text (sym (append-nil (f.spell k.begins.0) ∙ k.begins.3)) (past_longer p q r r' k.begins.1 less (sym h.text ∙ k.text))))
  where
    go : (length p < length q → ⊥) → length q ≤ length p
    go never = omega (arith, never)

-- values that are told by their spelling and what follows it, where P holds of that
pub record Tells {A : Type 0} (P : List ℕ → Type 0) (f : Form A) : Type 0 where
  pub tells : (a b : A) (x y : List ℕ) → f.fits a → f.fits b → P x → P y → f.spell a ++ x ≡ f.spell b ++ y → a ≡ b

abbrev pub Any : List ℕ → Type 0
Any x = Unit {0}

-- a spelling has one value
pub spelled_once : {A : Type 0} (f : Form A) → Tells Stop f → (a b : A) → f.fits a → f.fits b → f.spell a ≡ f.spell b → a ≡ b
spelled_once f h a b u v e = h.tells a b [] [] u v tt tt (ap (λ (l : List ℕ). l ++ []) e)

pub got_same : {A : Type 0} (f : Form A) {t r r' : List ℕ} {a b : A} → Tells Stop f → Got f t a r → Got f t b r' → a ≡ b
got_same {A} f {t} {r} {r'} {a} {b} once h k =
    let e : f.spell a ++ r ≡ f.spell b ++ r' = sym h.text ∙ k.text in
    by_length (length (f.spell a)) (length (f.spell b))
    (λ less. sym (h.only b [] k.fits tt (past_longer (f.spell a) (f.spell b) r r' [] less e)))
    (λ less. k.only a [] h.fits tt (past_longer (f.spell b) (f.spell a) r' r [] less (sym e)))
    (λ same. spelled_once f once a b h.fits k.fits
    (let w : (d : List ℕ) × (f.spell b ≡ f.spell a ++ d) × (r ≡ d ++ r') = prefix (f.spell a) (f.spell b) r r' (omega arith) e in
    empty w.0 w.1 same))
  where
    by_length : (m n : ℕ) → (m < n → a ≡ b) → (n < m → a ≡ b) → (m ≡ n → a ≡ b) → a ≡ b
    by_length zero zero x y z = z refl
    by_length zero (suc n) x y z = x (omega arith)
    by_length (suc m) zero x y z = y (omega arith)
    by_length (suc m) (suc n) x y z = by_length m n (λ h. x (omega arith)) (λ h. y (omega arith)) (λ h. z (ap suc h))

    empty : (d : List ℕ) → f.spell b ≡ f.spell a ++ d → length (f.spell a) ≡ length (f.spell b) → f.spell a ≡ f.spell b
    empty [] e z = sym (e ∙ append-nil (f.spell a))
    empty (c ∷ d) e z = absurd (omega (arith, ap length e, length-append (f.spell a) (c ∷ d)))

-- ---- where one form ends and the next begins
-- a form that begins with a byte, which is no digit; a form with at least one value
pub record Solid {A : Type 0} (f : Form A) : Type 0 where
  pub solid : (a : A) (x : List ℕ) → f.fits a → Stop (f.spell a ++ x)

pub record Some {A : Type 0} (f : Form A) : Type 0 where
  pub value : A
  pub fits : f.fits value

-- no text begins with both
pub record Apart {A B : Type 0} (f : Form A) (g : Form B) : Type 0 where
  pub apart : (a : A) (b : B) (x y : List ℕ) → f.spell a ++ x ≡ g.spell b ++ y → ⊥

-- the first value is told by the text up to the second's first byte
pub record Joined {A B : Type 0} (f : Form A) (g : A → Form B) : Type 0 where
  pub if_got : {t r : List ℕ} {a : A} → Got f t a r → (b : A) (c : B) (x : List ℕ) → f.fits b → (g b).fits c → Stop x → Past (f.spell b ++ ((g b).spell c ++ x)) (f.spell a) r → b ≡ a
  pub if_bad : {t r p r' : List ℕ} {a : A} → Got f t a r → Bad (g a) r p r' → (b : A) (c : B) (x : List ℕ) → f.fits b → (g b).fits c
      → Past (f.spell b ++ ((g b).spell c ++ x)) (f.spell a) r → b ≡ a

pub joined_solid : {A B : Type 0} (f : Form A) (g : A → Form B) → ((a : A) → Solid (g a)) → Joined f g
joined_solid f g o = record {
  if_got = λ h b c x u v stop past. h.only b ((g b).spell c ++ x) u ((o b).solid c x v) past;
  if_bad = λ h k b c x u v past. h.only b ((g b).spell c ++ x) u ((o b).solid c x v) past;
}

-- ---- one after the other
module _ {A B : Type 0} (f : Form A) (g : A → Form B) where
  apart_first : {r r' : List ℕ} {a : A} (q : List ℕ) → r ≡ q ++ r' → (b : A) (c : B) (x : List ℕ)
      → Past ((f.spell b ++ (g b).spell c) ++ x) (f.spell a ++ q) r' → Past (f.spell b ++ ((g b).spell c ++ x)) (f.spell a) r
  apart_first {r} {r'} {a} q e b c x past =
      subst (λ (l : List ℕ). Past (f.spell b ++ ((g b).spell c ++ x)) (f.spell a) l) (sym e)
      (past_split (f.spell b ++ ((g b).spell c ++ x)) (f.spell a) q r' (past_text (append_assoc (f.spell b) ((g b).spell c) x) past))

  apart_second : {r' : List ℕ} {a : A} (q : List ℕ) (b : A) (c : B) (x : List ℕ) → b ≡ a → Past ((f.spell b ++ (g b).spell c) ++ x) (f.spell a ++ q) r' → Past ((g a).spell c ++ x) q r'
  apart_second {r'} {a} q b c x e past =
      past_cancel (f.spell a) ((g a).spell c ++ x) q r'
      (past_text (append_assoc (f.spell a) ((g a).spell c) x)
      (subst (λ (z : A). Past ((f.spell z ++ (g z).spell c) ++ x) (f.spell a ++ q) r') e past))

  pub seq_got : {t r r' : List ℕ} {a : A} {b : B} → Joined f g → Got f t a r → Got (g a) r b r' → Got (seq f g) t (a, b) r'
  seq_got {t} {r} {r'} {a} {b} o h k = record {
    fits = (h.fits, k.fits);
    text = h.text ∙ ap (λ (l : List ℕ). f.spell a ++ l) k.text ∙ sym (append_assoc (f.spell a) ((g a).spell b) r');
    only = λ (p : A × B) x u stop past.
        let e : p.0 ≡ a = o.if_got h p.0 p.1 x u.0 u.1 stop (apart_first ((g a).spell b) k.text p.0 p.1 x past) in
        let d : p.1 ≡ b = k.only p.1 x (subst (λ (z : A). (g z).fits p.1) e u.1) stop (apart_second ((g a).spell b) p.0 p.1 x e past) in
        ap (λ (z : A). (z, p.1)) e ∙ ap (λ (z : B). (a, z)) d;
  }

  pub seq_first : {t p r : List ℕ} → ((a : A) → Some (g a)) → Bad f t p r → Bad (seq f g) t p r
  seq_first {t} {p} {r} s h = record {
    text = h.text;
    begins = let a : A = h.begins.0 in (
      (a, (s a).value),
      h.begins.1 ++ (g a).spell (s a).value,
      (h.begins.2, (s a).fits),
      ap (λ (l : List ℕ). l ++ (g a).spell (s a).value) h.begins.3 ∙ append_assoc p h.begins.1 ((g a).spell (s a).value),
    );
    none = λ (b : A × B) x u past.
        h.none b.0 ((g b.0).spell b.1 ++ x) u.0 (past_text (append_assoc (f.spell b.0) ((g b.0).spell b.1) x) past);
  }

  pub seq_second : {t r p r' : List ℕ} {a : A} → Joined f g → Got f t a r → Bad (g a) r p r' → Bad (seq f g) t (f.spell a ++ p) r'
  seq_second {t} {r} {p} {r'} {a} o h k = record {
    text = h.text ∙ ap (λ (l : List ℕ). f.spell a ++ l) k.text ∙ sym (append_assoc (f.spell a) p r');
    begins = (
      (a, k.begins.0),
      k.begins.1,
      (h.fits, k.begins.2),
      ap (λ (l : List ℕ). f.spell a ++ l) k.begins.3 ∙ sym (append_assoc (f.spell a) p k.begins.1),
    );
    none = λ (b : A × B) x u past.
        let e : b.0 ≡ a = o.if_bad h k b.0 b.1 x u.0 u.1 (apart_first p k.text b.0 b.1 x past) in
        k.none b.1 x (subst (λ (z : A). (g z).fits b.1) e u.1) (apart_second p b.0 b.1 x e past);
  }

  pub seq_solid : Solid f → Solid (seq f g)
  seq_solid o = record {
    solid = λ (p : A × B) x u.
        subst (λ (l : List ℕ). Stop l) (sym (append_assoc (f.spell p.0) ((g p.0).spell p.1) x)) (o.solid p.0 ((g p.0).spell p.1 ++ x) u.0);
  }

-- what is apart from the first is apart from the sequence
pub seq_apart : {A B C : Type 0} (h : Form C) (f : Form A) (g : A → Form B) → Apart h f → Apart h (seq f g)
seq_apart h f g o = record { apart = λ c p x y e. o.apart c p.0 x ((g p.0).spell p.1 ++ y) (e ∙ append_assoc (f.spell p.0) ((g p.0).spell p.1) y) }
