-- A spelling has one value: a form whose parts are each told by their bytes, one after the other. Assumes nothing.
use mathlib.Core.Path.{◌≡◌, sym, ap, ◌∙◌}
use mathlib.Core.Bool.{true}
use mathlib.Core.List.{List, [], ◌∷◌, ◌++◌, append_assoc, append_cancel_left}
use Prim.Native.Nat.{ℕ}
use Rattle.text_forms.specs.Forms.{Form, ◌then◌, seq, many, perhaps, spells, All, AtMostOne}
use Rattle.text_forms.specs.Patterns.{line, good}
use Rattle.text_forms.specs.Reading.{Stop}
use Rattle.text_forms.proofs.Laws.{Tells, Any}
use Rattle.text_forms.proofs.Pieces.{line_closed, closes}
use Rattle.text_forms.proofs.Rest.{Follows, Unlike}

-- a spelling has one value
pub record Once {W : Type 0} (F : Form W) : Type 0 where
  pub once : (a b : W) → F.fits a → F.fits b → F.spell a ≡ F.spell b → a ≡ b

cut : {A : Type 0} (P : List ℕ → Type 0) (f : Form A) → Tells P f → (a b : A) (x y : List ℕ) → f.fits a → f.fits b → P (x ++ (256 ∷ []))
    → P (y ++ (256 ∷ [])) → f.spell a ++ x ≡ f.spell b ++ y → (a ≡ b) × (x ≡ y)
cut {A} P f o a b x y u v px py e =
    let marked : f.spell a ++ (x ++ (256 ∷ [])) ≡ f.spell b ++ (y ++ (256 ∷ [])) =
    sym (append_assoc (f.spell a) x (256 ∷ [])) ∙ ap (λ (l : List ℕ). l ++ (256 ∷ [])) e ∙ append_assoc (f.spell b) y (256 ∷ []) in
    let same : a ≡ b = o.tells a b (x ++ (256 ∷ [])) (y ++ (256 ∷ [])) u v px py marked in
    (same, append_cancel_left (f.spell b) x y (ap (λ (z : A). f.spell z ++ x) (sym same) ∙ e))

pub once_seq : {A B : Type 0} (P : List ℕ → Type 0) (f : Form A) (g : Form B) → Tells P f → ((b : B) → g.fits b → P (g.spell b ++ (256 ∷ []))) → Once g
    → Once (seq f (λ _. g))
once_seq {A} {B} P f g o p h = record {
  once = λ a b u v e.
      let k : (a.0 ≡ b.0) × (g.spell a.1 ≡ g.spell b.1) = cut P f o a.0 b.0 (g.spell a.1) (g.spell b.1)
      u.0 v.0 (p a.1 u.1) (p b.1 v.1) e in
      ap (λ (z : A). (z, a.1)) k.0 ∙ ap (λ (z : B). (b.0, z)) (h.once a.1 b.1 u.1 v.1 k.1);
}

pub once_line : {B : Type 0} (p : List ℕ) (g : Form B) → good p ≡ true → closes p ≡ true → Once g → Once (line p then g)
once_line p g ok end h = once_seq Any (line p) g (line_closed p ok end) (λ b u. tt) h

module _ {A B : Type 0} (f : Form A) (g : Form B) (o : Tells Stop f) (apart : Unlike f g) (h : Once g) where
  pub once_many : Follows (many f g) → Once (many f g)
  once_many follows = record { once = λ a b u v e. go a.0 b.0 a.1 b.1 u.0 v.0 u.1 v.1 e }
    where
      go : (l m : List A) (x y : B) → All f.fits l → All f.fits m → g.fits x → g.fits y
          → spells f.spell l (g.spell x) ≡ spells f.spell m (g.spell y) → ◌≡◌ {A = List A × B} (l, x) (m, y)
      go [] [] x y u v p q e = ap (λ (z : B). ([], z)) (h.once x y p q e)
      go [] (b ∷ m) x y u v p q e = absurd (apart.unlike b x (spells f.spell m (g.spell y)) (sym e))
      go (a ∷ l) [] x y u v p q e = absurd (apart.unlike a y (spells f.spell l (g.spell x)) e)
      go (a ∷ l) (b ∷ m) x y u v p q e =
          let k = cut Stop f o a b (spells f.spell l (g.spell x)) (spells f.spell m (g.spell y))
          u.0 v.0 (follows.stop (l, x) (u.1, p)) (follows.stop (m, y) (v.1, q)) e in
          ap (λ (z : A). (z ∷ l, x)) k.0 ∙ ap (λ (z : List A × B). (b ∷ z.0, z.1)) (go l m x y u.1 v.1 p q k.1)

  pub once_perhaps : Follows g → Once (perhaps f g)
  once_perhaps follows = record { once = λ a b u v e. go a.0 b.0 a.1 b.1 u.0 v.0 u.1 v.1 e }
    where
      go : (l m : List A) (x y : B) → AtMostOne f.fits l → AtMostOne f.fits m → g.fits x → g.fits y
          → spells f.spell l (g.spell x) ≡ spells f.spell m (g.spell y) → ◌≡◌ {A = List A × B} (l, x) (m, y)
      go [] [] x y u v p q e = ap (λ (z : B). ([], z)) (h.once x y p q e)
      go [] (b ∷ m) x y u v p q e = absurd (apart.unlike b x (spells f.spell m (g.spell y)) (sym e))
      go (a ∷ l) [] x y u v p q e = absurd (apart.unlike a y (spells f.spell l (g.spell x)) e)
      go (a ∷ []) (b ∷ []) x y u v p q e =
          let k = cut Stop f o a b (g.spell x) (g.spell y) u v (follows.stop x p) (follows.stop y q) e in
          ap (λ (z : A). (z ∷ [], x)) k.0 ∙ ap (λ (z : B). (b ∷ [], z)) (h.once x y p q k.1)
      go (a ∷ []) (b ∷ c ∷ m) x y u v p q e = absurd v
      go (a ∷ c ∷ l) (b ∷ m) x y u v p q e = absurd u
