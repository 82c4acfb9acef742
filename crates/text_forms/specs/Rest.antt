-- What is left of a text after a part of it, over any forms.
use Rattle.std.specs.Prelude.{◌≡◌, List, ◌++◌, ℕ, ◌≤◌, length, drop}
use Rattle.text_forms.specs.Forms.{Form}

-- from place i on the text is a spelling by F exactly when from place n on it is one by h, of a value that wrap turns into F's
pub record RestSpelled {W H : Type 0} (s : List ℕ) (F : Form W) (i : ℕ) (h : Form H) (n : ℕ) (wrap : H → W) : Type 0 where
  pub inside : n ≤ length s
  pub makes : (b : H) → h.fits b → h.spell b ≡ drop n s → F.fits (wrap b) × (F.spell (wrap b) ≡ drop i s)
  pub only : (w : W) → F.fits w → F.spell w ≡ drop i s → (b : H) × h.fits b × (h.spell b ≡ drop n s) × (w ≡ wrap b)

-- whatever the text from i on is a spelling of
pub record Only {W : Type 0} (s : List ℕ) (F : Form W) (i : ℕ) (P : W → Type 0) : Type 0 where
  pub only : (w : W) → F.fits w → F.spell w ≡ drop i s → P w

-- the text from i on begins with none of the form's spellings
pub record Absent {A : Type 0} (f : Form A) (s : List ℕ) (i : ℕ) : Type 0 where
  pub none : (a : A) (x : List ℕ) → f.fits a → f.spell a ++ x ≡ drop i s → ⊥
