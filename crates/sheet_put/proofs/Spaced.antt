-- The lines of members and points, with a space before all but the first.
use Prim.Native.Nat.{ℕ}
use mathlib.Core.Path.{◌≡◌, refl, sym, ap, ◌∙◌}
use mathlib.Core.List.{[], ◌∷◌, append-nil}
use Rattle.text_forms.specs.Forms.{decimal}
use Rattle.text_forms.specs.Patterns.{is}
use Rattle.sheet_texts.specs.Texts.{point_text}
use Rattle.sheet_texts.specs.Parts.{gap}
use Rattle.sheet_texts.proofs.Texts.{gap_first, point_first}

pub member_line : (k m : ℕ) → gap k (decimal m) ≡ gap k ((is "$").spell (m ∷ []))
member_line k m = ap (gap k) (sym (append-nil (decimal m)))

pub point_line : (k x y : ℕ) → gap k (point_text (record { x = x; y = y })) ≡ gap k ((is "($ $)").spell (x ∷ y ∷ []))
point_line k x y = ap (gap k) (sym (gap_first 0 (point_text (record { x = x; y = y })) refl) ∙ point_first 0 x y refl)
