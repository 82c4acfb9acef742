-- How many numbers each line of a sheet has, and where those of the places stand. Assumes nothing.
use mathlib.Core.Path.{◌≡◌, refl, sym, ap, ◌∙◌, subst}
use mathlib.Core.List.{List, [], ◌∷◌, ◌++◌}
use Prim.Native.Nat.{ℕ, zero, suc, ◌+◌, ◌*◌, ◌<◌}
use native.Mathlib.Nat.{zero-add, mul-zero, mul-suc}
use native.Mathlib.Omega.{arith}
use lib.ListN.{length, take, get_or, get_or-append}
use lib.Seq.{get_or-take, get_or-append-add}
use Rattle.base_laws.specs.Lists.{flat}
use Rattle.text_forms.specs.Forms.{All, AtMostOne}
use Rattle.text_forms.specs.Patterns.{bytes, is, fields}
use Rattle.text_forms.proofs.Pieces.{line_count}
use Rattle.sheet_form.specs.Sheets.{Sheet, sheet}

module _ (s : Sheet) (fit : sheet.fits s) where
  pub size_wide : length s.size ≡ 2
  unfolding fields
  size_wide = line_count (bytes "(map $ $ ") s.size fit.0

  pub window_wide : length s.window ≡ 4
  unfolding fields
  window_wide = line_count (bytes "(window # # # #)\n") s.window fit.1.1.1.1.0

  pub ends_wide : length s.ends ≡ 4
  unfolding fields
  ends_wide = line_count (bytes "(ends $ $ $ $)\n") s.ends fit.1.1.1.1.1.0

  pub block_wide : length s.block ≡ 4
  unfolding fields
  block_wide = line_count (bytes "(block $ $ $ $)\n") s.block fit.1.1.1.1.1.1.0

  pub allow_wide : (b : List ℕ) (bs : List (List ℕ)) → s.allow ≡ b ∷ bs → (length b ≡ 4) × (bs ≡ [])
  unfolding fields
  allow_wide b bs e = go bs (subst (λ (l : List (List ℕ)). AtMostOne (is "(allow $ $ $ $)\n").fits l) e fit.1.1.1.1.1.1.1.0)
    where
      go : (l : List (List ℕ)) → AtMostOne (is "(allow $ $ $ $)\n").fits (b ∷ l) → (length b ≡ 4) × (l ≡ [])
      go [] u = (line_count (bytes "(allow $ $ $ $)\n") b u, refl)
      go (x ∷ l) u = absurd u

  pub limits_wide : length s.limits ≡ 2
  unfolding fields
  limits_wide = line_count (bytes "(limits $ $)\n") s.limits fit.1.1.1.1.1.1.1.1.0

-- ---- lines by their row
all_at : (P : List ℕ → Type 0) (l : List (List ℕ)) → All P l → (i : ℕ) → i < length l → P (get_or l i [])
all_at P [] u i lt = absurd (omega arith)
all_at P (a ∷ l) u zero lt = u.0
all_at P (a ∷ l) u (suc i) lt = all_at P l u.1 i (omega arith)

-- rows of one width, each in its place of the flat list
pub flat_at : (w : ℕ) (l : List (List ℕ)) → ((i : ℕ) → i < length l → length (get_or l i []) ≡ w) → (i j : ℕ) → i < length l → j < w
    → get_or (flat l) (w * i + j) 0 ≡ get_or (get_or l i []) j 0
unfolding flat
flat_at w [] h i j lt lj = absurd (omega arith)
flat_at w (a ∷ l) h zero j lt lj =
    let z : w * 0 + j ≡ j = ap (λ (n : ℕ). n + j) (mul-zero w) ∙ zero-add j in
    ap (λ (n : ℕ). get_or (a ++ flat l) n 0) z ∙ get_or-append a (flat l) 0 j (omega (arith, h 0 (omega arith)))
flat_at w (a ∷ l) h (suc i) j lt lj =
    let z : w * suc i + j ≡ length a + (w * i + j) = omega (arith, mul-suc w i, h 0 (omega arith)) in
    ap (λ (n : ℕ). get_or (a ++ flat l) n 0) z ∙ get_or-append-add a (flat l) (w * i + j) 0 ∙ flat_at w l (λ n le. h (suc n) (omega arith)) i j (omega arith) lj

module _ (s : Sheet) (fit : sheet.fits s) where
  pub place_wide : (i : ℕ) → i < length s.places → length (get_or s.places i []) ≡ 12
  unfolding fields
  place_wide i lt =
      line_count (bytes "(place $ $ $ $ (# # # #) (# # # #))\n") (get_or s.places i [])
      (all_at (is "(place $ $ $ $ (# # # #) (# # # #))\n").fits s.places fit.1.1.1.1.1.1.1.1.1.1.1.1.0 i lt)

  -- number j of place i, as it stands in the area
  pub place_at : (count : ℕ) (area : List ℕ) → count ≡ length s.places → take (12 * count) area ≡ flat s.places → (i j : ℕ) → i < count → j < 12
      → get_or area (12 * i + j) 0 ≡ get_or (get_or s.places i []) j 0
  place_at count area e a i j lt lj =
      sym (get_or-take (12 * count) area (12 * i + j) 0 (omega arith)) ∙ ap (λ (l : List ℕ). get_or l (12 * i + j) 0) a
      ∙ flat_at 12 s.places place_wide i j (omega arith) lj
