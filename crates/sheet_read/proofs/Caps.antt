-- The caps that are left once the areas hold the sheet: with them a text is accepted or is not; a text that is none, or has more than the areas
-- hold, is accepted as no sheet. Assumes nothing.
use mathlib.Core.Path.{◌≡◌, sym, ap, ◌∙◌}
use mathlib.Core.Bool.{Bool, true, false, ◌&&◌, and-true}
use mathlib.Core.Logic.{⊎_elim}
use mathlib.Core.List.{List}
use Prim.Native.Nat.{ℕ, ◌≤◌, ◌<◌}
use native.Mathlib.Omega.{arith}
use lib.Dec.{leb}
use lib.ListN.{length, drop, get_or}
use lib.Seq.{get_or-drop}
use borrow.Author.Tests.{le-leb, leb-true}
use Rattle.base_laws.proofs.Members.{both}
use Rattle.base_model.specs.declared.Rect.{Rect}
use Rattle.text_forms.proofs.Pieces.{clash}
use Rattle.sheet_form.specs.Sheets.{Sheet, sheet, rect_of, within_caps, Accepted}
use Rattle.sheet_words.specs.Caps.{few_centres, caps_left}
use Rattle.sheet_form.proofs.Once.{sheet_once}
use Rattle.sheet_form.proofs.Widths.{window_wide, limits_wide}
use Rattle.sheet_lines.specs.Answers.{Stands}
use Rattle.sheet_read.specs.Answers.{SheetHeld, SheetGot, SheetNot}
use Rattle.sheet_read.specs.declared.Counts.{Counts}

stands_rect : (row : List ℕ) (slot : ℕ) (area : List ℕ) → length row ≡ 4 → Stands row slot area → rect_of (drop slot area) ≡ rect_of row
unfolding rect_of
stands_rect row slot area four h = rw (rect_of, same 0 (omega arith), same 1 (omega arith), same 2 (omega arith), same 3 (omega arith))
  where
    same : (k : ℕ) → k < 4 → get_or (drop slot area) k 0 ≡ get_or row k 0
    same k lt = get_or-drop slot area k 0 ∙ h.at k (omega arith)

the_rest : (c x o p t : Bool) → c ≡ true → o ≡ true → p ≡ true → (c && x && o && p && t) ≡ (x && t)
the_rest c x o p t ec eo ep = rw (ec, eo, ep) (ap (λ (y : Bool). y && t) (and-true (x && true) ∙ and-true x))

module _ (s : Sheet) (k : Counts) (fixed cells obstacles groups places : List ℕ) (fit : sheet.fits s) (h : SheetHeld s k fixed cells obstacles groups places) where
  pub window_rect : rect_of (drop 2 fixed) ≡ rect_of s.window
  window_rect = stands_rect s.window 2 fixed (window_wide s fit) h.window_stands

  pub caps_left_lem : caps_left fixed ≡ within_caps s
  unfolding caps_left within_caps few_centres
  caps_left_lem =
      let states : get_or fixed 18 0 ≡ get_or s.limits 0 0 = h.limits_stands.at 0 (omega (arith, limits_wide s fit)) in
      let c : leb (length s.cells) 64 ≡ true = le-leb (length s.cells) 64 (omega (arith, h.cell_count, h.few_cells)) in
      let o : leb (length s.obstacles) 32 ≡ true = le-leb (length s.obstacles) 32 (omega (arith, h.obstacle_count, h.few_obstacles)) in
      let p : leb (length s.places) 64 ≡ true = le-leb (length s.places) 64 (omega (arith, h.place_count, h.few_places)) in
      ap (λ (w : Rect). few_centres w && leb (get_or fixed 18 0) 500) window_rect
      ∙ ap (λ (n : ℕ). few_centres (rect_of s.window) && leb n 500) states
      ∙ sym (the_rest (leb (length s.cells) 64) (few_centres (rect_of s.window)) (leb (length s.obstacles) 32) (leb (length s.places) 64)
      (leb (get_or s.limits 0 0) 500) c o p)

-- ---- accepted or not
module _ (text : List ℕ) (k : Counts) (fixed cells obstacles groups places : List ℕ) (g : SheetGot text k fixed cells obstacles groups places) where
  same_caps : caps_left fixed ≡ within_caps g.value
  same_caps = caps_left_lem g.value k fixed cells obstacles groups places g.fits g.held

  pub accepted : length text ≤ 8192 → caps_left fixed ≡ true → Accepted text g.value
  accepted short e = record { short = le-leb (length text) 8192 short; fits = g.fits; spelled = g.spelled; capped = sym same_caps ∙ e }

  pub refused : caps_left fixed ≡ false → (t : Sheet) → Accepted text t → ⊥
  refused e t h =
      let same : t ≡ g.value = sheet_once t g.value h.fits g.fits (h.spelled ∙ sym g.spelled) in
      clash (sym e ∙ same_caps ∙ ap within_caps (sym same) ∙ h.capped)

-- ---- a text that is none, or has more than the areas hold
caps : (s : Sheet) → within_caps s ≡ true
    → (leb (length s.cells) 64 ≡ true) × (leb (length s.obstacles) 32 ≡ true) × (leb (length s.places) 64 ≡ true)
unfolding within_caps
caps s e =
    let k = both _ (leb (get_or s.limits 0 0) 500) e in
    let p = both _ (leb (length s.places) 64) k.0 in
    let o = both _ (leb (length s.obstacles) 32) p.0 in
    ((both (leb (length s.cells) 64) _ o.0).0, o.1, p.1)

pub not_accepted : (text : List ℕ) → SheetNot text → (s : Sheet) → Accepted text s → ⊥
not_accepted text h s k =
    let c = caps s k.capped in
    ⊎_elim (λ x. omega (arith, leb-true (length s.cells) 64 c.0))
    (λ y. ⊎_elim (λ x. omega (arith, leb-true (length s.obstacles) 32 c.1)) (λ x. omega (arith, leb-true (length s.places) 64 c.2)) y)
    (h.over s k.fits k.spelled)
