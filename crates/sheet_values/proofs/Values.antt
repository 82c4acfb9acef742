-- The sheet's values in the words that were read, and rows of words as the flat forms that the calls take. Assumes nothing.
use mathlib.Core.Path.{◌≡◌, refl, sym, ap, ◌∙◌, subst}
use mathlib.Core.Bool.{Bool, true, false}
use mathlib.Core.List.{List, [], ◌∷◌}
use Prim.Native.Nat.{ℕ, ◌+◌, ◌<◌}
use native.Mathlib.Omega.{arith}
use lib.IntN.{ℤ}
use mir.Val.{to_z, of_z}
use mir.Syntax.{w32}
use lib.ListN.{length, get_or, drop}
use lib.Seq.{get_or-drop}
use Rattle.base_model.specs.declared.Rect.{Rect}
use Rattle.base_model.specs.declared.Bounds.{Bounds}
use Rattle.base_model.specs.declared.Position.{Position}
use Rattle.base_model.specs.Allow.{Allow}
use Rattle.std.specs.Prelude.{None, Some, cond}
use Rattle.base_model.specs.declared.Query.{Query}
use Rattle.sheet_form.specs.Sheets.{Sheet, sheet, signed_of, rect_of}
use Rattle.sheet_lines.specs.Answers.{Stands}
use Rattle.sheet_read.specs.Answers.{SheetHeld}
use Rattle.sheet_read.specs.declared.Counts.{Counts}
use Rattle.sheet_words.proofs.Edges.{edge_kept}
use Rattle.sheet_form.proofs.Widths.{size_wide, ends_wide, block_wide, allow_wide, limits_wide}
use Rattle.sheet_read.proofs.Caps.{window_rect}
use Rattle.sheet_rule.specs.Drive.{bounds_of, start_of, end_of, allowed_by, limits_of, query_of}
use Rattle.sheet_values.specs.Inner.{position_in, allow_read, query_in, limits_read}

-- ---- words read
pub edge_same : (z : ℤ) (x : ℕ) → z ≡ signed_of x → to_z w32 (of_z w32 z) ≡ signed_of x
edge_same z x e = edge_kept z x e

pub bounds_made : (words : List ℕ) (at : ℕ)
    → ◌≡◌ {A = Bounds} (record {
      left = get_or words at 0;
      top = get_or words (at + 1) 0;
      right = get_or words (at + 2) 0;
      bottom =
          get_or words (at + 3) 0;
    }) (bounds_of (drop at words))
unfolding bounds_of
bounds_made words at =
    let e0 : get_or (drop at words) 0 0 ≡ get_or words at 0 = get_or-drop at words 0 0 ∙ ap (λ (i : ℕ). get_or words i 0) (omega arith) in
    let e1 : get_or (drop at words) 1 0 ≡ get_or words (at + 1) 0 = get_or-drop at words 1 0 in
    let e2 : get_or (drop at words) 2 0 ≡ get_or words (at + 2) 0 = get_or-drop at words 2 0 in
    let e3 : get_or (drop at words) 3 0 ≡ get_or words (at + 3) 0 = get_or-drop at words 3 0 in
    rw (e0, e1, e2, e3)

pub nobody_in : (allow : Bool) (fixed : List ℕ) → allow ≡ false → None ≡ allow_read allow fixed
unfolding allow_read
nobody_in allow fixed e = sym (ap (λ (t : Bool). allow_read t fixed) e)

pub bounded_in : (allow : Bool) (fixed : List ℕ) (b : Bounds) → allow ≡ true → b ≡ bounds_of (drop 14 fixed) → Some b ≡ allow_read allow fixed
unfolding allow_read
bounded_in allow fixed b t e = ap Some e ∙ sym (ap (λ (t : Bool). allow_read t fixed) t)

pub query_made : (allow : Bool) (fixed : List ℕ) (w : Rect) (s t : Position) (b : Bounds) (a : Allow) → w ≡ rect_of (drop 2 fixed) → s ≡ position_in 6 fixed → t ≡ position_in 8 fixed
    → b ≡ bounds_of (drop 10 fixed) → a ≡ allow_read allow fixed → ◌≡◌ {A = Query} (record { window = w; start = s; end = t; block = b; allow = a }) (query_in allow fixed)
unfolding query_in
query_made allow fixed w s t b a ew es et eb ea = rw (ew, es, et, eb, ea)

-- ---- the sheet's values
same_bounds : (x y : List ℕ) → ((k : ℕ) → k < 4 → get_or x k 0 ≡ get_or y k 0) → bounds_of x ≡ bounds_of y
unfolding bounds_of
same_bounds x y h = rw (h 0 (omega arith), h 1 (omega arith), h 2 (omega arith), h 3 (omega arith))

stands_bounds : (row : List ℕ) (slot : ℕ) (area : List ℕ) → length row ≡ 4 → Stands row slot area → bounds_of (drop slot area) ≡ bounds_of row
stands_bounds row slot area four h = same_bounds (drop slot area) row (λ k lt. get_or-drop slot area k 0 ∙ h.at k (omega arith))

module _ (s : Sheet) (k : Counts) (fixed cells obstacles groups places : List ℕ) (fit : sheet.fits s) (h : SheetHeld s k fixed cells obstacles groups places) where
  pub across_stands : get_or fixed 0 0 ≡ get_or s.size 0 0
  across_stands = h.size_stands.at 0 (omega (arith, size_wide s fit))

  pub down_stands : get_or fixed 1 0 ≡ get_or s.size 1 0
  down_stands = h.size_stands.at 1 (omega (arith, size_wide s fit))

  allow_stands : allow_read k.allow fixed ≡ allowed_by s.allow
  unfolding allow_read allowed_by
  allow_stands = go k.allow s.allow h.allow_count refl
    where
      go : (t : Bool) (l : List (List ℕ)) → cond t 1 0 ≡ length l → s.allow ≡ l → allow_read t fixed ≡ allowed_by l
      go false [] n e = refl
      go false (b ∷ bs) n e = absurd (omega arith)
      go true [] n e = absurd (omega arith)
      go true (b ∷ bs) n e = ap Some (stands_bounds b 14 fixed (allow_wide s fit b bs e).0 (subst (λ (l : List (List ℕ)). Stands (get_or l 0 []) 14 fixed) e h.allow_stands))

  pub query_stands : query_in k.allow fixed ≡ query_of s
  unfolding query_in query_of start_of end_of position_in
  query_stands =
      let four : length s.ends ≡ 4 = ends_wide s fit in
      let e1 = window_rect s k fixed cells obstacles groups places fit h in
      let e2 : get_or fixed 6 0 ≡ get_or s.ends 0 0 = h.ends_stands.at 0 (omega arith) in
      let e3 : get_or fixed 7 0 ≡ get_or s.ends 1 0 = h.ends_stands.at 1 (omega arith) in
      let e4 : get_or fixed 8 0 ≡ get_or s.ends 2 0 = h.ends_stands.at 2 (omega arith) in
      let e5 : get_or fixed 9 0 ≡ get_or s.ends 3 0 = h.ends_stands.at 3 (omega arith) in
      let e6 = stands_bounds s.block 10 fixed (block_wide s fit) h.block_stands in
      let e7 = allow_stands in
      rw (e1, e2, e3, e4, e5, e6, e7)

  pub limits_stand : limits_read fixed ≡ limits_of s
  unfolding limits_read limits_of
  limits_stand =
      let two : length s.limits ≡ 2 = limits_wide s fit in
      let e1 : get_or fixed 18 0 ≡ get_or s.limits 0 0 = h.limits_stands.at 0 (omega arith) in
      let e2 : get_or fixed 19 0 ≡ get_or s.limits 1 0 = h.limits_stands.at 1 (omega arith) in
      rw (e1, e2)
