-- The number that a word stands for. Assumes nothing.
use mathlib.Core.Path.{◌≡◌, sym, ap, ◌∙◌, subst}
use mathlib.Core.List.{List}
use Prim.Native.Nat.{ℕ, suc, ◌+◌, ◌-◌, ◌≤◌, ◌<◌}
use native.Mathlib.Omega.{arith}
use lib.IntN.{ℤ, negsuc}
use lib.Dec.{ltb}
use mir.Syntax.{w32}
use mir.Val.{to_z, of_z, Fits}
use mir.Facts.{to_z_pos, to_z-of_z, sfits_to_z}
use lib.ListN.{drop, get_or}
use lib.Seq.{get_or-drop}
use borrow.Author.Tests.{ltb-true, ltb-false, lt-ltb, le-ltb}
use Rattle.std.proofs.Math.Facts.{to_z-neg}
use Rattle.std.proofs.Math.Facts.{Fits-of_lt}
use Rattle.base_laws.proofs.Members.{either}
use Rattle.sheet_form.specs.Sheets.{signed_of}

pub low_edge : (x : ℕ) → x < 2147483648 → to_z w32 x ≡ signed_of x
unfolding signed_of
low_edge x lt = to_z_pos w32 lt ∙ sym (rw (signed_of, lt-ltb x 2147483648 lt))

pub high_edge : (x : ℕ) → 2147483648 ≤ x → x < 4294967296 → to_z w32 x ≡ signed_of x
unfolding signed_of
high_edge x h lt =
    let e : x ≡ 4294967296 - suc (4294967295 - x) = omega arith in
    ap (to_z w32) e ∙ to_z-neg w32 (4294967295 - x) (omega arith) ∙ sym (rw (signed_of, le-ltb x 2147483648 h))

word_edge : (x : ℕ) → x < 4294967296 → to_z w32 x ≡ signed_of x
word_edge x lt = either (ltb x 2147483648) (λ e. low_edge x (ltb-true x 2147483648 e)) (λ e. high_edge x (ltb-false x 2147483648 e) lt)

-- the same as it is kept
stays : (z : ℤ) (x : ℕ) → z ≡ to_z w32 x → x < 4294967296 → to_z w32 (of_z w32 z) ≡ signed_of x
stays z x e lt = ap (λ (y : ℤ). to_z w32 (of_z w32 y)) e ∙ to_z-of_z (sfits_to_z (Fits-of_lt {w = w32} {n = x} lt)) ∙ word_edge x lt

pub stored : (z : ℤ) (x : ℕ) → z ≡ to_z w32 x → Fits w32 x → to_z w32 (of_z w32 z) ≡ signed_of x
stored z x e f = stays z x e (omega (arith, f))

-- above the words every number stands for the last word's
beyond : (x : ℕ) → 4294967296 ≤ x → signed_of 4294967295 ≡ signed_of x
unfolding signed_of
beyond x h = let e : 0 ≡ 4294967295 - x = omega arith in sym (rw (signed_of, le-ltb x 2147483648 (omega arith)) (ap negsuc (sym e)))

pub edge_kept : (z : ℤ) (x : ℕ) → z ≡ signed_of x → to_z w32 (of_z w32 z) ≡ signed_of x
edge_kept z x e = ap (λ (y : ℤ). to_z w32 (of_z w32 y)) e ∙ either (ltb x 4294967296) (λ t. below x (ltb-true x 4294967296 t))
    (λ t. let b : signed_of 4294967295 ≡ signed_of x = beyond x (ltb-false x 4294967296 t) in
    subst (λ (s : ℤ). to_z w32 (of_z w32 s) ≡ s) b (below 4294967295 (omega arith)))
  where
    below : (x : ℕ) → x < 4294967296 → to_z w32 (of_z w32 (signed_of x)) ≡ signed_of x
    below x lt = stays (signed_of x) x (sym (word_edge x lt)) lt

-- an edge that stands in a row
pub edge_stored : (words : List ℕ) (at i : ℕ) (z : ℤ) → z ≡ signed_of (get_or words (at + i) 0) → to_z w32 (of_z w32 z) ≡ signed_of (get_or (drop at words) i 0)
edge_stored words at i z e = edge_kept z (get_or words (at + i) 0) e ∙ ap signed_of (sym (get_or-drop at words i 0))
