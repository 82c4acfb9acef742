-- What holds of a size that fits and of a window that fits, in naturals: the window's edges are none below zero, and its columns and rows lie between them.
use mathlib.Core.Path.{◌≡◌, refl, ap}
use mathlib.Core.Bool.{Bool, true, ◌&&◌, and-eq-true_iff}
use Prim.Native.Nat.{ℕ, ◌+◌, ◌/◌, ◌%◌, ◌≤◌, ◌<◌}
use native.Mathlib.Nat.{mod-lt, div-lt_iff_lt-mul}
use native.Mathlib.Omega.{arith}
use lib.Dec.{leb}
use lib.IntN.{ℤ, pos, negsuc, nat_abs, ◌-ℤ◌}
use lib.Signed.{le_z, lt_z}
use borrow.Author.Tests.{leb-true}
use Rattle.base_laws.specs.Ints.{up, dn}
use Rattle.base_laws.proofs.Ints.{minus_parts, nat_abs_parts, lt_z_fact, le_z_fact, fact_le_z}
use Rattle.base_model.specs.declared.Rect.{Rect}
use Rattle.base_model.specs.declared.Bounds.{Bounds}
use Rattle.ground_rects.specs.Rects.{nonempty, small}
use Rattle.ground_rects.specs.Windows.{size_fits, width, height, centres, window_fits}

pub both : (a b : Bool) → (a && b) ≡ true → (a ≡ true) × (b ≡ true)
both a b e = (and-eq-true_iff a b).0 e

pub four : (a b c d : Bool) → (a && b && c && d) ≡ true → (a ≡ true) × ((b ≡ true) × ((c ≡ true) × (d ≡ true)))
four a b c d e =
    let k = both (a && b && c) d e in let j = both (a && b) c k.0 in let i = both a b j.0 in
    (i.0, (i.1, (j.1, k.1)))

pub record Bounded (m : Bounds) : Type 0 where
  pub left : m.left ≤ 256
  pub top : m.top ≤ 256
  pub right : m.right ≤ 256
  pub bottom : m.bottom ≤ 256

pub bounded : (m : Bounds) → small m ≡ true → Bounded m
unfolding small
bounded m e =
    let k = four (leb m.left 256) (leb m.top 256) (leb m.right 256) (leb m.bottom 256) e in
    record { left = leb-true m.left 256 k.0; top = leb-true m.top 256 k.1.0; right = leb-true m.right 256 k.1.1.0; bottom = leb-true m.bottom 256 k.1.1.1 }

pub record Sized (across down : ℕ) : Type 0 where
  pub across_some : 1 ≤ across
  pub across_le : across ≤ 1024
  pub down_some : 1 ≤ down
  pub down_le : down ≤ 1024

pub sized : (across down : ℕ) → size_fits across down ≡ true → Sized across down
unfolding size_fits
sized across down e =
    let k = four (leb 1 across) (leb across 1024) (leb 1 down) (leb down 1024) e in
    record { across_some = leb-true 1 across k.0; across_le = leb-true across 1024 k.1.0; down_some = leb-true 1 down k.1.1.0; down_le = leb-true down 1024 k.1.1.1 }

-- the numbers from a up to b
pub gap_parts : (a b : ℤ) → lt_z a b ≡ true → nat_abs (b -ℤ a) + up a + dn b ≡ up b + dn a
gap_parts a b h =
    let p = lt_z_fact a b h in
    let q = minus_parts b a in
    omega (arith, nat_abs_parts (b -ℤ a) (omega arith))

module _ (w : Rect) (h : nonempty w ≡ true) where
  pub nonempty_both : (lt_z w.left w.right ≡ true) × (lt_z w.top w.bottom ≡ true)
  unfolding nonempty
  nonempty_both = both (lt_z w.left w.right) (lt_z w.top w.bottom) h

  pub width_parts : width w + up w.left + dn w.right ≡ up w.right + dn w.left
  unfolding width
  width_parts = gap_parts w.left w.right nonempty_both.0

  pub height_parts : height w + up w.top + dn w.bottom ≡ up w.bottom + dn w.top
  unfolding height
  height_parts = gap_parts w.top w.bottom nonempty_both.1

  pub width_some : 0 < width w
  width_some = omega (arith, width_parts, lt_z_fact w.left w.right nonempty_both.0)

  pub height_some : 0 < height w
  height_some = omega (arith, height_parts, lt_z_fact w.top w.bottom nonempty_both.1)

  -- a centre's column and row
  pub column_lt : (c : ℕ) → c % width w < width w
  column_lt c = mod-lt c width_some

  pub row_lt : (c : ℕ) → c < centres w → c / width w < height w
  unfolding centres
  row_lt c k = (div-lt_iff_lt-mul width_some).1 (omega arith)

-- the corner (l, t) and the far edges of a window that fits
pub record Framed (across down : ℕ) (w : Rect) (l t : ℕ) : Type 0 where
  pub filled : nonempty w ≡ true
  pub left : w.left ≡ pos l
  pub top : w.top ≡ pos t
  pub across_le : l + width w ≤ across
  pub down_le : t + height w ≤ down
  pub few : centres w ≤ 1048576

above : (z : ℤ) → le_z (pos 0) z ≡ true → z ≡ pos (up z)
above (pos n) h = refl
above (negsuc n) h = let k = le_z_fact (pos 0) (negsuc n) h in absurd (omega arith)

pub framed : (across down : ℕ) (w : Rect) → window_fits across down w ≡ true → Framed across down w (up w.left) (up w.top)
unfolding window_fits
framed across down w e =
    let l = le_z (pos 0) w.left in
    let t = le_z (pos 0) w.top in
    let r = le_z w.right (pos across) in
    let b = le_z w.bottom (pos down) in
    let k = both (nonempty w && l && t && r && b) (leb (centres w) 1048576) e in
    let j = four (nonempty w && l) t r b k.0 in
    let i = both (nonempty w) l j.0 in
    let o : dn w.left ≡ 0 = ap dn (above w.left i.1) in
    let q : dn w.top ≡ 0 = ap dn (above w.top j.1.0) in
    record {
      filled = i.0;
      left = above w.left i.1;
      top = above w.top j.1.0;
      across_le = omega (arith, width_parts w i.0, le_z_fact w.right (pos across) j.1.1.0);
      down_le = omega (arith, height_parts w i.0, le_z_fact w.bottom (pos down) j.1.1.1);
      few = leb-true (centres w) 1048576 k.1;
    }

-- a window that fits a map fits a larger one
pub fits_larger : (across down across' down' : ℕ) (w : Rect) → across ≤ across' → down ≤ down' → window_fits across down w ≡ true → window_fits across' down' w ≡ true
unfolding window_fits
fits_larger across down across' down' w h k e =
    let l = le_z (pos 0) w.left in
    let t = le_z (pos 0) w.top in
    let r = le_z w.right (pos across) in
    let b = le_z w.bottom (pos down) in
    let i = both (nonempty w && l && t && r && b) (leb (centres w) 1048576) e in
    let j = four (nonempty w && l) t r b i.0 in
    let p = le_z_fact w.right (pos across) j.1.1.0 in
    let q = le_z_fact w.bottom (pos down) j.1.1.1 in
    rw (j.0, j.1.0, fact_le_z w.right (pos across') (omega arith), fact_le_z w.bottom (pos down') (omega arith)) i.1
