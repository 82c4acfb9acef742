-- From the counts to the baseline: what the checks say of the map and the obstacles, and that the byte of a centre is the rule's mark.
use mathlib.Core.Path.{◌≡◌, refl, sym, ap, ap₂, ◌∙◌}
use mathlib.Core.Bool.{Bool, true, false, ◌&&◌, ◌||◌, or_comm}
use mathlib.Core.List.{List, [], ◌++◌, append-nil}
use Prim.Native.Nat.{ℕ, ◌+◌, ◌-◌, ◌*◌, ◌/◌, ◌%◌, ◌≤◌, ◌<◌}
use native.Mathlib.Nat.{mul-le-mul, mul-le-mul_left, mul-le-mul_right}
use native.Mathlib.Omega.{arith}
use lib.Arith.{digits_div, digits_mod}
use lib.Dec.{leb, ltb, eqb}
use lib.IntN.{ℤ, pos}
use lib.Signed.{lt_z}
use lib.ListN.{length, get_or, drop, replicate, length-append, length-drop, length-replicate, get_or-replicate, get_or-append}
use lib.Seq.{get_or-drop, ext_get_or, drop_at}
use borrow.Author.Tests.{leb-true, ltb-true, ltb-false, eqb-true}
use Rattle.base_laws.specs.Lists.{any_of, all_of, below}
use Rattle.base_laws.specs.Ints.{up}
use Rattle.base_laws.specs.Fill.{filled}
use Rattle.base_laws.proofs.Fill.{filled_same}
use Rattle.base_laws.proofs.Tests.{any_append, any_map_filter}
use Rattle.base_model.specs.declared.Rect.{Rect}
use Rattle.base_model.specs.declared.Bounds.{Bounds}
use Rattle.ground_rects.specs.Rects.{keeps_off, nonempty, rects_of}
use Rattle.ground_rects.specs.Windows.{size_fits, width, centres, window_fits, pixel_x, pixel_y}
use Rattle.ground_rects.proofs.Windows.{both, sized, framed, column_lt, row_lt}
use Rattle.ground_rects.proofs.Rows.{rects_length, rects_part}
use Rattle.ground_counts.specs.Counts.{bit, Counted}
use Rattle.ground_baseline.specs.Baseline.{Map, map_fits, cell_rect, off_terrain, off_obstacle, off_edge, mark, baseline_of}
use Rattle.ground_baseline.specs.Stamps.{hits, shut_cells, entries, RectsStamped, blocked_at}
use Rattle.ground_baseline.proofs.Stamps.{hits_any, laid_none}

-- ---- the checks
pub record Mapped (m : Map) : Type 0 where
  pub across_some : 1 ≤ m.across
  pub across_le : m.across ≤ 1024
  pub down_le : m.down ≤ 1024
  pub size : length m.cells ≡ m.across * m.down

pub mapped : (m : Map) → map_fits m ≡ true → Mapped m
unfolding map_fits
mapped m e =
    let s = eqb (length m.cells) (m.across * m.down) in
    let k = both (size_fits m.across m.down && s) (all_of (λ (x : ℕ). leb x 1) m.cells) e in
    let j = both (size_fits m.across m.down) s k.0 in
    let i = sized m.across m.down j.0 in
    record {
      across_some = i.across_some;
      across_le = i.across_le;
      down_le = i.down_le;
      size = eqb-true (length m.cells) (m.across * m.down) j.1;
    }

pub mapped_cells : (m : Map) → Mapped m → (length m.cells ≤ m.across * 1024) × (length m.cells ≤ 1048576)
mapped_cells m k = (omega (arith, k.size, mul-le-mul_left m.across k.down_le), omega (arith, k.size, mul-le-mul k.across_le k.down_le))

whole_by : (n l : ℕ) (t : Bool) → ltb n (l * 4) ≡ t → n ≤ l * 4 → (n < l * 4 → ◌≡◌ {A = ℕ} 0 1) → n ≡ l * 4
whole_by n l true e h f = let z = f (ltb-true n (l * 4) e) in absurd (omega arith)
whole_by n l false e h f = omega (arith, ltb-false n (l * 4) e)

-- a row of obstacles that fits holds no part of one
pub obstacles_whole : (obs : List ℤ) → (leb (length (rects_of obs)) 4096 && all_of nonempty (rects_of obs)) ≡ true → (length obs ≡ length (rects_of obs) * 4) × (length (rects_of obs) ≤ 4096)
obstacles_whole obs e =
    let k = both (leb (length (rects_of obs)) 4096) (all_of nonempty (rects_of obs)) e in (
      whole_by (length obs) (length (rects_of obs)) (ltb (length obs) (length (rects_of obs) * 4)) refl (rects_length obs).0 (λ h. ap bit (sym (rects_part obs h) ∙ k.1)),
      leb-true (length (rects_of obs)) 4096 k.0,
    )

-- ---- what is past the counts stays
pub counted_rest : (s n : ℕ) (v out : List ℤ) → Counted s n v out → drop n out ≡ drop n v
counted_rest s n v out k =
    ext_get_or (pos 0) (drop n out) (drop n v) (length-drop n out ∙ ap (λ (l : ℕ). l - n) k.size ∙ sym (length-drop n v))
    (λ i h. get_or-drop n out i (pos 0) ∙ k.kept (n + i) (omega arith) ∙ sym (get_or-drop n v i (pos 0)))

pub cleared_laid : (w : Rect) (b : Bounds) (n : ℕ) (v₀ v : List ℤ) → n ≡ entries w → n ≤ length v₀ → v ≡ replicate n (pos 0) ++ drop n v₀ → RectsStamped w b (drop n v₀) [] v
cleared_laid w b n v₀ v e h k =
    let z : entries w ≤ length v = rw (← e, k) (omega (arith, length-append (replicate n (pos 0)) (drop n v₀), length-replicate n (pos 0))) in
    let l = laid_none w b v z
    (λ i q. rw k (get_or-append (replicate n (pos 0)) (drop n v₀) (pos 0) i (omega (arith, length-replicate n (pos 0)))
    ∙ get_or-replicate n i (pos 0) (pos 0) (omega arith))) in
    let r : drop (entries w) v ≡ drop n v₀ = rw (← e, k) (drop_at (replicate n (pos 0)) (drop n v₀) n (length-replicate n (pos 0))) in
    record { spans = l.spans; stamped = l.stamped; inside = l.inside; many = l.many; law = l.law; kept = r }

-- ---- the byte of a centre
bit_elim : (t : Bool) → bit t ≡ elim t [ true ↦ 1 | false ↦ 0 ]
bit_elim true = refl
bit_elim false = refl

pixel_x_lem : (w : Rect) (n c : ℕ) → w.left ≡ pos n → pos (n + c % width w) ≡ pixel_x w c
unfolding pixel_x
pixel_x_lem w n c e = rw e

pixel_y_lem : (w : Rect) (n c : ℕ) → w.top ≡ pos n → pos (n + c / width w) ≡ pixel_y w c
unfolding pixel_y
pixel_y_lem w n c e = rw e

-- the edge does not depend on the obstacles
edge_same : (m : Map) (obs : List Rect) (b : Bounds) (x y : ℤ) → off_edge m [] b x y ≡ off_edge m obs b x y
unfolding off_edge
edge_same m obs b x y = refl

-- every rectangle that is laid
abbrev pub laid_all : Map → List Rect → List Rect
laid_all m obs = obs ++ (shut_cells m (length m.cells) ++ [])

module _ (m : Map) (obs : List Rect) (w : Rect) (b : Bounds) where
  any_laid : (x y : ℤ) → any_of (λ (r : Rect). keeps_off r b x y) (laid_all m obs) ≡ (off_terrain m obs b x y || off_obstacle m obs b x y)
  unfolding shut_cells off_terrain off_obstacle
  any_laid x y =
      any_append (λ (r : Rect). keeps_off r b x y) obs (shut_cells m (length m.cells) ++ [])
      ∙ or_comm (any_of (λ (r : Rect). keeps_off r b x y) obs) (any_of (λ (r : Rect). keeps_off r b x y) (shut_cells m (length m.cells) ++ []))
      ∙ ap (λ (l : List Rect). any_of (λ (r : Rect). keeps_off r b x y) l || any_of (λ (r : Rect). keeps_off r b x y) obs) (append-nil (shut_cells m (length m.cells)))
      ∙ ap (λ (t : Bool). t || any_of (λ (r : Rect). keeps_off r b x y) obs)
      (any_map_filter (λ (j : ℕ). eqb (get_or m.cells j 1) 0) (cell_rect m) (λ (r : Rect). keeps_off r b x y) (below (length m.cells)))

  module _ (fits : window_fits 8192 8192 w ≡ true) (rest v out : List ℤ) (l : RectsStamped w b rest (laid_all m obs) v)
      (few : length (laid_all m obs) ≤ 1052672) (k : Counted (width w + 1) (entries w) v out) where
    counts_hits : (c : ℕ) → c < centres w → get_or out (c / width w * (width w + 1) + c % width w) (pos 0) ≡ pos (hits (laid_all m obs) b (pixel_x w c) (pixel_y w c))
    unfolding entries
    counts_hits c h =
        let f = framed 8192 8192 w fits in
        let x : c % width w < width w + 1 = omega (arith, column_lt w f.filled c) in
        let y = mul-le-mul_right (width w + 1) (row_lt w f.filled c h) in
        let e = k.counts l.spans l.stamped l.inside (omega (arith, l.many)) (c / width w * (width w + 1) + c % width w) (omega (arith, column_lt w f.filled c)) in
        (rw (digits_mod (c / width w) {m = width w + 1} {r = c % width w} x, digits_div (c / width w) {m = width w + 1} {r = c % width w} x) at e) ∙ ap pos (l.law c h)

    byte_mark : (c : ℕ) → c < centres w → blocked_at m b (up w.left) (up w.top) (width w) out c ≡ mark m obs b (pixel_x w c) (pixel_y w c)
    unfolding blocked_at mark
    byte_mark c h =
        let f = framed 8192 8192 w fits in
        let x = pixel_x w c in
        let y = pixel_y w c in
        ap bit
        (ap₂ ◌||◌
        (ap (lt_z (pos 0)) (counts_hits c h) ∙ hits_any (laid_all m obs) b x y ∙ any_laid x y)
        (edge_same m obs b (pos (up w.left + c % width w)) (pos (up w.top + c / width w)) ∙ ap₂ (off_edge m obs b) (pixel_x_lem w (up w.left) c f.left) (pixel_y_lem w (up w.top) c f.top)))
        ∙ bit_elim (off_terrain m obs b x y || off_obstacle m obs b x y || off_edge m obs b x y)

    pub filled_baseline : (u : List ℕ) → filled (blocked_at m b (up w.left) (up w.top) (width w) out) (centres w) u ≡ baseline_of m obs b w ++ drop (centres w) u
    unfolding filled baseline_of
    filled_baseline u =
        filled_same (blocked_at m b (up w.left) (up w.top) (width w) out) (λ (c : ℕ). mark m obs b (pixel_x w c) (pixel_y w c)) (centres w) u byte_mark
