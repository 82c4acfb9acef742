-- The counts of a window: laying one more rectangle, and what the counts say once they are summed.
use mathlib.Core.Path.{◌≡◌, refl, ap, ap₂, ◌∙◌}
use mathlib.Core.Bool.{Bool, true, false, ◌||◌}
use mathlib.Core.List.{List, [], ◌∷◌, ◌++◌, map, map-append, append-nil}
use Prim.Native.Nat.{ℕ, zero, suc, ◌+◌, ◌≤◌, ◌<◌}
use native.Mathlib.Nat.{mul-le-mul_right}
use native.Mathlib.Omega.{arith}
use lib.Dec.{ltb, eqb}
use lib.IntN.{ℤ, pos}
use lib.ListN.{length, get_or, drop, length-append}
use borrow.Author.Tests.{lt-ltb}
use Rattle.base_laws.specs.Lists.{any_of, select, span, below}
use Rattle.base_laws.proofs.Tests.{below_last, filter_append, filter_one}
use Rattle.base_model.specs.declared.Rect.{Rect}
use Rattle.base_model.specs.declared.Bounds.{Bounds}
use Rattle.ground_rects.specs.declared.Span.{Span}
use Rattle.ground_rects.specs.Rects.{keeps_off}
use Rattle.ground_rects.specs.Spans.{Clipped}
use Rattle.ground_rects.specs.Windows.{width, pixel_x, pixel_y}
use Rattle.ground_counts.specs.Counts.{bit, count_of, none, more, at_bottom_right, stamp_of, Stampable}
use Rattle.ground_counts.proofs.Grid.{stamped_none, stamped_small, stamp_law, stamp_rest}
use Rattle.ground_baseline.specs.Baseline.{Map, cell_rect}
use Rattle.ground_baseline.specs.Stamps.{hits, shut_cells, entries, RectsStamped, Open}

-- ---- hits
pub hits_append : (qs rs : List Rect) (m : Bounds) (x y : ℤ) → hits (qs ++ rs) m x y ≡ hits qs m x y + hits rs m x y
unfolding hits
hits_append [] rs m x y = omega arith
hits_append (q ∷ qs) rs m x y = omega (arith, hits_append qs rs m x y)

some_by : (t : Bool) (n : ℕ) (u : Bool) → ltb 0 n ≡ u → ltb 0 (bit t + n) ≡ (t || u)
some_by true n u e = lt-ltb 0 (1 + n) (omega arith)
some_by false n u e = let z : 0 + n ≡ n = omega arith in rw z e

-- some rectangle keeps the mover off where the count is above 0
pub hits_any : (rs : List Rect) (m : Bounds) (x y : ℤ) → ltb 0 (hits rs m x y) ≡ any_of (λ (r : Rect). keeps_off r m x y) rs
unfolding hits any_of
hits_any [] m x y = refl
hits_any (r ∷ rs) m x y = some_by (keeps_off r m x y) (hits rs m x y) (any_of (λ (q : Rect). keeps_off q m x y) rs) (hits_any rs m x y)

-- what is read within a list does not depend on what stands past its end
pub get_d_same : {A : Type 0} (xs : List A) (i : ℕ) (d e : A) → i < length xs → get_or xs i d ≡ get_or xs i e
get_d_same [] i d e h = absurd (omega arith)
get_d_same (x ∷ xs) zero d e h = refl
get_d_same (x ∷ xs) (suc i) d e h = get_d_same xs i d e (omega arith)

-- ---- one more rectangle
module _ (w : Rect) (m : Bounds) where
  pub laid_none : (v : List ℤ) → entries w ≤ length v → ((i : ℕ) → i < entries w → get_or v i (pos 0) ≡ pos 0) → RectsStamped w m (drop (entries w) v) [] v
  unfolding count_of hits
  laid_none v h k = record { spans = []; stamped = stamped_none (width w + 1) (entries w) v h k; inside = none; many = refl; law = λ c q. refl; kept = refl }

  module _ (r : Rect) (p : Span) (v : List ℤ) (a : Clipped r w m p) where
    corner_in : at_bottom_right (width w + 1) p < entries w
    unfolding entries
    corner_in = omega (arith, a.right, mul-le-mul_right (width w + 1) a.bottom)

    pub laid_stampable : Open w m v 1 → Stampable (width w + 1) p v
    laid_stampable o = record {
      fits = λ e. omega (arith, corner_in, o.laid.stamped.long);
      small = λ i h. stamped_small (width w + 1) (entries w) o.laid.spans v 2147483644 o.laid.stamped (omega (arith, o.laid.many, o.few)) i (omega (arith, corner_in));
    }

    pub laid_more : (rest : List ℤ) (rs : List Rect) → RectsStamped w m rest rs v → RectsStamped w m rest (r ∷ rs) (stamp_of (width w + 1) p v)
    unfolding count_of hits
    laid_more rest rs l = record {
      spans = p ∷ l.spans;
      stamped = stamp_law (width w + 1) (entries w) p l.spans v (λ e. corner_in) l.stamped;
      inside = more {p = p} (omega (arith, a.right)) l.inside;
      many = ap suc l.many;
      law = λ c h. ap₂ ◌+◌ (ap bit (a.law c h)) (l.law c h);
      kept = stamp_rest (width w + 1) (entries w) p l.spans v (λ e. corner_in) l.stamped ∙ l.kept;
    }

  -- the order of the rectangles does not matter
  pub laid_last : (rest : List ℤ) (r : Rect) (qs rs : List Rect) (v : List ℤ) → RectsStamped w m rest (r ∷ (qs ++ rs)) v → RectsStamped w m rest ((qs ++ (r ∷ [])) ++ rs) v
  unfolding hits
  laid_last rest r qs rs v l = record {
    spans = l.spans;
    stamped = l.stamped;
    inside = l.inside;
    many = omega (arith, l.many, length-append (qs ++ (r ∷ [])) rs, length-append qs (r ∷ []), length-append qs rs);
    law = λ c h.
        omega (arith, l.law c h, hits_append qs rs m (pixel_x w c) (pixel_y w c), hits_append (qs ++ (r ∷ [])) rs m (pixel_x w c) (pixel_y w c), hits_append qs (r ∷ []) m (pixel_x w c) (pixel_y w c));
    kept = l.kept;
  }

-- ---- the unwalkable cells, one more
cells_by : (m : Map) (k : ℕ) (t : Bool) → eqb (get_or m.cells k 1) 0 ≡ t → shut_cells m (suc k) ≡ shut_cells m k ++ map (cell_rect m) (elim t [ true ↦ k ∷ [] | false ↦ [] ])
unfolding shut_cells
cells_by m k t e =
    ap (λ (l : List ℕ). map (cell_rect m) (select (λ (j : ℕ). eqb (get_or m.cells j 1) 0) l)) (below_last k)
    ∙ ap (map (cell_rect m)) (filter_append (λ (j : ℕ). eqb (get_or m.cells j 1) 0) (below k) (k ∷ []))
    ∙ map-append (cell_rect m) (select (λ (j : ℕ). eqb (get_or m.cells j 1) 0) (below k)) (select (λ (j : ℕ). eqb (get_or m.cells j 1) 0) (k ∷ []))
    ∙ ap (λ (l : List ℕ). map (cell_rect m) (select (λ (j : ℕ). eqb (get_or m.cells j 1) 0) (below k)) ++ map (cell_rect m) l)
    (filter_one (λ (j : ℕ). eqb (get_or m.cells j 1) 0) k ∙ ap (λ (u : Bool). elim u [ true ↦ k ∷ [] | false ↦ [] ]) e)

pub cells_shut : (m : Map) (k : ℕ) → eqb (get_or m.cells k 1) 0 ≡ true → shut_cells m (suc k) ≡ shut_cells m k ++ (cell_rect m k ∷ [])
cells_shut m k e = cells_by m k true e

pub cells_open : (m : Map) (k : ℕ) → eqb (get_or m.cells k 1) 0 ≡ false → shut_cells m (suc k) ≡ shut_cells m k
cells_open m k e = cells_by m k false e ∙ append-nil (shut_cells m k)

cell_by : (m : Map) (k : ℕ) (t : Bool) → eqb (get_or m.cells k 1) 0 ≡ t → length (shut_cells m k) ≤ k → length (shut_cells m (suc k)) ≤ suc k
cell_by m k true e h = rw (cells_shut m k e) (omega (arith, length-append (shut_cells m k) (cell_rect m k ∷ [])))
cell_by m k false e h = rw (cells_open m k e) (omega arith)

pub cells_none : (m : Map) → shut_cells m 0 ≡ []
unfolding shut_cells below span select
cells_none m = refl

pub cells_few : (m : Map) (k : ℕ) → length (shut_cells m k) ≤ k
cells_few m zero = rw (cells_none m) (omega arith)
cells_few m (suc k) = cell_by m k (eqb (get_or m.cells k 1) 0) refl (cells_few m k)
