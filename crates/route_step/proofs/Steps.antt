-- Where the steps of a table lead: the definition's edges, by the cases that the code tells apart.
use mathlib.Core.Path.{◌≡◌, refl, sym, ap, ◌∙◌, subst}
use mathlib.Core.Bool.{Bool, true, false, ◌&&◌, true≢false, and-true, and-false, or-true}
use mathlib.Core.List.Memᴰ
use mathlib.Core.List.{List, [], ◌∷◌, ◌++◌, map, map-append, Memᴰ}
use mathlib.Core.Logic.{⊎_elim}
use Prim.Native.Nat.{ℕ, zero, suc, ◌+◌, ◌*◌, ◌/◌, ◌%◌, ◌<◌}
use native.Mathlib.Nat.{mul_comm}
use native.Mathlib.Omega.{arith}
use borrow.Author.Tests.{lt-leb, lt-ltb, le-leb, eq-eqb, ltb-true}
use lib.Arith.{digits_lt}
use lib.Dec.{leb, ltb}
use lib.IntN.{ℤ, pos, negsuc, ◌+ℤ◌}
use lib.ListN.{get_or}
use mir.Syntax.{w32}
use mir.Val.{SFits, of_z}
use Rattle.base_laws.specs.Lists.{all_of, select}
use Rattle.base_laws.proofs.Tests.{filter_append}
use Rattle.base_laws.proofs.Members.{either, both}
use Rattle.rule_routes.specs.Edges.{Edge, Step, step_by, eq_z, centre, inside, sides_from, edge_by, edges_from, window_edges}
use Rattle.rule_routes.specs.Routes.{neighbours}
use Rattle.route_step.specs.Ground.{open_in, leads}

-- ---- open centres
pub open_is : (cells : List ℕ) (c : ℕ) → get_or cells c 0 ≡ 0 → open_in cells c ≡ true
unfolding open_in
open_is cells c e = eq-eqb (get_or cells c 0) 0 e

-- ---- a part of a step that is zero, and one that is not
eq_z_not : (a : ℤ) → (a ≡ pos 0 → ⊥) → eq_z a (pos 0) ≡ false
unfolding eq_z
eq_z_not (pos zero) n = absurd (n refl)
eq_z_not (pos (suc k)) n = rw (lt-leb (suc k) 0 (omega arith))
eq_z_not (negsuc k) n = refl

pub zero_bits : (z : ℤ) → SFits w32 z → of_z w32 z ≡ 0 → z ≡ pos 0
zero_bits (pos n) f e = ap pos e
zero_bits (negsuc n) f e = let h = f.sfits in absurd (omega arith)

-- ---- a window's sizes
pub centre_below : {width height x y : ℕ} → x < width → y < height → y * width + x < width * height
centre_below {width} {height} hx hy = rw (mul_comm width height) (digits_lt hy hx)

-- ---- one step
abbrev usable : List ℕ → Edge → Bool
usable cells e = open_in cells e.target && all_of (open_in cells) e.sides

unfoldable pub only : Bool → ℕ → List ℕ
only true v = v ∷ []
only false v = []

module _ {A : Type 0} where
  filter_yes : (f : A → Bool) (a : A) (l : List A) → f a ≡ true → select f (a ∷ l) ≡ a ∷ select f l
  unfolding select
  filter_yes f a l e = rw (select, e)

  filter_no : (f : A → Bool) (a : A) (l : List A) → f a ≡ false → select f (a ∷ l) ≡ select f l
  unfolding select
  filter_no f a l e = rw (select, e)

  filter_only : (t : A → ℕ) (f : A → Bool) (a : A) → map t (select f (a ∷ [])) ≡ only (f a) (t a)
  unfolding only select
  filter_only t f a = either (f a) (λ e. ap (map t) (filter_yes f a [] e) ∙ sym (ap (λ (b : Bool). only b (t a)) e)) (λ e. ap (map t) (filter_no f a [] e) ∙ sym (ap (λ (b : Bool). only b (t a)) e))

module _ (cells : List ℕ) (width height : ℕ) (x y : ℤ) (s : Step) where
  leads_one : inside width height (x +ℤ s.dx) (y +ℤ s.dy) ≡ true
      → leads cells width height x y (s ∷ []) ≡ only (usable cells (edge_by width height x y s)) (edge_by width height x y s).target
  unfolding leads edges_from select
  leads_one e =
      ap (λ (l : List Step). map (λ (e : Edge). e.target) (select (usable cells) (map (edge_by width height x y) l)))
      (filter_yes (λ (t : Step). inside width height (x +ℤ t.dx) (y +ℤ t.dy)) s [] e)
      ∙ filter_only (λ (e : Edge). e.target) (usable cells) (edge_by width height x y s)

  pub leads_out : inside width height (x +ℤ s.dx) (y +ℤ s.dy) ≡ false → leads cells width height x y (s ∷ []) ≡ []
  unfolding leads edges_from select
  leads_out e =
      ap (λ (l : List Step). map (λ (e : Edge). e.target) (select (usable cells) (map (edge_by width height x y) l)))
      (filter_no (λ (t : Step). inside width height (x +ℤ t.dx) (y +ℤ t.dy)) s [] e)

module _ (cells : List ℕ) (width height x y : ℕ) (dx dy : ℤ) where
  abbrev step : Step
  step = step_by dx dy

  abbrev sides : Bool
  sides = all_of (open_in cells) (sides_from width height (pos x) (pos y) step)

  pub along_row : dy ≡ pos 0 → true ≡ sides
  unfolding sides_from step_by all_of eq_z
  along_row e = rw (e, or-true (eq_z dx (pos 0)))

  pub along_column : dx ≡ pos 0 → true ≡ sides
  unfolding sides_from step_by all_of eq_z
  along_column e = rw e

  module _ (nx ny : ℕ) (ex : pos x +ℤ dx ≡ pos nx) (ey : pos y +ℤ dy ≡ pos ny) where
    pub diagonal : (dx ≡ pos 0 → ⊥) → (dy ≡ pos 0 → ⊥) → sides ≡ open_in cells (y * width + nx) && open_in cells (ny * width + x)
    unfolding sides_from step_by all_of centre
    diagonal hx hy = rw (sides_from, eq_z_not dx hx, eq_z_not dy hy, ex, ey, and-true)

    pub side_row_shut : (dx ≡ pos 0 → ⊥) → (dy ≡ pos 0 → ⊥) → open_in cells (y * width + nx) ≡ false → false ≡ sides
    side_row_shut hx hy e = sym (diagonal hx hy ∙ rw e)

    pub side_column : (dx ≡ pos 0 → ⊥) → (dy ≡ pos 0 → ⊥) → open_in cells (y * width + nx) ≡ true → open_in cells (ny * width + x) ≡ sides
    side_column hx hy e = sym (diagonal hx hy ∙ rw e)

    pub stays_inside : nx < width → ny < height → inside width height (pos x +ℤ dx) (pos y +ℤ dy) ≡ true
    unfolding inside
    stays_inside hx hy = rw (ex, ey, le-leb 0 nx (omega arith), lt-ltb nx width hx, le-leb 0 ny (omega arith), lt-ltb ny height hy)

    target_is : centre width height (pos x +ℤ dx) (pos y +ℤ dy) ≡ ny * width + nx
    unfolding centre
    target_is = rw (ex, ey)

    pub leads_in : nx < width → ny < height
        → leads cells width height (pos x) (pos y) (step ∷ []) ≡ only (open_in cells (ny * width + nx) && sides) (ny * width + nx)
    unfolding edge_by step_by
    leads_in hx hy =
        leads_one cells width height (pos x) (pos y) step (stays_inside hx hy) ∙ ap (λ (v : ℕ). only (open_in cells v && sides) v) target_is

-- ---- a table's steps one by one
pub leads_nil : (cells : List ℕ) (width height : ℕ) (x y : ℤ) → leads cells width height x y [] ≡ []
unfolding leads edges_from select
leads_nil cells width height x y = refl

pub leads_cons : (cells : List ℕ) (width height : ℕ) (x y : ℤ) (s : Step) (steps : List Step)
    → leads cells width height x y (s ∷ steps) ≡ leads cells width height x y (s ∷ []) ++ leads cells width height x y steps
unfolding leads edges_from
leads_cons cells width height x y s steps =
    ap (λ (l : List Step). map (λ (e : Edge). e.target) (select (usable cells) (map (edge_by width height x y) l)))
    (filter_append (λ (t : Step). inside width height (x +ℤ t.dx) (y +ℤ t.dy)) (s ∷ []) steps)
    ∙ simp (map-append, filter_append)

-- every centre to which steps lead is one of the window's
inside_below : (width height : ℕ) (x y : ℤ) → inside width height x y ≡ true → centre width height x y < width * height
unfolding inside centre
inside_below width height (pos x) (pos y) e =
    let i = both (leb 0 x && ltb x width && leb 0 y) (ltb y height) e in
    let j = both (leb 0 x && ltb x width) (leb 0 y) i.0 in
    let k = both (leb 0 x) (ltb x width) j.0 in
    centre_below (ltb-true x width k.1) (ltb-true y height i.1)
inside_below width height (pos x) (negsuc y) e = absurd (true≢false (sym e ∙ rw and-false))
inside_below width height (negsuc x) y e = absurd (true≢false (sym e))

mem_only : (b : Bool) (w : ℕ) {v : ℕ} → Memᴰ v (only b w) → v ≡ w
unfolding only
mem_only true w m = Memᴰ.eq_of_singleton m
mem_only false w m = absurd (Memᴰ.not-nil m)

pub leads_below : (cells : List ℕ) (width height : ℕ) (x y : ℤ) (steps : List Step) (v : ℕ) → Memᴰ v (leads cells width height x y steps) → v < width * height
unfolding leads edges_from select edge_by
leads_below cells width height x y [] v m = absurd (Memᴰ.not-nil m)
leads_below cells width height x y (s ∷ steps) v m =
    ⊎_elim first (λ n. leads_below cells width height x y steps v n)
    (Memᴰ.append_cases (leads cells width height x y (s ∷ [])) (rw (leads_cons cells width height x y s steps) at m))
  where
    first : Memᴰ v (leads cells width height x y (s ∷ [])) → v < width * height
    first n =
        either (inside width height (x +ℤ s.dx) (y +ℤ s.dy))
        (λ t.
        rw (mem_only (usable cells (edge_by width height x y s)) (edge_by width height x y s).target (subst (λ (l : List ℕ). Memᴰ v l) (leads_one cells width height x y s t) n))
        (inside_below width height (x +ℤ s.dx) (y +ℤ s.dy) t))
        (λ f. absurd (Memᴰ.not-nil (subst (λ (l : List ℕ). Memᴰ v l) (leads_out cells width height x y s f) n)))

-- the definition's neighbours are where the steps lead from the centre's column and row
pub neighbours_lead : (cells : List ℕ) (width height : ℕ) (steps : List Step) (u : ℕ)
    → neighbours (window_edges width height steps) (open_in cells) u ≡ leads cells width height (pos (u % width)) (pos (u / width)) steps
unfolding neighbours window_edges leads
neighbours_lead cells width height steps u = refl

pub neighbours_below : (cells : List ℕ) (width height : ℕ) (steps : List Step) (u v : ℕ)
    → Memᴰ v (neighbours (window_edges width height steps) (open_in cells) u) → v < width * height
unfolding neighbours window_edges leads
neighbours_below cells width height steps u v m = leads_below cells width height (pos (u % width)) (pos (u / width)) steps v m
