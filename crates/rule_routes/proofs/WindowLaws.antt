-- The edges of a window. A centre inside is a column below the width and a row below the height, and its number gives both back; so edges stay
-- inside, lead to different centres, and come in opposite pairs: the step back from a target leads to the centre, past the same sides.
use Prim.Native.Nat.{ℕ, zero, suc, ◌*◌, ◌/◌, ◌%◌, ◌<◌}
use mathlib.Core.Path.{◌≡◌, refl, sym, ap, ◌∙◌, subst}
use mathlib.Core.Bool.{Bool, true, ◌&&◌, ◌||◌, false≢true}
use mathlib.Core.List.Memᴰ
use mathlib.Core.List.{List, map-map, reverse, Memᴰ}
use native.Mathlib.Nat.{div-add-mod', mod-lt, div-lt_iff_lt-mul, mul_comm}
use native.Mathlib.Omega.{arith}
use lib.Arith.{digits_lt, digits_div, digits_mod}
use lib.IntN.{ℤ, pos, negsuc, neg_ℤ, nat_abs, ◌+ℤ◌, +ℤ-neg_ℤ_cancel}
use lib.Signed.{le_z, lt_z}
use borrow.Author.Tests.{ltb-true, lt-ltb, le-leb, lt-leb}
use Rattle.base_laws.specs.Ints.{up, dn}
use Rattle.base_laws.specs.Lists.{select}
use Rattle.base_laws.proofs.Ints.{add_parts, eq_parts}
use Rattle.base_laws.proofs.Members.{either, both, both_true, filter_in, filter_out, reverse_member}
use Rattle.base_laws.proofs.Distinct.{distinct_filter, distinct_map}
use Rattle.rule_routes.specs.Edges.{Edge, Step, step_by, eq_z, each_once, centre, inside, sides_from, edge_by, edges_from, window_edges}
use Rattle.rule_routes.specs.Chains.{Joined}
use Rattle.rule_routes.specs.Pairs.{Within, Paired, OneEdge}
use Rattle.rule_routes.proofs.Neighbours.{joined_sub}
use Rattle.rule_routes.proofs.StepLaws.{opposite, steps_apart, opposite_in, steps_agree}

-- a whole number from 0 to below m
from_zero : (m : ℕ) (z : ℤ) → le_z (pos 0) z ≡ true → lt_z z (pos m) ≡ true → (nat_abs z < m) × (pos (nat_abs z) ≡ z)
from_zero m (pos a) p q = (ltb-true a m q, refl)
from_zero m (negsuc a) p q = absurd (false≢true p)

sum_apart : (z a b : ℤ) → z +ℤ a ≡ z +ℤ b → a ≡ b
sum_apart z a b e = eq_parts a b (omega (arith, add_parts z a, add_parts z b, ap (λ (x : ℤ). up x) e, ap (λ (x : ℤ). dn x) e))

zero_neg : (a : ℤ) → eq_z (neg_ℤ a) (pos 0) ≡ eq_z a (pos 0)
unfolding eq_z
zero_neg (pos zero) = refl
zero_neg (pos (suc a)) = rw (eq_z, lt-leb (suc a) 0 (omega arith))
zero_neg (negsuc a) = rw (eq_z, lt-leb (suc a) 0 (omega arith))

has_columns : (w h u : ℕ) → u < w * h → 0 < w
has_columns zero h u p = absurd (omega arith)
has_columns (suc w) h u p = omega arith

module _ (width height : ℕ) where
  pub record Inside (x y : ℤ) : Type 0 where
    pub columns : nat_abs x < width
    pub rows : nat_abs y < height
    pub column : pos (nat_abs x) ≡ x
    pub row : pos (nat_abs y) ≡ y

  pub inside_is : (x y : ℤ) → inside width height x y ≡ true → Inside x y
  unfolding inside
  inside_is x y e =
      let a = both (le_z (pos 0) x && lt_z x (pos width) && le_z (pos 0) y) (lt_z y (pos height)) e in
      let b = both (le_z (pos 0) x && lt_z x (pos width)) (le_z (pos 0) y) a.0 in
      let c = both (le_z (pos 0) x) (lt_z x (pos width)) b.0 in
      let p = from_zero width x c.0 c.1 in
      let q = from_zero height y b.1 a.1 in
      record { columns = p.0; rows = q.0; column = p.1; row = q.1 }

  pub inside_make : (x y : ℕ) → x < width → y < height → inside width height (pos x) (pos y) ≡ true
  unfolding inside
  inside_make x y p q =
      both_true (both_true (both_true (le-leb 0 x (omega arith)) (lt-ltb x width p)) (le-leb 0 y (omega arith))) (lt-ltb y height q)

  pub centre_below : (x y : ℤ) → Inside x y → centre width height x y < width * height
  unfolding centre
  centre_below x y i = rw (mul_comm width height) (digits_lt i.rows i.columns)

  pub centre_column : (x y : ℤ) → Inside x y → pos (centre width height x y % width) ≡ x
  unfolding centre
  centre_column x y i = ap pos (digits_mod (nat_abs y) i.columns) ∙ i.column

  pub centre_row : (x y : ℤ) → Inside x y → pos (centre width height x y / width) ≡ y
  unfolding centre
  centre_row x y i = ap pos (digits_div (nat_abs y) i.columns) ∙ i.row

  pub centre_is : (u : ℕ) → centre width height (pos (u % width)) (pos (u / width)) ≡ u
  unfolding centre
  centre_is u = div-add-mod' u width

  pub centre_inside : (u : ℕ) → u < width * height → inside width height (pos (u % width)) (pos (u / width)) ≡ true
  centre_inside u h =
      let w = has_columns width height u h in
      inside_make (u % width) (u / width) (mod-lt u w) ((div-lt_iff_lt-mul {k = width} {x = u} {y = height} w).1 (rw (mul_comm height width) h))

  -- the sides of the step back are those of the step
  sides_turn : (x y : ℤ) (s : Step) → sides_from width height (x +ℤ s.dx) (y +ℤ s.dy) (opposite s) ≡ reverse (sides_from width height x y s)
  unfolding sides_from opposite step_by
  sides_turn x y s =
      either (eq_z s.dx (pos 0) || eq_z s.dy (pos 0))
      (λ t. rw (sides_from, zero_neg s.dx, zero_neg s.dy, t))
      (λ f. rw (sides_from, zero_neg s.dx, zero_neg s.dy, f, +ℤ-neg_ℤ_cancel x s.dx, +ℤ-neg_ℤ_cancel y s.dy))

  edge_turn : (x y : ℤ) (s : Step) → edge_by width height (x +ℤ s.dx) (y +ℤ s.dy) (opposite s)
      ≡ record { target = centre width height x y; sides = reverse (sides_from width height x y s) }
  unfolding edge_by opposite step_by
  edge_turn x y s =
      let p : x +ℤ s.dx +ℤ neg_ℤ s.dx ≡ x = +ℤ-neg_ℤ_cancel x s.dx in
      let q : y +ℤ s.dy +ℤ neg_ℤ s.dy ≡ y = +ℤ-neg_ℤ_cancel y s.dy in
      λ i. record { target = centre width height (p i) (q i); sides = sides_turn x y s i }

  -- inside, a centre's number tells its place
  centre_apart : (x y x' y' : ℤ) → Inside x y → Inside x' y' → centre width height x y ≡ centre width height x' y' → (x ≡ x') × (y ≡ y')
  centre_apart x y x' y' i j e = (
    sym (centre_column x y i) ∙ ap (λ (c : ℕ). pos (c % width)) e ∙ centre_column x' y' j,
    sym (centre_row x y i) ∙ ap (λ (c : ℕ). pos (c / width)) e ∙ centre_row x' y' j,
  )

  -- so two steps that stay inside lead to different centres
  target_apart : (x y : ℤ) (s t : Step) → inside width height (x +ℤ s.dx) (y +ℤ s.dy) ≡ true → inside width height (x +ℤ t.dx) (y +ℤ t.dy) ≡ true
      → (edge_by width height x y s).target ≡ (edge_by width height x y t).target → s ≡ t
  unfolding edge_by
  target_apart x y s t i j e =
      let a = centre_apart (x +ℤ s.dx) (y +ℤ s.dy) (x +ℤ t.dx) (y +ℤ t.dy) (inside_is _ _ i) (inside_is _ _ j) e in
      let p : s.dx ≡ t.dx = sum_apart x s.dx t.dx a.0 in
      let q : s.dy ≡ t.dy = sum_apart y s.dy t.dy a.1 in
      λ i. record { dx = p i; dy = q i }

  module _ (steps : List Step) where
    abbrev stays_in : ℕ → Step → Bool
    stays_in u s = inside width height (pos (u % width) +ℤ s.dx) (pos (u / width) +ℤ s.dy)

    -- an edge of u, by its step
    pub record ByStep (u : ℕ) (e : Edge) : Type 0 where
      pub step : Step
      pub listed : Memᴰ step steps
      pub stays : inside width height (pos (u % width) +ℤ step.dx) (pos (u / width) +ℤ step.dy) ≡ true
      pub is : edge_by width height (pos (u % width)) (pos (u / width)) step ≡ e

    pub window_out : (u : ℕ) (e : Edge) → Memᴰ e (window_edges width height steps u) → ByStep u e
    unfolding window_edges edges_from
    window_out u e m =
        let o = Memᴰ.of_map (edge_by width height (pos (u % width)) (pos (u / width))) (select (stays_in u) steps) m in
        let f = filter_out (stays_in u) steps o.0 o.1 in
        record { step = o.0; listed = f.0; stays = f.1; is = o.2 }

    pub window_in : (u : ℕ) (e : Edge) → ByStep u e → Memᴰ e (window_edges width height steps u)
    unfolding window_edges edges_from
    window_in u e b =
        Memᴰ.cast (sym b.is)
        (Memᴰ.map (edge_by width height (pos (u % width)) (pos (u / width))) (filter_in (stays_in u) steps b.step b.listed b.stays))

    -- edges stay in the window
    pub window_within : Within (window_edges width height steps) (width * height)
    unfolding edge_by
    window_within u h e m =
        let b = window_out u e m in
        subst (λ (x : Edge). x.target < width * height) b.is (centre_below _ _ (inside_is _ _ b.stays))

    module _ (once : each_once steps ≡ true) where
      turned : (u : ℕ) → u < width * height → (s : Step) → Memᴰ s steps → stays_in u s ≡ true
          → Memᴰ (record { target = u; sides = reverse (edge_by width height (pos (u % width)) (pos (u / width)) s).sides })
          (window_edges width height steps (edge_by width height (pos (u % width)) (pos (u / width)) s).target)
      unfolding edge_by opposite step_by
      turned u h s m stays =
          window_in v _ (record { step = opposite s; listed = opposite_in steps once s m; stays = back_inside; is = back_is })
        where
          x : ℤ
          x = pos (u % width)

          y : ℤ
          y = pos (u / width)

          v : ℕ
          v = centre width height (x +ℤ s.dx) (y +ℤ s.dy)

          column : pos (v % width) ≡ x +ℤ s.dx
          column = centre_column (x +ℤ s.dx) (y +ℤ s.dy) (inside_is _ _ stays)

          row : pos (v / width) ≡ y +ℤ s.dy
          row = centre_row (x +ℤ s.dx) (y +ℤ s.dy) (inside_is _ _ stays)

          back_inside : inside width height (pos (v % width) +ℤ neg_ℤ s.dx) (pos (v / width) +ℤ neg_ℤ s.dy) ≡ true
          back_inside = rw (column, row, +ℤ-neg_ℤ_cancel x s.dx, +ℤ-neg_ℤ_cancel y s.dy) (centre_inside u h)

          back_is : edge_by width height (pos (v % width)) (pos (v / width)) (opposite s) ≡ record { target = u; sides = reverse (sides_from width height x y s) }
          back_is =
              (λ i. edge_by width height (column i) (row i) (opposite s)) ∙ edge_turn x y s
              ∙ (λ i. record { target = centre_is u i; sides = reverse (sides_from width height x y s) })

      -- the edge back, past the same sides
      pub window_back : (u : ℕ) → u < width * height → (e : Edge) → Memᴰ e (window_edges width height steps u)
          → Memᴰ (record { target = u; sides = reverse e.sides }) (window_edges width height steps e.target)
      window_back u h e m =
          let b = window_out u e m in
          subst (λ (x : Edge). Memᴰ (record { target = u; sides = reverse x.sides }) (window_edges width height steps x.target))
          b.is (turned u h b.step b.listed b.stays)

      pub window_paired : Paired (window_edges width height steps) (width * height)
      window_paired u h e m =
          (record { target = u; sides = reverse e.sides }, window_back u h e m, refl, λ c k. reverse_member e.sides k)

      -- the edges of a centre lead to different centres
      pub window_one_edge : OneEdge (window_edges width height steps)
      unfolding window_edges edges_from
      window_one_edge u =
          let stays : (s : Step) → Memᴰ s (select (stays_in u) steps) → stays_in u s ≡ true = λ s m. (filter_out (stays_in u) steps s m).1 in
          rw map-map
          (distinct_map (λ (s : Step). (edge_by width height (pos (u % width)) (pos (u / width)) s).target)
          (λ s t m k. target_apart (pos (u % width)) (pos (u / width)) s t (stays s m) (stays t k))
          (distinct_filter (stays_in u) (steps_apart steps once)))

-- Whatever the order of the steps, a centre has the same edges, and the same centres are joined.
module _ (width height : ℕ) (a b : List Step) (p : each_once a ≡ true) (q : each_once b ≡ true) where
  pub window_agree : (u : ℕ) (e : Edge) → Memᴰ e (window_edges width height a u) → Memᴰ e (window_edges width height b u)
  window_agree u e m =
      let o = window_out width height a u e m in
      window_in width height b u e (record { step = o.step; listed = steps_agree a b p q o.step o.listed; stays = o.stays; is = o.is })

  pub joined_order : (free : ℕ → Bool) {s t : ℕ} → Joined (window_edges width height a) free s t → Joined (window_edges width height b) free s t
  joined_order free j = joined_sub (window_edges width height a) (window_edges width height b) free free window_agree (λ c h. h) j
