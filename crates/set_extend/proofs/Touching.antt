-- The touch test by columns and rows. The edges of a window lead one step away, so a step's side centres are found where its ends differ in both
-- column and row: in the column of one end and the row of the other. A span holds what the rectangle covers, and nothing of a step whose rows, or whose
-- columns, both miss it.
use Prim.Native.Nat.{ℕ, ◌+◌, ◌*◌, ◌/◌, ◌%◌, ◌<◌}
use mathlib.Core.Path.{◌≡◌, refl, sym, ap, ap₂, ◌∙◌, subst}
use mathlib.Core.Bool.{Bool, true, false, not, ◌&&◌, ◌||◌, and-false, or_assoc, or-false}
use mathlib.Core.List.{List, [], ◌∷◌, Memᴰ}
use native.Mathlib.Nat.{mul_comm}
use native.Mathlib.Omega.{arith}
use lib.Arith.{digits_lt, digits_div, digits_mod}
use lib.Dec.{eqb, leb, ltb}
use lib.IntN.{ℤ, pos, ◌+ℤ◌}
use borrow.Author.Tests.{eqb-true, eqb-false}
use Rattle.base_laws.specs.Ints.{up, dn}
use Rattle.base_laws.proofs.Ints.{add_parts, eq_parts}
use Rattle.base_laws.specs.Lists.{any_of}
use Rattle.base_laws.proofs.Members.{either}
use Rattle.base_laws.proofs.Tests.{any_append}
use Rattle.base_model.specs.declared.Rect.{Rect}
use Rattle.base_model.specs.declared.Bounds.{Bounds}
use Rattle.ground_rects.specs.declared.Span.{Span}
use Rattle.ground_rects.specs.Rects.{nonempty, keeps_off}
use Rattle.ground_rects.specs.Windows.{width, height, centres, pixel_x, pixel_y}
use Rattle.ground_rects.specs.Spans.{in_span, Clipped}
use Rattle.ground_rects.proofs.Windows.{column_lt, row_lt}
use Rattle.rule_routes.specs.Edges.{Edge, Step, eq_z, each_once, centre, sides_from, edge_by, window_edges}
use Rattle.rule_routes.specs.Routes.{neighbours, sides_of, leans_on}
use Rattle.rule_routes.specs.Roads.{Walk, Walk·stop, Walk·step}
use Rattle.rule_routes.proofs.StepLaws.{eq_z_true}
use Rattle.rule_routes.proofs.Neighbours.{leads_out}
use Rattle.rule_routes.proofs.Leans.{sides_of_edge}
use Rattle.rule_routes.proofs.WindowLaws.{inside_is, centre_column, centre_row, ByStep, window_out, window_one_edge}
use Rattle.set_extend.specs.Touch.{Linked, Trail, touched, step_in, grazes, BothOff}

-- ---- tests
neither_nor : (p q : Bool) → not (p || q) ≡ (not p && not q)
neither_nor true q = refl
neither_nor false q = refl

any_two : (f : ℕ → Bool) (a b : ℕ) (t : Bool) → any_of f (elim t [ true ↦ [] | false ↦ a ∷ b ∷ [] ]) ≡ (not t && (f a || f b))
unfolding any_of
any_two f a b true = refl
any_two f a b false = ap (λ (x : Bool). f a || x) (or-false (f b))

-- a step keeps the column where its column part is zero
still : (a b : ℕ) (d : ℤ) → pos b ≡ pos a +ℤ d → eq_z d (pos 0) ≡ eqb a b
unfolding eq_z
still a b d e =
    either (eqb a b)
    (λ t. rw t (ap (λ (z : ℤ). eq_z z (pos 0)) (eq_parts d (pos 0) (let q = eqb-true a b t in omega (arith, add_parts (pos a) d, ap (λ (z : ℤ). up z) e, ap (λ (z : ℤ). dn z) e)))))
    (λ f.
    rw f
    (either (eq_z d (pos 0))
    (λ z.
    let k : d ≡ pos 0 = eq_z_true d (pos 0) z in
    absurd (eqb-false a b f (omega (arith, add_parts (pos a) d, ap (λ (z : ℤ). up z) e, ap (λ (z : ℤ). dn z) e, ap (λ (z : ℤ). up z) k, ap (λ (z : ℤ). dn z) k))))
    (λ n. n)))

-- ---- the steps of a walk are edges
pub walk_linked : (edges : ℕ → List Edge) (free : ℕ → Bool) {s t : ℕ} {r : List ℕ} → Walk (neighbours edges free) s t r → Linked edges r
unfolding Linked
walk_linked edges free Walk·stop = tt
walk_linked edges free (Walk·step {u = u} m Walk·stop) = let l = leads_out edges free u _ m in ((l.edge, l.is_edge, l.to), tt)
walk_linked edges free (Walk·step {u = u} {v = v} m (Walk·step n k)) = let l = leads_out edges free u v m in ((l.edge, l.is_edge, l.to), walk_linked edges free (Walk·step n k))

module _ (collision : Rect) (m : Bounds) (w : Rect) (s : Span) (some : nonempty w ≡ true) (clipped : Clipped collision w m s) where
  abbrev keeps : ℕ → Bool
  keeps c = keeps_off collision m (pixel_x w c) (pixel_y w c)

  -- the centre in a column and a row
  at_cell : (x y : ℕ) → x < width w → y < height w → keeps (y * width w + x) ≡ in_span s x y
  unfolding centres
  at_cell x y p q =
      let below : y * width w + x < width w * height w = rw (mul_comm (width w) (height w)) (digits_lt q p) in
      sym (clipped.law (y * width w + x) below) ∙ ap₂ (λ (a b : ℕ). in_span s a b) (digits_mod y p) (digits_div y p)

  module _ (steps : List Step) (once : each_once steps ≡ true) where
    abbrev edges : ℕ → List Edge
    edges = window_edges (width w) (height w) steps

    -- the sides of one step
    at_sides : (u v : ℕ) → u < centres w → v < centres w → (e : Edge) → Memᴰ e (edges u) → e.target ≡ v
        → any_of keeps (sides_of edges u v)
        ≡ ((not (eqb (u % width w) (v % width w)) && not (eqb (u / width w) (v / width w))) && (in_span s (v % width w) (u / width w) || in_span s (u % width w) (v / width w)))
    unfolding edge_by sides_from centre
    at_sides u v hu hv e k to =
        ap (any_of keeps) (ap (sides_of edges u) (sym to) ∙ sides_of_edge edges u (window_one_edge (width w) (height w) steps once u) e k ∙ ap (λ (x : Edge). x.sides) (sym b.is))
        ∙ ap₂ (λ (p q : ℤ). any_of keeps
        (elim (eq_z dx (pos 0) || eq_z dy (pos 0))
        [ true ↦ [] | false ↦ centre (width w) (height w) p y ∷ centre (width w) (height w) x q ∷ [] ])) (sym column) (sym row)
        ∙ any_two keeps (u / width w * width w + v % width w) (v / width w * width w + u % width w) (eq_z dx (pos 0) || eq_z dy (pos 0))
        ∙ ap₂ ◌&&◌
        (neither_nor (eq_z dx (pos 0)) (eq_z dy (pos 0)) ∙ ap₂ (λ (p q : Bool). not p && not q) (still (u % width w) (v % width w) dx column) (still (u / width w) (v / width w) dy row))
        (ap₂ ◌||◌
        (at_cell (v % width w) (u / width w) (column_lt w some v) (row_lt w some u hu))
        (at_cell (u % width w) (v / width w) (column_lt w some u) (row_lt w some v hv)))
      where
        b : ByStep (width w) (height w) steps u e
        b = window_out (width w) (height w) steps u e k

        x : ℤ
        x = pos (u % width w)

        y : ℤ
        y = pos (u / width w)

        dx : ℤ
        dx = b.step.dx

        dy : ℤ
        dy = b.step.dy

        is_target : centre (width w) (height w) (x +ℤ dx) (y +ℤ dy) ≡ v
        is_target = ap (λ (x : Edge). x.target) b.is ∙ to

        column : pos (v % width w) ≡ x +ℤ dx
        column = subst (λ (c : ℕ). pos (c % width w) ≡ x +ℤ dx) is_target (centre_column (width w) (height w) (x +ℤ dx) (y +ℤ dy) (inside_is (width w) (height w) _ _ b.stays))

        row : pos (v / width w) ≡ y +ℤ dy
        row = subst (λ (c : ℕ). pos (c / width w) ≡ y +ℤ dy) is_target (centre_row (width w) (height w) (x +ℤ dx) (y +ℤ dy) (inside_is (width w) (height w) _ _ b.stays))

    at_point : (u : ℕ) → u < centres w → keeps u ≡ in_span s (u % width w) (u / width w)
    at_point u h = sym (clipped.law u h)

    grazes_leans : (r : List ℕ) → ((v : ℕ) → Memᴰ v r → v < centres w) → Linked edges r → any_of keeps (leans_on edges r) ≡ grazes s (width w) r
    unfolding any_of leans_on Linked grazes step_in
    grazes_leans [] small l = refl
    grazes_leans (u ∷ []) small l = or-false (keeps u) ∙ at_point u (small u (Memᴰ.head refl))
    grazes_leans (u ∷ v ∷ r) small l =
        ap₂ ◌||◌ (at_point u (small u (Memᴰ.head refl)))
        (any_append keeps (sides_of edges u v) (leans_on edges (v ∷ r))
        ∙ ap₂ ◌||◌
        (at_sides u v (small u (Memᴰ.head refl)) (small v (Memᴰ.tail (Memᴰ.head refl))) l.0.0 l.0.1 l.0.2)
        (grazes_leans (v ∷ r) (λ x k. small x (Memᴰ.tail k)) l.1))
        ∙ sym (or_assoc (in_span s (u % width w) (u / width w)) _ (grazes s (width w) (v ∷ r)))

  pub grazes_touched : (steps : List Step) (r : List ℕ) → Trail w steps r → grazes s (width w) r ≡ touched collision m w steps r
  unfolding touched
  grazes_touched steps r t = sym (grazes_leans steps t.once r t.small t.linked)

-- ---- steps that miss a span
module _ (s : Span) (x y x' y' : ℕ) where
  abbrev diagonal : Bool
  diagonal = not (eqb x x') && not (eqb y y')

  pub rows_off : BothOff s.top s.bottom y y' → step_in s x y x' y' ≡ false
  unfolding step_in in_span
  rows_off h =
      rw (h.first, h.second, and-false (leb s.left x && ltb x s.right), and-false (leb s.left x' && ltb x' s.right)) (and-false diagonal)

  pub columns_off : BothOff s.left s.right x x' → step_in s x y x' y' ≡ false
  unfolding step_in in_span
  columns_off h = rw (h.first, h.second) (and-false diagonal)
