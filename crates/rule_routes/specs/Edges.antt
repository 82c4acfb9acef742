-- The ground of a route: each node has edges, in the order in which they are tried. An edge is a target and the side nodes that must be open (RULES 1.5, 2.1, 2.2, 14.1).
use Rattle.std.specs.Prelude.{ℕ, ◌+◌, ◌*◌, ◌/◌, ◌%◌, Bool, true, false, ◌&&◌, ◌||◌, List, [], ◌∷◌, map, eqb, ℤ, pos, negsuc, nat_abs, ◌+ℤ◌, length}
use Rattle.std.specs.Int.Signed.{le_z, lt_z}
use Rattle.base_laws.specs.Lists.{all_of, select}

pub record Edge : Type 0 where
  pub target : ℕ
  pub sides : List ℕ

pub record Step : Type 0 where
  pub dx : ℤ
  pub dy : ℤ

unfoldable pub step_by : ℤ → ℤ → Step
step_by dx dy = record { dx = dx; dy = dy }

-- (1,0) (0,1) (−1,0) (0,−1) (1,1) (−1,1) (−1,−1) (1,−1)
unfoldable pub eight_steps : List Step
eight_steps =
    step_by (pos 1) (pos 0) ∷ step_by (pos 0) (pos 1) ∷ step_by (negsuc 0) (pos 0) ∷ step_by (pos 0) (negsuc 0)
    ∷ step_by (pos 1) (pos 1) ∷ step_by (negsuc 0) (pos 1) ∷ step_by (negsuc 0) (negsuc 0) ∷ step_by (pos 1) (negsuc 0) ∷ []

-- a table of x, y pairs
unfoldable pub steps_of : List ℤ → List Step
steps_of [] = []
steps_of (x ∷ []) = []
steps_of (x ∷ y ∷ rest) = step_by x y ∷ steps_of rest

unfoldable pub eq_z : ℤ → ℤ → Bool
eq_z a b = le_z a b && le_z b a

unfoldable pub same_step : Step → Step → Bool
same_step s t = eq_z s.dx t.dx && eq_z s.dy t.dy

-- each of the eight steps stands in the table exactly once, and nothing else does
unfoldable pub each_once : List Step → Bool
each_once steps = eqb (length steps) 8 && all_of (λ (s : Step). eqb (length (select (same_step s) steps)) 1) eight_steps

-- a table that a caller gives fits: sixteen numbers, eight x, y pairs, and each of the eight steps is one of them
unfoldable pub table_fits : List ℤ → Bool
table_fits table = eqb (length table) 16 && each_once (steps_of table)

-- the order of the eight above, as a table
unfoldable pub original_steps : List ℤ
original_steps =
    pos 1 ∷ pos 0 ∷ pos 0 ∷ pos 1 ∷ negsuc 0 ∷ pos 0 ∷ pos 0 ∷ negsuc 0
    ∷ pos 1 ∷ pos 1 ∷ negsuc 0 ∷ pos 1 ∷ negsuc 0 ∷ negsuc 0 ∷ pos 1 ∷ negsuc 0 ∷ []

-- A window of so many columns and rows; its centres are numbered row × width + column.
module _ (width height : ℕ) where
  unfoldable pub centre : (x y : ℤ) → ℕ
  centre x y = nat_abs y * width + nat_abs x

  unfoldable pub inside : (x y : ℤ) → Bool
  inside x y = le_z (pos 0) x && lt_z x (pos width) && le_z (pos 0) y && lt_z y (pos height)

  -- a diagonal needs both side centres open
  unfoldable pub sides_from : (x y : ℤ) → Step → List ℕ
  sides_from x y s =
      elim (eq_z s.dx (pos 0) || eq_z s.dy (pos 0)) [ true ↦ [] | false ↦ centre (x +ℤ s.dx) y ∷ centre x (y +ℤ s.dy) ∷ [] ]

  unfoldable pub edge_by : (x y : ℤ) → Step → Edge
  edge_by x y s = record { target = centre (x +ℤ s.dx) (y +ℤ s.dy); sides = sides_from x y s }

  -- the steps of the table that stay inside the window, in the table's order
  unfoldable pub edges_from : (x y : ℤ) → List Step → List Edge
  edges_from x y steps = map (edge_by x y) (select (λ (s : Step). inside (x +ℤ s.dx) (y +ℤ s.dy)) steps)

  unfoldable pub window_edges : List Step → ℕ → List Edge
  window_edges steps c = edges_from (pos (c % width)) (pos (c / width)) steps
