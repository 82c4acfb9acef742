-- When a placement touches a route in a window.
use Rattle.std.specs.Prelude.{ℕ, ◌/◌, ◌%◌, ◌<◌, ◌≡◌, Bool, true, false, not, ◌&&◌, ◌||◌, eqb, leb, ltb}
use mathlib.Core.List.{List, [], ◌∷◌, Memᴰ}
use Rattle.base_laws.specs.Lists.{any_of}
use Rattle.base_model.specs.declared.Rect.{Rect}
use Rattle.base_model.specs.declared.Bounds.{Bounds}
use Rattle.ground_rects.specs.declared.Span.{Span}
use Rattle.ground_rects.specs.Rects.{nonempty, small, keeps_off}
use Rattle.ground_rects.specs.Windows.{width, height, centres, pixel_x, pixel_y}
use Rattle.ground_rects.specs.Spans.{in_span}
use Rattle.rule_routes.specs.Edges.{Edge, Step, each_once, window_edges}
use Rattle.rule_routes.specs.Routes.{leans_on}

-- from each node an edge leads to the next
unfoldable pub Linked : (ℕ → List Edge) → List ℕ → Type 0
Linked edges [] = Unit {0}
Linked edges (u ∷ []) = Unit {0}
Linked edges (u ∷ v ∷ r) = ((e : Edge) × Memᴰ e (edges u) × (e.target ≡ v)) × Linked edges (v ∷ r)

-- the centres of a route in the window, by steps of the table
pub record Trail (w : Rect) (steps : List Step) (r : List ℕ) : Type 0 where
  pub once : each_once steps ≡ true
  pub small : (v : ℕ) → Memᴰ v r → v < centres w
  pub linked : Linked (window_edges (width w) (height w) steps) r

-- the rectangle keeps the mover off a centre that the route leans on
unfoldable pub touched : Rect → Bounds → Rect → List Step → List ℕ → Bool
touched collision m w steps r = any_of (λ (c : ℕ). keeps_off collision m (pixel_x w c) (pixel_y w c)) (leans_on (window_edges (width w) (height w) steps) r)

-- what is asked of a look at a route
pub record Looks (w : Rect) (m : Bounds) : Type 0 where
  pub some : nonempty w ≡ true
  pub slim : small m ≡ true

-- the span holds the point at column x and row y, or a side of the diagonal step from there to column x' and row y'
unfoldable pub step_in : Span → (x y x' y' : ℕ) → Bool
step_in s x y x' y' = in_span s x y || ((not (eqb x x') && not (eqb y y')) && (in_span s x' y || in_span s x y'))

-- the span holds a point of the route or a side of one of its diagonal steps
unfoldable pub grazes : Span → ℕ → List ℕ → Bool
grazes s width [] = false
grazes s width (u ∷ []) = in_span s (u % width) (u / width)
grazes s width (u ∷ v ∷ r) = step_in s (u % width) (u / width) (v % width) (v / width) || grazes s width (v ∷ r)

-- neither a nor b is one of the numbers from low up to high
pub record BothOff (low high a b : ℕ) : Type 0 where
  pub first : (leb low a && ltb a high) ≡ false
  pub second : (leb low b && ltb b high) ≡ false
