-- A route over n nodes looks at the open nodes below n alone: the search stays below n, and so do the sides of its edges.
use Prim.Native.Nat.{ℕ, zero, suc, ◌*◌, ◌/◌, ◌%◌, ◌<◌}
use mathlib.Core.Path.{◌≡◌, refl, sym, ap, ap₂, ◌∙◌, subst}
use mathlib.Core.Bool.{Bool, true, false, ◌&&◌, ◌||◌}
use mathlib.Core.Logic.{⊎_elim}
use mathlib.Core.Option.{Option}
use mathlib.Core.List.Memᴰ
use mathlib.Core.List.{List, [], ◌∷◌, map, Memᴰ}
use lib.Dec.{eqb, ltb}
use lib.IntN.{ℤ, pos, ◌+ℤ◌}
use lib.ListN.{length, get_or}
use borrow.Author.Tests.{ltb-true}
use Rattle.base_laws.specs.Lists.{all_of}
use Rattle.base_laws.proofs.Members.{either, get_d_member}
use Rattle.base_laws.proofs.Turns.{all_same, filter_same}
use Rattle.rule_routes.specs.Edges.{Edge, Step, eq_z, centre, sides_from, edge_by, window_edges}
use Rattle.rule_routes.specs.Routes.{Route, neighbours, onward, discover, sweep, Searched, search_from, any_route, nodes_of, route}
use Rattle.rule_routes.specs.Pairs.{Within}
use Rattle.rule_routes.proofs.Neighbours.{neighbours_below}
use Rattle.rule_routes.proofs.SearchLaws.{extend_keeps}
use Rattle.rule_routes.proofs.WindowLaws.{Inside, inside_is, centre_below, centre_inside, window_out, window_within}

-- the sides of edges of nodes below n are below n
abbrev pub Sided : (ℕ → List Edge) → ℕ → Type 0
Sided edges n = (u : ℕ) → u < n → (e : Edge) → Memᴰ e (edges u) → (c : ℕ) → Memᴰ c e.sides → c < n

module _ (edges : ℕ → List Edge) (n : ℕ) (within : Within edges n) (sided : Sided edges n) (f g : ℕ → Bool) (same : (c : ℕ) → c < n → f c ≡ g c) where
  neighbours_same : (u : ℕ) → u < n → neighbours edges f u ≡ neighbours edges g u
  unfolding neighbours
  neighbours_same u h =
      ap (map (λ (e : Edge). e.target))
      (filter_same (λ (e : Edge). f e.target && all_of f e.sides) (λ (e : Edge). g e.target && all_of g e.sides) (edges u)
      (λ e m. ap₂ ◌&&◌ (same e.target (within u h e m)) (all_same f g e.sides (λ c k. same c (sided u h e m c k)))))

  abbrev Low : List Route → Type 0
  Low found = (r : Route) → Memᴰ r found → r.at < n

  low_extend : (r : Route) (found : List Route) → r.at < n → Low found → Low (discover r (neighbours edges f r.at) found)
  unfolding onward
  low_extend r found h low =
      extend_keeps Low r (neighbours edges f r.at) found
      (λ l v p m k x i.
      ⊎_elim (λ (a : Memᴰ x l). p x a)
      (λ (b : Memᴰ x (onward r v ∷ [])). subst (λ (y : Route). y.at < n) (sym (Memᴰ.eq_of_singleton b)) (neighbours_below edges f n within r.at v h m))
      (Memᴰ.append_cases l i))
      low

  search_same : (stops : ℕ → Bool) (turns k : ℕ) (found : List Route) → Low found → sweep (neighbours edges f) stops turns k found ≡ sweep (neighbours edges g) stops turns k found
  unfolding sweep
  search_same stops zero k found low = refl
  search_same stops (suc turns) k found low =
      either (ltb k (length found))
      (λ t.
      let r : Route = get_or found k any_route in
      let h : r.at < n = low r (get_d_member found k any_route (ltb-true k (length found) t)) in
      rw (sweep, t)
      (ap₂ (λ (a b : Searched). elim (stops r.at) [ true ↦ a | false ↦ b ]) refl
      (search_same stops turns (suc k) (discover r (neighbours edges f r.at) found) (low_extend r found h low)
      ∙ ap (λ (vs : List ℕ). sweep (neighbours edges g) stops turns (suc k) (discover r vs found)) (neighbours_same r.at h))))
      (λ e. rw (sweep, e))

  pub route_same_lem : (s t : ℕ) → s < n → t < n → route edges n f s t ≡ route edges n g s t
  unfolding route search_from
  route_same_lem s t h k =
      ap₂ (λ (b : Bool) (x : Searched). elim b [ true ↦ nodes_of x.hit | false ↦ Option.none ]) (ap₂ ◌&&◌ (same s h) (same t k))
      (search_same (λ (v : ℕ). eqb v t) n 0 (record { at = s; back = [] } ∷ [])
      (λ r m. subst (λ (y : Route). y.at < n) (sym (Memᴰ.eq_of_singleton m)) h))

-- ---- in a window
module _ (width height : ℕ) (steps : List Step) where
  side_below : (x y : ℤ) (s : Step) → Inside width height x y → Inside width height (x +ℤ s.dx) (y +ℤ s.dy) → (c : ℕ) → Memᴰ c (sides_from width height x y s) → c < width * height
  unfolding sides_from
  side_below x y s i j c m =
      either (eq_z s.dx (pos 0) || eq_z s.dy (pos 0))
      (λ t. absurd (Memᴰ.not-nil (rw (sides_from, t) at m)))
      (λ e.
      ⊎_elim
      (λ (q : c ≡ centre width height (x +ℤ s.dx) y). rw q (centre_below width height (x +ℤ s.dx) y (record { columns = j.columns; rows = i.rows; column = j.column; row = i.row })))
      (λ (k : Memᴰ c (centre width height x (y +ℤ s.dy) ∷ [])).
      rw (Memᴰ.eq_of_singleton k) (centre_below width height x (y +ℤ s.dy) (record { columns = i.columns; rows = j.rows; column = i.column; row = j.row })))
      (Memᴰ.cases_cons (rw (sides_from, e) at m)))

  pub window_sided : Sided (window_edges width height steps) (width * height)
  unfolding edge_by
  window_sided u h e m c k =
      let b = window_out width height steps u e m in
      side_below (pos (u % width)) (pos (u / width)) b.step
      (inside_is width height (pos (u % width)) (pos (u / width)) (centre_inside width height u h))
      (inside_is width height (pos (u % width) +ℤ b.step.dx) (pos (u / width) +ℤ b.step.dy) b.stays)
      c (subst (λ (x : Edge). Memᴰ c x.sides) (sym b.is) k)

  pub window_route_same : (f g : ℕ → Bool) → ((c : ℕ) → c < width * height → f c ≡ g c) → (s t : ℕ) → s < width * height → t < width * height
      → route (window_edges width height steps) (width * height) f s t ≡ route (window_edges width height steps) (width * height) g s t
  window_route_same f g = route_same_lem (window_edges width height steps) (width * height) (window_within width height steps) window_sided f g
