-- What an order of steps means. The search finds the first way by the order of the open neighbours. What stands earlier among these stands earlier among the edges, and
-- in a window its step stands earlier in the table. No two ways can both be first, so whatever is first is the route.
use Prim.Native.Nat.{ℕ, ◌*◌, ◌/◌, ◌%◌, ◌<◌}
use mathlib.Core.Path.{◌≡◌, refl, sym, ap, ◌∙◌, subst}
use mathlib.Core.Bool.{Bool, true, ◌&&◌}
use mathlib.Core.Option.{Option, none, some, none-ne-some}
use mathlib.Core.List.{List, map, Memᴰ}
use lib.Dec.{eqb}
use lib.IntN.{ℤ, pos, ◌+ℤ◌, ◌-ℤ◌}
use Rattle.base_laws.specs.Lists.{all_of, select}
use Rattle.base_laws.proofs.Ints.{sum_minus}
use Rattle.base_laws.proofs.Members.{filter_out}
use Rattle.rule_routes.specs.Edges.{Edge, Step, step_by, inside, edge_by, edges_from, window_edges}
use Rattle.rule_routes.specs.Routes.{neighbours, search_from, route}
use Rattle.rule_routes.specs.Roads.{Walk, Routed}
use Rattle.rule_routes.specs.Pairs.{Within, OneEdge}
use Rattle.rule_routes.specs.Shortest.{ByEdges, step_between, BySteps, Way, FirstWay, RouteIsFirst, RoutesAreFirst, WindowRoutesAreFirst}
use Rattle.rule_routes.proofs.Neighbours.{neighbours_below, neighbours_once, walk_joined}
use Rattle.rule_routes.proofs.StepLaws.{steps_apart}
use Rattle.rule_routes.proofs.WindowLaws.{inside_is, centre_column, centre_row, window_within, window_one_edge}
use Rattle.rule_routes.proofs.RouteTheorem.{route_hit, route_is_road, route_complete}
use Rattle.rule_routes.proofs.Preceding.{precedes_first, precedes_second, precedes_selected, precedes_map, precedes_mapped, precedes_apart, precedes_trans}
use Rattle.rule_routes.proofs.Comparing.{Strict, Among, strict_among, AsGood, good_first, first_one, first_agree}
use Rattle.rule_routes.proofs.FirstFound.{search_best}

module _ (edges : ℕ → List Edge) (n : ℕ) (within : Within edges n) (one : OneEdge edges) (free : ℕ → Bool) (s t : ℕ) (from : s < n) where
  -- neighbours are among the targets of the edges, in their order
  among : (u a b : ℕ) → (Among (neighbours edges free)) u a b → ByEdges edges u a b
  unfolding neighbours
  among u a b p =
      let o = precedes_mapped (λ (e : Edge). e.target) (select (λ (e : Edge). free e.target && all_of free e.sides) (edges u)) p in
      subst (λ (x : ℕ). ByEdges edges u x b) o.3
      (subst (λ (x : ℕ). ByEdges edges u o.0.target x) o.4
      (precedes_map (λ (e : Edge). e.target) (precedes_selected (λ (e : Edge). free e.target && all_of free e.sides) (edges u) o.2)))

  found_first : (r : List ℕ) → route edges n free s t ≡ some r → FirstWay (Among (neighbours edges free)) edges free s t r
  unfolding search_from
  found_first r e =
      let h = route_hit edges n within free s t from r e in
      good_first edges free s t
      (record { start_open = h.start_open; walk = (route_is_road edges n within free s t from r e).walk })
      (λ q w.
      subst (λ (x : List ℕ). AsGood (Among (neighbours edges free)) x q) h.same
      (search_best (neighbours edges free) (λ v. eqb v t) s n (neighbours_below edges free n within) (neighbours_once edges free one) from h.last h.stopped q
      (subst (λ (v : ℕ). Walk (neighbours edges free) s v q) (sym h.ends) w.walk)))

  -- The route is first by every strict order that holds wherever the order of the edges does.
  pub route_first : (sooner : (u a b : ℕ) → Type 0) → Strict sooner → ((u a b : ℕ) → ByEdges edges u a b → sooner u a b) → RouteIsFirst sooner edges n free s t
  unfolding Routed
  route_first sooner strict agree =
      record {
        exactly = λ r. (there r, back r);
        otherwise = (
          (λ e r w. none-ne-some _ (sym e ∙ (way_routed r w).1)),
          (λ no_way. none_found no_way (route edges n free s t) refl),
        );
      }
    where
      way_routed : (r : List ℕ) → Way edges free s t r → (q : List ℕ) × (route edges n free s t ≡ some q)
      way_routed r w = route_complete edges n within free s t from (walk_joined edges free w.start_open w.walk)

      there : (r : List ℕ) → route edges n free s t ≡ some r → FirstWay sooner edges free s t r
      there r e = first_agree (λ u a b p. agree u a b (among u a b p)) edges free s t (found_first r e)

      back : (r : List ℕ) → FirstWay sooner edges free s t r → route edges n free s t ≡ some r
      back r f = let q = way_routed r f.way in q.1 ∙ ap some (first_one strict edges free s t f (there q.0 q.1))

      none_found : ((r : List ℕ) → Way edges free s t r → ⊥) → (o : Option (List ℕ)) → route edges n free s t ≡ o → o ≡ none
      none_found no_way none e = refl
      none_found no_way (some r) e = absurd (no_way r (there r e).way)

-- THE FIRST OF THE SHORTEST WAYS, by the edges
pub route_is_first : RoutesAreFirst
route_is_first edges n within one free s t from =
    route_first edges n within one free s t from (ByEdges edges) (strict_among (λ u. map (λ (e : Edge). e.target) (edges u)) one) (λ u a b p. p)

-- ---- in a window
module _ (width height : ℕ) (steps : List Step) where
  -- a step that stays inside is the step between the two centres
  step_found : (u : ℕ) (s : Step) → inside width height (pos (u % width) +ℤ s.dx) (pos (u / width) +ℤ s.dy) ≡ true
      → step_between width u (edge_by width height (pos (u % width)) (pos (u / width)) s).target ≡ s
  unfolding step_between step_by edge_by
  step_found u s i =
      let x = pos (u % width) in
      let y = pos (u / width) in
      let p = ap (λ (z : ℤ). z -ℤ x) (centre_column width height (x +ℤ s.dx) (y +ℤ s.dy) (inside_is width height _ _ i)) ∙ sum_minus x s.dx in
      let q = ap (λ (z : ℤ). z -ℤ y) (centre_row width height (x +ℤ s.dx) (y +ℤ s.dy) (inside_is width height _ _ i)) ∙ sum_minus y s.dy in
      λ j. record { dx = p j; dy = q j }

  -- edges stand in the order of their steps
  by_table : (u a b : ℕ) → ByEdges (window_edges width height steps) u a b → BySteps width steps u a b
  unfolding window_edges edges_from
  by_table u a b p =
      let edge : Step → Edge = edge_by width height (pos (u % width)) (pos (u / width)) in
      let stays : Step → Bool = λ s. inside width height (pos (u % width) +ℤ s.dx) (pos (u / width) +ℤ s.dy) in
      let e = precedes_mapped (λ (e : Edge). e.target) (map edge (select stays steps)) p in
      let o = precedes_mapped edge (select stays steps) e.2 in
      let found : (s : Step) (f : Edge) (v : ℕ) → Memᴰ s (select stays steps) → edge s ≡ f → f.target ≡ v → s ≡ step_between width u v =
      λ s f v m is to.
      sym (step_found u s (filter_out stays steps s m).1) ∙ ap (step_between width u) (ap (λ (x : Edge). x.target) is ∙ to)
      in
      rw (sym (found o.0 e.0 a (precedes_first o.2) o.3 e.3), sym (found o.1 e.1 b (precedes_second o.2) o.4 e.4))
      (precedes_selected stays steps o.2)

-- THE FIRST OF THE SHORTEST WAYS, by the table
pub window_is_first : WindowRoutesAreFirst
window_is_first width height steps once free s t from =
    route_first (window_edges width height steps) (width * height) (window_within width height steps) (window_one_edge width height steps once) free s t from
    (BySteps width steps) strict (by_table width height steps)
  where
    strict : Strict (BySteps width steps)
    strict =
        record {
          apart = λ {u} p e. precedes_apart (steps_apart steps once) p (ap (step_between width u) e);
          through = λ p q. precedes_trans (steps_apart steps once) p q;
        }
