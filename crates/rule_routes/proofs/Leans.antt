-- What a route leans on: its points and the side nodes of its steps. They are open; and a walk that no covered node touches stays a walk.
use Prim.Native.Nat.{ℕ}
use mathlib.Core.Path.{◌≡◌, refl, sym, ap, ◌∙◌, subst}
use mathlib.Core.Bool.{Bool, true}
use mathlib.Core.Logic.{⊎_elim}
use mathlib.Core.List.Memᴰ
use mathlib.Core.List.{
  List,
  [],
  ◌∷◌,
  ◌++◌,
  append-nil,
  map,
  Memᴰ,
}
use lib.Dec.{eqb}
use borrow.Author.Tests.{eqb-true, eq-eqb}
use Rattle.base_laws.specs.Lists.{select, flat, Distinct}
use Rattle.base_laws.proofs.Members.{filter_in, filter_out, concat_in, concat_out}
use Rattle.base_laws.proofs.Distinct.{map_apart, filter_one}
use Rattle.rule_routes.specs.Edges.{Edge}
use Rattle.rule_routes.specs.Routes.{neighbours, sides_of, leans_on}
use Rattle.rule_routes.specs.Chains.{Joined}
use Rattle.rule_routes.specs.Roads.{Walk, Walk·stop, Walk·step}
use Rattle.rule_routes.specs.Pairs.{OneEdge}
use Rattle.rule_routes.proofs.Walks.{walk_starts}
use Rattle.rule_routes.proofs.Neighbours.{leads_out, leads_in, walk_joined}

pub sides_in : (edges : ℕ → List Edge) (u v : ℕ) (e : Edge) → Memᴰ e (edges u) → e.target ≡ v → (c : ℕ) → Memᴰ c e.sides → Memᴰ c (sides_of edges u v)
unfolding sides_of
sides_in edges u v e m q c k =
    concat_in _ e.sides c (Memᴰ.map (λ (e : Edge). e.sides) (filter_in (λ (e : Edge). eqb e.target v) (edges u) e m (eq-eqb e.target v q))) k

pub sides_out : (edges : ℕ → List Edge) (u v c : ℕ) → Memᴰ c (sides_of edges u v) → (e : Edge) × Memᴰ e (edges u) × (e.target ≡ v) × Memᴰ c e.sides
unfolding sides_of
sides_out edges u v c m =
    let o = concat_out _ c m in
    let s = Memᴰ.of_map (λ (e : Edge). e.sides) (select (λ (e : Edge). eqb e.target v) (edges u)) o.1 in
    let f = filter_out (λ (e : Edge). eqb e.target v) (edges u) s.0 s.1 in
    (s.0, f.0, eqb-true s.0.target v f.1, rw s.2 o.2)

-- the side nodes of a step are those of its edge
pub sides_of_edge : (edges : ℕ → List Edge) (u : ℕ) → Distinct (map (λ (e : Edge). e.target) (edges u)) → (e : Edge) → Memᴰ e (edges u) → sides_of edges u e.target ≡ e.sides
unfolding sides_of flat
sides_of_edge edges u d e m = rw (sides_of, filter_one (λ (e : Edge). e.target) (edges u) d e m) (append-nil e.sides)

module _ (edges : ℕ → List Edge) where
  leans_step : {nbrs : ℕ → List ℕ} (u : ℕ) {v t : ℕ} {r : List ℕ} → Walk nbrs v t r → leans_on edges (u ∷ r) ≡ u ∷ (sides_of edges u v ++ leans_on edges r)
  unfolding leans_on
  leans_step u Walk·stop = refl
  leans_step u (Walk·step m k) = refl

  -- a route leans on its points
  pub leans_points : (r : List ℕ) (v : ℕ) → Memᴰ v r → Memᴰ v (leans_on edges r)
  unfolding leans_on
  leans_points [] v m = m
  leans_points (u ∷ []) v m = m
  leans_points (u ∷ w ∷ r) v m =
      ⊎_elim
      (λ (e : v ≡ u). Memᴰ.head e)
      (λ (k : Memᴰ v (w ∷ r)). Memᴰ.tail (Memᴰ.append_right (sides_of edges u w) (leans_points (w ∷ r) v k)))
      (Memᴰ.cases_cons m)

  -- all that a walk over open nodes leans on is open
  pub leans_open : OneEdge edges → (free : ℕ → Bool) → {s t : ℕ} {r : List ℕ} → free s ≡ true → Walk (neighbours edges free) s t r
      → (c : ℕ) → Memᴰ c (leans_on edges r) → free c ≡ true
  unfolding leans_on
  leans_open one free o Walk·stop c m = ap free (Memᴰ.eq_of_singleton m) ∙ o
  leans_open one free o (Walk·step {u = u} {v = v} {r = r} k w) c m =
      let l = leads_out edges free u v k in
      ⊎_elim
      (λ (e : c ≡ u). ap free e ∙ o)
      (λ (j : Memᴰ c (sides_of edges u v ++ leans_on edges r)).
      ⊎_elim
      (λ (i : Memᴰ c (sides_of edges u v)).
      let s = sides_out edges u v c i in
      let same : s.0 ≡ l.edge = map_apart (λ (e : Edge). e.target) (edges u) (one u) s.0 l.edge s.1 l.is_edge (s.2 ∙ sym l.to) in
      l.sides_open c (subst (λ (e : Edge). Memᴰ c e.sides) same s.3))
      (λ (i : Memᴰ c (leans_on edges r)). leans_open one free l.opens w c i)
      (Memᴰ.append_cases (sides_of edges u v) j))
      (Memᴰ.cases_cons (rw (leans_step u w) at m))

  -- what a walk leans on is all that it needs: where the open nodes of these stay open, it stays a walk
  pub walk_untouched : (free after : ℕ → Bool) {s t : ℕ} {r : List ℕ} → Walk (neighbours edges free) s t r
      → ((c : ℕ) → Memᴰ c (leans_on edges r) → free c ≡ true → after c ≡ true) → Walk (neighbours edges after) s t r
  walk_untouched free after Walk·stop keep = Walk·stop
  walk_untouched free after (Walk·step {u = u} {v = v} {r = r} k w) keep =
      let l = leads_out edges free u v k in
      let keep' : (c : ℕ) → Memᴰ c (u ∷ (sides_of edges u v ++ leans_on edges r)) → free c ≡ true → after c ≡ true = rw (leans_step u w) at keep in
      let later : (c : ℕ) → Memᴰ c (leans_on edges r) → free c ≡ true → after c ≡ true = λ c m. keep' c (Memᴰ.tail (Memᴰ.append_right (sides_of edges u v) m)) in
      Walk·step
      (leads_in edges after u v
      (record {
        edge = l.edge;
        is_edge = l.is_edge;
        to = l.to;
        opens = later v (leans_points r v (walk_starts w)) l.opens;
        sides_open =
            λ c m. keep' c (Memᴰ.tail (Memᴰ.append_left (leans_on edges r) (sides_in edges u v l.edge l.is_edge l.to c m))) (l.sides_open c m);
      }))
      (walk_untouched free after w later)

  pub joined_untouched : (free after : ℕ → Bool) {s t : ℕ} {r : List ℕ} → free s ≡ true → Walk (neighbours edges free) s t r
      → ((c : ℕ) → Memᴰ c (leans_on edges r) → free c ≡ true → after c ≡ true) → Joined edges after s t
  joined_untouched free after {s} {r = r} o w keep =
      walk_joined edges after (keep s (leans_points r s (walk_starts w)) o) (walk_untouched free after w keep)
