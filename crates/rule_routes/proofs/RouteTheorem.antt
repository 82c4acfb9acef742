-- The route theorem: there is a route exactly when both ends are open and a chain of steps over open nodes joins them; a route is a road.
use Prim.Native.Nat.{ℕ, zero, suc, ◌<◌}
use mathlib.Core.Path.{◌≡◌, refl, sym, ◌∙◌, subst}
use mathlib.Core.Bool.{Bool, true, false, ◌&&◌, true≢false}
use mathlib.Core.Logic.{◌↔◌}
use mathlib.Core.Option.{Option, none, some, none-ne-some, some-injective}
use mathlib.Core.List.{List, [], ◌∷◌, reverse}
use native.Mathlib.Nat.{not-suc-le-zero}
use lib.Dec.{eqb}
use borrow.Author.Tests.{eqb-true, eq-eqb}
use Rattle.base_laws.specs.Lists.{Distinct}
use Rattle.base_laws.proofs.Members.{either, both}
use Rattle.base_laws.proofs.Distinct.{distinct_reverse, distinct_le}
use Rattle.rule_routes.specs.Edges.{Edge}
use Rattle.rule_routes.specs.Routes.{Route, neighbours, sweep, search_from, nodes_of, route}
use Rattle.rule_routes.specs.Chains.{Joined}
use Rattle.rule_routes.specs.Roads.{Walk, Road, Routed}
use Rattle.rule_routes.specs.Pairs.{Within}
use Rattle.rule_routes.proofs.Walks.{walk_each}
use Rattle.rule_routes.proofs.SearchLaws.{Sound, Answer, search_answer}
use Rattle.rule_routes.proofs.Neighbours.{neighbours_below, walk_opens, walk_joined}

-- an end that is blocked gives no route
pub route_blocked : (edges : ℕ → List Edge) (n : ℕ) (free : ℕ → Bool) (s t : ℕ) → free s && free t ≡ false → route edges n free s t ≡ none
unfolding route
route_blocked edges n free s t e = rw (route, e)

-- equal ends give one point, if open
pub route_same_lem : (edges : ℕ → List Edge) (n : ℕ) (free : ℕ → Bool) (s : ℕ) → s < n → free s ≡ true → route edges n free s s ≡ some (s ∷ [])
unfolding route nodes_of search_from sweep
route_same_lem edges zero free s h o = absurd (not-suc-le-zero h)
route_same_lem edges (suc n) free s h o = rw (route, o, search_from, sweep, eq-eqb s s refl)

module _ (edges : ℕ → List Edge) (n : ℕ) (within : Within edges n) (free : ℕ → Bool) (s t : ℕ) (from : s < n) where
  -- a walk over open nodes from an open node is a road, if it holds no node twice
  pub walk_road : {r : List ℕ} → free s ≡ true → Walk (neighbours edges free) s t r → Distinct r → Road edges n free s t r
  walk_road {r} o w d =
      let small = walk_each (λ v. v < n) (λ u v h m. neighbours_below edges free n within u v h m) w from in
      record { walk = w; opens = walk_opens edges free o w; small = small; once = d; short = distinct_le r n d small }

  answer : Answer (neighbours edges free) (λ v. eqb v t) s n
      (search_from edges n free (λ v. eqb v t) s).hit (search_from edges n free (λ v. eqb v t) s).found
  unfolding search_from
  answer = search_answer (neighbours edges free) (λ v. eqb v t) s n (neighbours_below edges free n within) from

  -- the start is open, and the search has stopped at the end with these nodes
  pub record Hit (r : List ℕ) : Type 0 where
    pub start_open : free s ≡ true
    pub last : Route
    pub stopped : (search_from edges n free (λ v. eqb v t) s).hit ≡ some last
    pub sound : Sound (neighbours edges free) s n (search_from edges n free (λ v. eqb v t) s).found last
    pub ends : last.at ≡ t
    pub same : reverse (last.at ∷ last.back) ≡ r

  pub route_hit : (r : List ℕ) → route edges n free s t ≡ some r → Hit r
  unfolding route nodes_of
  route_hit r e =
      either (free s && free t)
      (λ o. go (both (free s) (free t) o).0 (search_from edges n free (λ v. eqb v t) s).hit refl answer (rw (route, o) at e))
      (λ f. absurd (none-ne-some r (rw (route, f) at e)))
    where
      go : free s ≡ true → (o : Option Route) → (search_from edges n free (λ v. eqb v t) s).hit ≡ o
          → Answer (neighbours edges free) (λ v. eqb v t) s n o (search_from edges n free (λ v. eqb v t) s).found → nodes_of o ≡ some r → Hit r
      go open-start none h a q = absurd (none-ne-some r q)
      go open-start (some x) h a q =
          record {
            start_open = open-start;
            last = x;
            stopped = h;
            sound = a.0;
            ends = eqb-true x.at t a.1;
            same = some-injective (reverse (x.at ∷ x.back)) r q;
          }

  -- a route found is a road from start to end
  pub route_is_road : (r : List ℕ) → route edges n free s t ≡ some r → Road edges n free s t r
  route_is_road r e =
      let h = route_hit r e in
      let w = subst (λ (v : ℕ). Walk (neighbours edges free) s v (reverse (h.last.at ∷ h.last.back))) h.ends h.sound.walk in
      rw h.same at (walk_road h.start_open w (distinct_reverse h.sound.once))

  pub route_sound : Routed edges n free s t → Joined edges free s t
  unfolding Routed
  route_sound r = walk_joined edges free (route_hit r.0 r.1).start_open (route_is_road r.0 r.1).walk

  pub route_complete : Joined edges free s t → Routed edges n free s t
  unfolding Routed nodes_of route
  route_complete j =
      rw (j.start_open, j.end_open, route) (go (search_from edges n free (λ v. eqb v t) s).hit (search_from edges n free (λ v. eqb v t) s).found answer)
    where
      go : (o : Option Route) (found : List Route) → Answer (neighbours edges free) (λ v. eqb v t) s n o found
          → (r : List ℕ) × (nodes_of o ≡ some r)
      go none found a = absurd (true≢false (sym (eq-eqb t t refl) ∙ a.1 t j.chain))
      go (some x) found a = (reverse (x.at ∷ x.back), refl)

  -- THE ROUTE THEOREM
  pub route_iff_joined : Routed edges n free s t ↔ Joined edges free s t
  route_iff_joined = (route_sound, route_complete)
