-- The road there and the road back. Where edges come in opposite pairs each step over open nodes can be taken back, so a road gone from its end is a
-- road; by the route theorem there is then a route back. A window's edges come in such pairs.
use Prim.Native.Nat.{ℕ, ◌*◌, ◌<◌}
use mathlib.Core.Path.{◌≡◌}
use mathlib.Core.Bool.{Bool, true}
use mathlib.Core.List.{List, reverse}
use lib.ListN.{length-reverse}
use Rattle.base_laws.proofs.Members.{reverse_member}
use Rattle.base_laws.proofs.Distinct.{distinct_reverse}
use Rattle.rule_routes.specs.Edges.{Edge, Step, each_once, window_edges}
use Rattle.rule_routes.specs.Routes.{neighbours}
use Rattle.rule_routes.specs.Chains.{Joined}
use Rattle.rule_routes.specs.Roads.{Walk, Road, Routed, BothLegs}
use Rattle.rule_routes.specs.Pairs.{Within, Paired}
use Rattle.rule_routes.proofs.Walks.{walk_back, walk_chain, walk_starts, chain_walk}
use Rattle.rule_routes.proofs.Neighbours.{leads_out, neighbours_below, neighbours_back}
use Rattle.rule_routes.proofs.RouteTheorem.{route_is_road, route_sound, route_complete}
use Rattle.rule_routes.proofs.WindowLaws.{window_within, window_paired}

module _ (edges : ℕ → List Edge) (n : ℕ) (within : Within edges n) (paired : Paired edges n) (free : ℕ → Bool) where
  -- over open nodes a walk goes back along the same nodes
  pub walk_returns : {s t : ℕ} {r : List ℕ} → s < n → free s ≡ true → Walk (neighbours edges free) s t r → Walk (neighbours edges free) t s (reverse r)
  walk_returns h o w =
      walk_back (λ (u : ℕ). (u < n) × (free u ≡ true))
      (λ u v p m. ((neighbours_below edges free n within u v p.0 m, (leads_out edges free u v m).opens), neighbours_back edges n paired free u v p.0 p.1 m))
      (h, o) w

  pub joined_back : {s t : ℕ} → s < n → Joined edges free s t → Joined edges free t s
  joined_back h j =
      record { start_open = j.end_open; end_open = j.start_open; chain = walk_chain (walk_returns h j.start_open (chain_walk j.chain).1) }

  pub road_back : {s t : ℕ} {r : List ℕ} → s < n → Road edges n free s t r → Road edges n free t s (reverse r)
  road_back {s} {r = r} h road =
      record {
        walk = walk_returns h (road.opens s (walk_starts road.walk)) road.walk;
        opens = λ v m. road.opens v (reverse_member r m);
        small = λ v m. road.small v (reverse_member r m);
        once = distinct_reverse road.once;
        short = rw (length-reverse r) road.short;
      }

  -- BACK ALONG THE SAME ROAD
  pub both_legs : (s t : ℕ) → s < n → t < n → BothLegs edges n free s t
  unfolding Routed
  both_legs s t h k =
      record {
        both_ways = (
          (λ r. route_complete edges n within free t s k (joined_back h (route_sound edges n within free s t h r))),
          (λ r. route_complete edges n within free s t h (joined_back k (route_sound edges n within free t s k r))),
        );
        there = λ r e. route_is_road edges n within free s t h r e;
        back = λ r e. road_back h (route_is_road edges n within free s t h r e);
      }

-- in a window, whatever the order of the eight steps
pub window_both_legs : (width height : ℕ) (steps : List Step) → each_once steps ≡ true → (free : ℕ → Bool) (s t : ℕ) → s < width * height → t < width * height
    → BothLegs (window_edges width height steps) (width * height) free s t
window_both_legs width height steps once free =
    both_legs (window_edges width height steps) (width * height) (window_within width height steps) (window_paired width height steps once) free
