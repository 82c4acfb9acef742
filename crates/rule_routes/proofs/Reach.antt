-- The search without an end reaches exactly the nodes that are joined to the start, each once, if the start is open. As many have a route from the start; none
-- where it is blocked, and no more where more nodes are blocked.
use Prim.Native.Nat.{ℕ, ◌≤◌, ◌<◌}
use mathlib.Core.Path.{◌≡◌, sym, ◌∙◌}
use mathlib.Core.Bool.{Bool, true, false, false≢true}
use mathlib.Core.Logic.{◌↔◌}
use mathlib.Core.Option.{Option, none, some}
use mathlib.Core.List.{List, Memᴰ}
use lib.ListN.{length, length-map}
use Rattle.base_laws.specs.Lists.{is_some, HowMany}
use Rattle.base_laws.proofs.Members.{is_some_true}
use Rattle.base_laws.proofs.HowMany.{many_le, many_same, many_none, many_below}
use Rattle.rule_routes.specs.Edges.{Edge}
use Rattle.rule_routes.specs.Routes.{Route, neighbours, search_from, route, reach_count}
use Rattle.rule_routes.specs.Chains.{Joined}
use Rattle.rule_routes.specs.Roads.{Routed}
use Rattle.rule_routes.specs.Pairs.{Within}
use Rattle.rule_routes.proofs.Walks.{chain_each}
use Rattle.rule_routes.proofs.SearchLaws.{Answer, Swept, reached, search_answer}
use Rattle.rule_routes.proofs.Neighbours.{neighbours_below, chain_joined, joined_mono}
use Rattle.rule_routes.proofs.RouteTheorem.{route_sound, route_complete}

module _ (edges : ℕ → List Edge) (n : ℕ) (within : Within edges n) (free : ℕ → Bool) (s : ℕ) (from : s < n) where
  pub search_reaches : Swept (neighbours edges free) s n (search_from edges n free (λ v. false) s).found
  unfolding search_from
  search_reaches =
      go (search_from edges n free (λ v. false) s).hit (search_from edges n free (λ v. false) s).found
      (search_answer (neighbours edges free) (λ v. false) s n (neighbours_below edges free n within) from)
    where
      go : (o : Option Route) (found : List Route) → Answer (neighbours edges free) (λ v. false) s n o found
          → Swept (neighbours edges free) s n found
      go none found a = a.0
      go (some r) found a = absurd (false≢true a.1)

  pub reached_iff_joined : free s ≡ true → (v : ℕ) → Memᴰ v (reached (search_from edges n free (λ v. false) s).found) ↔ Joined edges free s v
  reached_iff_joined o v = (
    (λ m. chain_joined edges free o (search_reaches.only v m)),
    (λ j. search_reaches.all v j.chain),
  )

  -- ---- how many nodes have a route from the start
  has_route : (v : ℕ) → Joined edges free s v → is_some (route edges n free s v) ≡ true
  unfolding Routed is_some
  has_route v j = let r = route_complete edges n within free s v from j in rw r.1

  -- as many as are joined to it
  pub reach_joined : HowMany (Joined edges free s) (reach_count edges n free s)
  unfolding reach_count Routed
  reach_joined =
      let m = many_below (λ (v : ℕ). is_some (route edges n free s v)) n in
      record {
        these = m.these;
        once = m.once;
        exactly = λ v. (
          (λ k. route_sound edges n within free s v from (is_some_true (route edges n free s v) ((m.exactly v).0 k).1)),
          (λ j. (m.exactly v).1 (chain_each (λ (u : ℕ). u < n) (neighbours_below edges free n within) from j.chain, has_route v j)),
        );
        many = m.many;
      }

  -- none where the start is blocked
  pub reach_closed : free s ≡ false → reach_count edges n free s ≡ 0
  reach_closed e = many_none (λ v j. false≢true (sym e ∙ j.start_open)) reach_joined

  -- else as many as the search without an end finds
  pub reach_found : free s ≡ true → reach_count edges n free s ≡ length (search_from edges n free (λ v. false) s).found
  reach_found o =
      many_same (λ v. ((λ j. j), (λ j. j))) reach_joined
      (record {
        these = reached (search_from edges n free (λ v. false) s).found;
        once = search_reaches.apart;
        exactly = reached_iff_joined o;
        many = length-map (search_from edges n free (λ v. false) s).found (λ (r : Route). r.at);
      })

-- blocking more nodes never makes the number greater
pub reach_less : (edges : ℕ → List Edge) (n : ℕ) → Within edges n → (free freer : ℕ → Bool) → ((c : ℕ) → free c ≡ true → freer c ≡ true) → (s : ℕ) → s < n
    → reach_count edges n free s ≤ reach_count edges n freer s
reach_less edges n within free freer up s from =
    many_le (λ v. joined_mono edges free freer up) (reach_joined edges n within free s from) (reach_joined edges n within freer s from)
