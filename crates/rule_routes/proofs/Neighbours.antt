-- Neighbours over open nodes: which edge leads there, what more edges and more open nodes keep, what lets a step be taken back, and when none stands twice.
use Prim.Native.Nat.{ℕ, ◌<◌}
use mathlib.Core.Path.{◌≡◌, sym, ap, ◌∙◌, subst}
use mathlib.Core.Bool.{Bool, true, ◌&&◌}
use mathlib.Core.List.Memᴰ
use mathlib.Core.List.{List, Memᴰ}
use Rattle.base_laws.specs.Lists.{all_of, select, Distinct}
use Rattle.base_laws.proofs.Members.{both, both_true, all_member, all_true, filter_in, filter_out}
use Rattle.base_laws.proofs.Distinct.{distinct_map_filter}
use Rattle.rule_routes.specs.Edges.{Edge}
use Rattle.rule_routes.specs.Routes.{neighbours}
use Rattle.rule_routes.specs.Chains.{Chain, Joined}
use Rattle.rule_routes.specs.Roads.{Walk}
use Rattle.rule_routes.specs.Pairs.{Within, Paired, OneEdge}
use Rattle.rule_routes.proofs.Walks.{chain_sub, chain_each, walk_each, walk_chain}

-- an edge of u leads to v over open nodes
pub record Leads (edges : ℕ → List Edge) (free : ℕ → Bool) (u v : ℕ) : Type 0 where
  pub edge : Edge
  pub is_edge : Memᴰ edge (edges u)
  pub to : edge.target ≡ v
  pub opens : free v ≡ true
  pub sides_open : (c : ℕ) → Memᴰ c edge.sides → free c ≡ true

pub leads_out : (edges : ℕ → List Edge) (free : ℕ → Bool) (u v : ℕ) → Memᴰ v (neighbours edges free u) → Leads edges free u v
unfolding neighbours
leads_out edges free u v m =
    let o = Memᴰ.of_map (λ (e : Edge). e.target) (select (λ (e : Edge). free e.target && all_of free e.sides) (edges u)) m in
    let f = filter_out (λ (e : Edge). free e.target && all_of free e.sides) (edges u) o.0 o.1 in
    let b = both (free o.0.target) (all_of free o.0.sides) f.1 in
    record { edge = o.0; is_edge = f.0; to = o.2; opens = rw (sym o.2) b.0; sides_open = all_member free o.0.sides b.1 }

pub leads_in : (edges : ℕ → List Edge) (free : ℕ → Bool) (u v : ℕ) → Leads edges free u v → Memᴰ v (neighbours edges free u)
unfolding neighbours
leads_in edges free u v l =
    let open_end : free l.edge.target ≡ true = ap free l.to ∙ l.opens in
    Memᴰ.cast (sym l.to)
    (Memᴰ.map (λ (e : Edge). e.target)
    (filter_in (λ (e : Edge). free e.target && all_of free e.sides) (edges u) l.edge l.is_edge
    (both_true open_end (all_true free l.edge.sides l.sides_open))))

pub neighbours_below : (edges : ℕ → List Edge) (free : ℕ → Bool) (n : ℕ) → Within edges n → (u v : ℕ) → u < n → Memᴰ v (neighbours edges free u) → v < n
neighbours_below edges free n within u v h m =
    let l = leads_out edges free u v m in
    subst (λ (x : ℕ). x < n) l.to (within u h l.edge l.is_edge)

-- more edges and more open nodes lose no step
pub neighbours_sub : (edges more : ℕ → List Edge) (free freer : ℕ → Bool)
    → ((u : ℕ) (e : Edge) → Memᴰ e (edges u) → Memᴰ e (more u)) → ((c : ℕ) → free c ≡ true → freer c ≡ true)
    → (u v : ℕ) → Memᴰ v (neighbours edges free u) → Memᴰ v (neighbours more freer u)
neighbours_sub edges more free freer sub up u v m =
    let l = leads_out edges free u v m in
    leads_in more freer u v
    (record { edge = l.edge; is_edge = sub u l.edge l.is_edge; to = l.to; opens = up v l.opens; sides_open = λ c k. up c (l.sides_open c k) })

-- a step from an open node can be taken back
pub neighbours_back : (edges : ℕ → List Edge) (n : ℕ) → Paired edges n → (free : ℕ → Bool)
    → (u v : ℕ) → u < n → free u ≡ true → Memᴰ v (neighbours edges free u) → Memᴰ u (neighbours edges free v)
neighbours_back edges n paired free u v h o m =
    let l = leads_out edges free u v m in
    let b = paired u h l.edge l.is_edge in
    leads_in edges free v u
    (record {
      edge = b.0;
      is_edge = subst (λ (x : ℕ). Memᴰ b.0 (edges x)) l.to b.1;
      to = b.2;
      opens = o;
      sides_open = λ c k. l.sides_open c (b.3 c k);
    })

-- no neighbour stands twice where no two edges of a node lead to one node
pub neighbours_once : (edges : ℕ → List Edge) (free : ℕ → Bool) → OneEdge edges → (u : ℕ) → Distinct (neighbours edges free u)
unfolding neighbours
neighbours_once edges free one u = distinct_map_filter (λ (e : Edge). e.target) (λ (e : Edge). free e.target && all_of free e.sides) (edges u) (one u)

-- every node that a walk or a chain over open nodes leads to from an open node is open
pub walk_opens : (edges : ℕ → List Edge) (free : ℕ → Bool) {s t : ℕ} {r : List ℕ} → free s ≡ true → Walk (neighbours edges free) s t r → (v : ℕ) → Memᴰ v r → free v ≡ true
walk_opens edges free o w = walk_each (λ v. free v ≡ true) (λ u v h m. (leads_out edges free u v m).opens) w o

pub chain_joined : (edges : ℕ → List Edge) (free : ℕ → Bool) {s t : ℕ} → free s ≡ true → Chain (neighbours edges free) s t → Joined edges free s t
chain_joined edges free o c =
    record { start_open = o; end_open = chain_each (λ v. free v ≡ true) (λ u v h m. (leads_out edges free u v m).opens) o c; chain = c }

pub walk_joined : (edges : ℕ → List Edge) (free : ℕ → Bool) {s t : ℕ} {r : List ℕ} → free s ≡ true → Walk (neighbours edges free) s t r → Joined edges free s t
walk_joined edges free o w = chain_joined edges free o (walk_chain w)

-- more edges and more open nodes part no nodes that are joined
pub joined_sub : (edges more : ℕ → List Edge) (free freer : ℕ → Bool)
    → ((u : ℕ) (e : Edge) → Memᴰ e (edges u) → Memᴰ e (more u)) → ((c : ℕ) → free c ≡ true → freer c ≡ true)
    → {s t : ℕ} → Joined edges free s t → Joined more freer s t
joined_sub edges more free freer sub up {s} {t} j =
    record { start_open = up s j.start_open; end_open = up t j.end_open; chain = chain_sub (neighbours_sub edges more free freer sub up) j.chain }

-- covering more nodes never joins nodes that were not joined
pub joined_mono : (edges : ℕ → List Edge) (free freer : ℕ → Bool) → ((c : ℕ) → free c ≡ true → freer c ≡ true) → {s t : ℕ} → Joined edges free s t → Joined edges freer s t
joined_mono edges free freer up j = joined_sub edges edges free freer (λ u e m. m) up j
