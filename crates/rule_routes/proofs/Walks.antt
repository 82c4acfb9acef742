-- Laws of chains and walks over any neighbours.
use mathlib.Core.List.Memᴰ
use mathlib.Core.List.{List, [], ◌∷◌, ◌++◌, append_assoc, reverse, reverse-cons, Memᴰ}
use mathlib.Core.Path.{◌≡◌, refl, sym, subst}
use mathlib.Core.Logic.{⊎_elim}
use Prim.Native.Nat.{ℕ}
use Rattle.rule_routes.specs.Chains.{Chain, Chain·start, Chain·step}
use Rattle.rule_routes.specs.Roads.{Walk, Walk·stop, Walk·step}

-- a walk, told by its last step
pub data Led (nbrs : ℕ → List ℕ) (s : ℕ) : ℕ → List ℕ → Type 0 where
  Led·stop : Led nbrs s s (s ∷ [])
  Led·step : {u v : ℕ} {r : List ℕ} → Led nbrs s u r → Memᴰ v (nbrs u) → Led nbrs s v (r ++ v ∷ [])

module _ {nbrs : ℕ → List ℕ} where
  pub chain_join : {s u v : ℕ} → Chain nbrs s u → Chain nbrs u v → Chain nbrs s v
  chain_join a Chain·start = a
  chain_join a (Chain·step b m) = Chain·step (chain_join a b) m

  pub walk_chain : {s t : ℕ} {r : List ℕ} → Walk nbrs s t r → Chain nbrs s t
  walk_chain Walk·stop = Chain·start
  walk_chain (Walk·step m k) = chain_join (Chain·step Chain·start m) (walk_chain k)

  pub walk_snoc : {s t : ℕ} {r : List ℕ} (v : ℕ) → Walk nbrs s t r → Memᴰ v (nbrs t) → Walk nbrs s v (r ++ v ∷ [])
  walk_snoc v Walk·stop m = Walk·step m Walk·stop
  walk_snoc v (Walk·step n k) m = Walk·step n (walk_snoc v k m)

  pub chain_walk : {s t : ℕ} → Chain nbrs s t → (r : List ℕ) × Walk nbrs s t r
  chain_walk {s} Chain·start = (s ∷ [], Walk·stop)
  chain_walk (Chain·step {v = v} a m) = let w = chain_walk a in (w.0 ++ v ∷ [], walk_snoc v w.1 m)

  led_on : {s u t : ℕ} (p : List ℕ) {r : List ℕ} → Led nbrs s u (p ++ u ∷ []) → Walk nbrs u t r → Led nbrs s t (p ++ r)
  led_on p l Walk·stop = l
  led_on {s} p l (Walk·step {u = u} {v = v} {w = w} {r = r} m k) =
      subst (λ (x : List ℕ). Led nbrs s w x) (append_assoc p (u ∷ []) r) (led_on (p ++ u ∷ []) (Led·step l m) k)

  pub walk_led : {s t : ℕ} {r : List ℕ} → Walk nbrs s t r → Led nbrs s t r
  walk_led w = led_on [] Led·stop w

  pub walk_starts : {s t : ℕ} {r : List ℕ} → Walk nbrs s t r → Memᴰ s r
  walk_starts Walk·stop = Memᴰ.head refl
  walk_starts (Walk·step m k) = Memᴰ.head refl

  -- what the start has and every neighbour has, every node has
  pub walk_each : (P : ℕ → Type 0) → ((u v : ℕ) → P u → Memᴰ v (nbrs u) → P v) → {s t : ℕ} {r : List ℕ} → Walk nbrs s t r → P s → (v : ℕ) → Memᴰ v r → P v
  walk_each P next (Walk·stop {u = u}) h v m = subst P (sym (Memᴰ.eq_of_singleton m)) h
  walk_each P next (Walk·step {u = u} {v = w} {r = r} n k) h v m =
      ⊎_elim (λ (e : v ≡ u). subst P (sym e) h) (λ (j : Memᴰ v r). walk_each P next k (next u w h n) v j) (Memᴰ.cases_cons m)

  pub chain_each : (P : ℕ → Type 0) → ((u v : ℕ) → P u → Memᴰ v (nbrs u) → P v) → {s t : ℕ} → P s → Chain nbrs s t → P t
  chain_each P next h Chain·start = h
  chain_each P next h (Chain·step {u = u} {v = v} a m) = next u v (chain_each P next h a) m

  -- A walk whose every step can be taken back goes back along the same nodes. `P` is what the nodes have that makes it so.
  pub walk_back : (P : ℕ → Type 0) → ((u v : ℕ) → P u → Memᴰ v (nbrs u) → P v × Memᴰ u (nbrs v)) → {s t : ℕ} {r : List ℕ} → P s → Walk nbrs s t r → Walk nbrs t s (reverse r)
  walk_back P turn h Walk·stop = Walk·stop
  walk_back P turn h (Walk·step {u = u} {v = v} {r = r} m k) =
      let t = turn u v h m in
      rw (reverse-cons u r) (walk_snoc u (walk_back P turn t.0 k) t.1)

module _ {nbrs more : ℕ → List ℕ} (sub : (u v : ℕ) → Memᴰ v (nbrs u) → Memᴰ v (more u)) where
  pub chain_sub : {s t : ℕ} → Chain nbrs s t → Chain more s t
  chain_sub Chain·start = Chain·start
  chain_sub (Chain·step {u = u} {v = v} a m) = Chain·step (chain_sub a) (sub u v m)
