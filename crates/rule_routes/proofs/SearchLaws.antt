-- What the search comes to. Each route found is a walk from the start without repeats, no two end at one node, and the nodes of the routes that have
-- had their turn have all their neighbours reached. So the search ends at a node that stops it, or has reached every node that a chain leads to:
-- at most as many routes as there are nodes are found, so that the turns suffice.
use mathlib.Core.Path.{◌≡◌, refl, sym, ap, ◌∙◌, subst}
use mathlib.Core.Bool.{Bool, true, false}
use mathlib.Core.Logic.{◌⊎◌, inl, inr, ⊎_elim}
use mathlib.Core.Option.{Option, none, some}
use mathlib.Core.List.Memᴰ
use mathlib.Core.List.{
  List,
  [],
  ◌∷◌,
  ◌++◌,
  append_assoc,
  append-nil,
  map,
  map-append,
  reverse,
  reverse-cons,
  Memᴰ,
}
use Prim.Native.Nat.{ℕ, zero, suc, ◌+◌, ◌≤◌, ◌<◌}
use native.Mathlib.Omega.{arith}
use lib.Dec.{eqb, ltb}
use borrow.Author.Tests.{ltb-true, ltb-false, eqb-true, eqb-false, lt-ltb, le-ltb}
use lib.ListN.{length, get_or, take, length-map}
use lib.Seq.{take-append-le, take-suc, take_all}
use Rattle.base_laws.specs.Lists.{Distinct}
use Rattle.base_laws.proofs.Members.{either, any_member, none_member, get_d_member}
use Rattle.base_laws.proofs.Distinct.{distinct_snoc, distinct_le}
use Rattle.rule_routes.specs.Routes.{Route, known, onward, discover, sweep, any_route}
use Rattle.rule_routes.specs.Chains.{Chain, Chain·start, Chain·step}
use Rattle.rule_routes.specs.Roads.{Walk, Walk·stop}
use Rattle.rule_routes.proofs.Walks.{walk_snoc, walk_chain}

-- the nodes that routes end at
abbrev pub reached : List Route → List ℕ
reached found = map (λ (r : Route). r.at) found

-- the route of one node
abbrev pub first : ℕ → Route
first s = record { at = s; back = [] }

pub known_true : (v : ℕ) (found : List Route) → known v found ≡ true → Memᴰ v (reached found)
unfolding known
known_true v found e =
    let m = any_member (λ (r : Route). eqb v r.at) found e in
    Memᴰ.cast (eqb-true v m.0.at m.2) (Memᴰ.map (λ (r : Route). r.at) m.1)

pub known_false : (v : ℕ) (found : List Route) → known v found ≡ false → Memᴰ v (reached found) → ⊥
unfolding known
known_false v found e m =
    let r = Memᴰ.of_map (λ (r : Route). r.at) found m in
    eqb-false v r.0.at (none_member (λ (r : Route). eqb v r.at) found e r.0 r.1) (sym r.2)

-- What holds of the routes found, and goes on holding with each neighbour that is new, holds when all have been tried.
pub extend_keeps : (P : List Route → Type 0) (r : Route) (vs : List ℕ) (found : List Route)
    → ((found : List Route) (v : ℕ) → P found → Memᴰ v vs → known v found ≡ false → P (found ++ onward r v ∷ []))
    → P found → P (discover r vs found)
unfolding discover
extend_keeps P r [] found more h = h
extend_keeps P r (v ∷ vs) found more h =
    let below : (found : List Route) → P found → P (discover r vs found) =
    λ f h'. extend_keeps P r vs f (λ g w p m k. more g w p (Memᴰ.tail m) k) h'
    in
    either (known v found)
    (λ t. rw (t, discover) (below found h))
    (λ f. rw (f, discover) (below (found ++ onward r v ∷ []) (more found v h (Memᴰ.head refl) f)))

-- The routes found before stay first.
pub extend_grows : (r : Route) (vs : List ℕ) (found : List Route) → (more : List Route) × (discover r vs found ≡ found ++ more)
extend_grows r vs found =
    extend_keeps (λ g. (more : List Route) × (g ≡ found ++ more)) r vs found
    (λ g v p m k. (p.0 ++ onward r v ∷ [], ap (λ (l : List Route). l ++ onward r v ∷ []) p.1 ∙ append_assoc found p.0 (onward r v ∷ [])))
    ([], sym (append-nil found))

-- So r, whose turn it was, is the last of those that have had theirs.
pub turn_taken : (r : Route) (vs : List ℕ) (k : ℕ) (found : List Route) → k < length found → get_or found k any_route ≡ r
    → take (suc k) (discover r vs found) ≡ take k found ++ r ∷ []
turn_taken r vs k found h e =
    let g = extend_grows r vs found in
    ap (take (suc k)) g.1 ∙ take-append-le (suc k) found g.0 h ∙ take-suc found k any_route h ∙ ap (λ (x : Route). take k found ++ x ∷ []) e

pub reached_more : {v : ℕ} (found more : List Route) → Memᴰ v (reached found) → Memᴰ v (reached (found ++ more))
reached_more found more m = rw map-append (Memᴰ.append_left (reached more) m)

pub reached_new : (found : List Route) (r : Route) → Memᴰ r.at (reached (found ++ r ∷ []))
reached_new found r = Memᴰ.map (λ (r : Route). r.at) (Memᴰ.append_right found (Memᴰ.head {x = r} refl))

-- Every neighbour that was tried is reached.
pub extend_covers : (r : Route) (vs : List ℕ) (found : List Route) (v : ℕ) → Memᴰ v vs → Memᴰ v (reached (discover r vs found))
unfolding discover onward
extend_covers r [] found v m = absurd (Memᴰ.not-nil m)
extend_covers r (w ∷ vs) found v m =
    let rest : (g : List Route) → (v ≡ w → Memᴰ v (reached g)) → Memᴰ v (reached (discover r vs g)) =
    λ g here.
    ⊎_elim
    (λ (e : v ≡ w). let g' = extend_grows r vs g in rw g'.1 (reached_more g g'.0 (here e)))
    (λ (m' : Memᴰ v vs). extend_covers r vs g v m')
    (Memᴰ.cases_cons m)
    in
    either (known w found)
    (λ t. rw (t, discover) (rest found (λ e. Memᴰ.cast e (known_true w found t))))
    (λ f. rw (f, discover) (rest (found ++ onward r w ∷ []) (λ e. Memᴰ.cast e (reached_new found (onward r w)))))

-- A turn of the search, by cases.
module _ (nbrs : ℕ → List ℕ) (stops : ℕ → Bool) where
  pub search_stop : (turns k : ℕ) (found : List Route) → k < length found → stops (get_or found k any_route).at ≡ true
      → sweep nbrs stops (suc turns) k found ≡ record { hit = some (get_or found k any_route); found = found }
  unfolding sweep
  search_stop turns k found h e = rw (sweep, lt-ltb k (length found) h, e)

  pub search_next : (turns k : ℕ) (found : List Route) → k < length found → stops (get_or found k any_route).at ≡ false
      → sweep nbrs stops (suc turns) k found ≡ sweep nbrs stops turns (suc k) (discover (get_or found k any_route) (nbrs (get_or found k any_route).at) found)
  unfolding sweep
  search_next turns k found h e = rw (sweep, lt-ltb k (length found) h, e)

  pub search_done : (turns k : ℕ) (found : List Route) → length found ≤ k → sweep nbrs stops turns k found ≡ record { hit = none; found = found }
  unfolding sweep
  search_done zero k found h = refl
  search_done (suc turns) k found h = rw (sweep, le-ltb k (length found) h)

  -- What each turn keeps holds when the search ends: at the turn of a route that ends at a node that stops it, or when all routes found have had their turn.
  abbrev pub Ended : (P : ℕ → List Route → Type 0) → Option Route → List Route → Type 0
  Ended P none found = (k : ℕ) × P k found × (length found ≤ k)
  Ended P (some r) found = (k : ℕ) × P k found × (k < length found) × (get_or found k any_route ≡ r) × (stops r.at ≡ true)

  pub sweep_ends : (P : ℕ → List Route → Type 0) (n : ℕ) → ((k : ℕ) (found : List Route) → P k found → length found ≤ n)
      → ((k : ℕ) (found : List Route) → P k found → k < length found → stops (get_or found k any_route).at ≡ false
      → P (suc k) (discover (get_or found k any_route) (nbrs (get_or found k any_route).at) found))
      → (turns k : ℕ) (found : List Route) → turns + k ≡ n → P k found → Ended P (sweep nbrs stops turns k found).hit (sweep nbrs stops turns k found).found
  unfolding sweep
  sweep_ends P n few next zero k found q p = let h = few k found p in (k, p, omega arith)
  sweep_ends P n few next (suc turns) k found q p =
      let r : Route = get_or found k any_route in
      either (ltb k (length found))
      (λ lt.
      let h = ltb-true k (length found) lt in
      either (stops r.at)
      (λ s. rw (search_stop turns k found h s) (k, p, h, refl, s))
      (λ s. rw (search_next turns k found h s) (sweep_ends P n few next turns (suc k) (discover r (nbrs r.at) found) (omega arith) (next k found p h s))))
      (λ ge. let h = ltb-false k (length found) ge in rw (search_done (suc turns) k found h) (k, p, h))

module _ (nbrs : ℕ → List ℕ) (start n : ℕ) where
  -- A route is a walk from the start without repeats over nodes that routes have reached.
  pub record Sound (found : List Route) (r : Route) : Type 0 where
    pub walk : Walk nbrs start r.at (reverse (r.at ∷ r.back))
    pub once : Distinct (r.at ∷ r.back)
    pub held : (v : ℕ) → Memᴰ v (r.at ∷ r.back) → Memᴰ v (reached found)
    pub small : r.at < n

  -- The routes found are sound, no two end at one node, and one ends at the start.
  pub record Base (found : List Route) : Type 0 where
    pub sound : (r : Route) → Memᴰ r found → Sound found r
    pub apart : Distinct (reached found)
    pub begun : Memᴰ start (reached found)

  -- Every node that a chain leads to is reached, each by one route, and no other.
  pub record Swept (found : List Route) : Type 0 where
    pub apart : Distinct (reached found)
    pub all : (v : ℕ) → Chain nbrs start v → Memᴰ v (reached found)
    pub only : (v : ℕ) → Memᴰ v (reached found) → Chain nbrs start v
    pub few : length found ≤ n

module _ (nbrs : ℕ → List ℕ) (stops : ℕ → Bool) (start n : ℕ) where
  -- The first k routes have had their turn: their neighbours are reached, and none ends at a node that stops the search.
  pub record Turns (k : ℕ) (found : List Route) : Type 0 where
    pub base : Base nbrs start n found
    pub shut : (u v : ℕ) → Memᴰ u (reached (take k found)) → Memᴰ v (nbrs u) → Memᴰ v (reached found)
    pub past : (u : ℕ) → Memᴰ u (reached (take k found)) → stops u ≡ false

  -- What the search's answer says: the route ends at a node that stops the search, or all has been swept and no node that a chain leads to stops it.
  abbrev pub Answer : Option Route → List Route → Type 0
  Answer none found = Swept nbrs start n found × ((v : ℕ) → Chain nbrs start v → stops v ≡ false)
  Answer (some r) found = Sound nbrs start n found r × (stops r.at ≡ true)

module _ (nbrs : ℕ → List ℕ) (stops : ℕ → Bool) (start n : ℕ) (below : (u v : ℕ) → u < n → Memᴰ v (nbrs u) → v < n) where
  base_first : start < n → Base nbrs start n (first start ∷ [])
  base_first h =
      record {
        sound =
            λ r m.
            rw (Memᴰ.eq_of_singleton m)
            (record {
              walk = Walk·stop;
              once = Distinct.fresh Memᴰ.not-nil Distinct.empty;
              held = λ v k. k;
              small = h;
            });
        apart = Distinct.fresh Memᴰ.not-nil Distinct.empty;
        begun = Memᴰ.head refl;
      }

  base_more : (r : Route) (found : List Route) (v : ℕ) → Base nbrs start n found → Memᴰ r found → Memᴰ v (nbrs r.at) → known v found ≡ false → Base nbrs start n (found ++ onward r v ∷ [])
  unfolding onward
  base_more r found v b mr mv k =
      record {
        sound =
            λ s m.
            ⊎_elim
            (λ (old : Memᴰ s found).
            let h = b.sound s old in
            record { walk = h.walk; once = h.once; held = λ w j. reached_more found (onward r v ∷ []) (h.held w j); small = h.small })
            (λ (new : Memᴰ s (onward r v ∷ [])). rw (Memᴰ.eq_of_singleton new) last)
            (Memᴰ.append_cases found m);
        apart = rw map-append (distinct_snoc v b.apart (known_false v found k));
        begun = reached_more found (onward r v ∷ []) b.begun;
      }
    where
      here : Sound nbrs start n found r
      here = b.sound r mr

      last : Sound nbrs start n (found ++ onward r v ∷ []) (onward r v)
      last =
          record {
            walk = rw (reverse-cons v (r.at ∷ r.back)) (walk_snoc v here.walk mv);
            once = Distinct.fresh (λ m. known_false v found k (here.held v m)) here.once;
            held =
                λ w m.
                ⊎_elim
                (λ (e : w ≡ v). Memᴰ.cast e (reached_new found (onward r v)))
                (λ (j : Memᴰ w (r.at ∷ r.back)). reached_more found (onward r v ∷ []) (here.held w j))
                (Memᴰ.cases_cons m);
            small = below r.at v here.small mv;
          }

  base_extend : (r : Route) (found : List Route) → Base nbrs start n found → Memᴰ r found → Base nbrs start n (discover r (nbrs r.at) found)
  base_extend r found b m =
      (extend_keeps (λ g. Base nbrs start n g × Memᴰ r g) r (nbrs r.at) found
      (λ g v p mv k. (base_more r g v p.0 p.1 mv k, Memᴰ.append_left (onward r v ∷ []) p.1))
      (b, m)).0

  pub turns_first : start < n → Turns nbrs stops start n 0 (first start ∷ [])
  turns_first h = record { base = base_first h; shut = λ u v m k. absurd (Memᴰ.not-nil m); past = λ u m. absurd (Memᴰ.not-nil m) }

  -- no more routes are found than there are nodes
  pub turns_few : (k : ℕ) (found : List Route) → Turns nbrs stops start n k found → length found ≤ n
  turns_few k found t =
      rw length-map at
      (distinct_le (reached found) n t.base.apart
      (λ v m. let o = Memᴰ.of_map (λ (r : Route). r.at) found m in rw (sym o.2) (t.base.sound o.0 o.1).small))

  pub turns_next : (k : ℕ) (found : List Route) (r : Route) → Turns nbrs stops start n k found → k < length found → get_or found k any_route ≡ r → stops r.at ≡ false
      → Turns nbrs stops start n (suc k) (discover r (nbrs r.at) found)
  turns_next k found r t h e go_on =
      record {
        base = base_extend r found t.base (rw e at (get_d_member found k any_route h));
        shut =
            λ u v m mv.
            ⊎_elim
            (λ (old : Memᴰ u (reached (take k found))). rw grown.1 (reached_more found grown.0 (t.shut u v old mv)))
            (λ (new : u ≡ r.at). extend_covers r (nbrs r.at) found v (subst (λ (x : ℕ). Memᴰ v (nbrs x)) new mv))
            (among u m);
        past =
            λ u m.
            ⊎_elim
            (λ (old : Memᴰ u (reached (take k found))). t.past u old)
            (λ (new : u ≡ r.at). ap stops new ∙ go_on)
            (among u m);
      }
    where
      grown : (more : List Route) × (discover r (nbrs r.at) found ≡ found ++ more)
      grown = extend_grows r (nbrs r.at) found

      among : (u : ℕ) → Memᴰ u (reached (take (suc k) (discover r (nbrs r.at) found))) → Memᴰ u (reached (take k found)) ⊎ (u ≡ r.at)
      among u m =
          ⊎_elim inl (λ (j : Memᴰ u (reached (r ∷ []))). inr (Memᴰ.eq_of_singleton j))
          (Memᴰ.append_cases (reached (take k found)) (rw (turn_taken r (nbrs r.at) k found h e, map-append) at m))

  spent : (k : ℕ) (found : List Route) → Turns nbrs stops start n k found → length found ≤ k → Answer nbrs stops start n none found
  spent k found t h = (
    record {
      apart = t.base.apart;
      all = λ v a. come a;
      only =
          λ v m.
          let o = Memᴰ.of_map (λ (r : Route). r.at) found m in
          rw (sym o.2) (walk_chain (t.base.sound o.0 o.1).walk);
      few = turns_few k found t;
    },
    λ v a. t.past v (rw (take_all k found h) (come a)),
  )
    where
      come : {v : ℕ} → Chain nbrs start v → Memᴰ v (reached found)
      come Chain·start = t.base.begun
      come (Chain·step {u = u} {v = v} a m) = t.shut u v (rw (take_all k found h) (come a)) m

  pub search_answer : start < n → Answer nbrs stops start n (sweep nbrs stops n 0 (first start ∷ [])).hit (sweep nbrs stops n 0 (first start ∷ [])).found
  search_answer h =
      go (sweep nbrs stops n 0 (first start ∷ [])).hit (sweep nbrs stops n 0 (first start ∷ [])).found
      (sweep_ends nbrs stops (Turns nbrs stops start n) n turns_few (λ k found t h s. turns_next k found (get_or found k any_route) t h refl s) n 0 (first start ∷ []) (omega arith) (turns_first h))
    where
      go : (o : Option Route) (found : List Route) → Ended nbrs stops (Turns nbrs stops start n) o found → Answer nbrs stops start n o found
      go none found (k, t, h) = spent k found t h
      go (some r) found (k, t, h, e, s) = (t.base.sound r (rw e at (get_d_member found k any_route h)), s)
