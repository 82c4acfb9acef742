-- The search finds every node by its first way. At each turn the routes found stand in order, the better before the worse, and each is as good as every way to its end.
-- Let r have its turn. It is as good as every way to a node that has had none: by the order, if the node is found; if not, the node before it on the way has had none either,
-- and r is as good as the way up to there, which is one point shorter. A way to a node that r discovers comes to it from a node that has had no turn, so r with that node is as good. And the new route
-- rightly stands last: every other is the start alone, or goes on from a better route than r, or from r to a node that r tried sooner.
use Prim.Native.Nat.{ℕ, suc, ◌<◌}
use mathlib.Core.Path.{◌≡◌, refl, sym, ap, ◌∙◌, subst}
use mathlib.Core.Bool.{Bool, false}
use mathlib.Core.Logic.{◌⊎◌, inl, inr, ⊎_elim}
use mathlib.Core.Option.{Option, none, some, none-ne-some, some-injective}
use mathlib.Core.List.Memᴰ
use mathlib.Core.List.{
  List,
  [],
  ◌∷◌,
  ◌++◌,
  append_assoc,
  append-nil,
  reverse,
  reverse-cons,
  Memᴰ,
}
use native.Mathlib.Omega.{arith}
use lib.ListN.{length, get_or, take, drop, length-append, length-reverse}
use lib.Seq.{split_at}
use Rattle.base_laws.specs.Lists.{Distinct}
use Rattle.base_laws.proofs.Members.{either, get_d_member}
use Rattle.rule_routes.specs.Routes.{Route, known, onward, discover, sweep, any_route}
use Rattle.rule_routes.specs.Roads.{Walk}
use Rattle.rule_routes.specs.Shortest.{Precedes}
use Rattle.rule_routes.proofs.Walks.{Led, Led·stop, Led·step, walk_led}
use Rattle.rule_routes.proofs.SearchLaws.{reached, first, known_true, known_false, turn_taken, reached_more, Ended, sweep_ends, Turns, turns_first, turns_few, turns_next}
use Rattle.rule_routes.proofs.Preceding.{precedes_none, precedes_across, precedes_snoc}
use Rattle.rule_routes.proofs.Comparing.{Strict, Among, strict_among, Better, Better·fewer, AsGood, better_parting, better_longer, better_snoc, good_snoc, good_trans}

module _ (nbrs : ℕ → List ℕ) (stops : ℕ → Bool) (start n : ℕ) (below : (u v : ℕ) → u < n → Memᴰ v (nbrs u) → v < n) (once : (u : ℕ) → Distinct (nbrs u)) where
  strict : Strict (Among nbrs)
  strict = strict_among nbrs once

  -- the nodes of a route from the start on
  abbrev points : Route → List ℕ
  points r = reverse (r.at ∷ r.back)

  -- the route is as good as every way to its end
  record Best (r : Route) : Type 0 where
    best : (q : List ℕ) → Led nbrs start r.at q → AsGood (Among nbrs) (points r) q

  -- the route of the start, or a route that goes on from one of these by one node
  abbrev Made : List Route → Route → Type 0
  Made had r = (r ≡ first start) ⊎ ((p : Route) × (v : ℕ) × Memᴰ p had × (r ≡ onward p v))

  -- The first k routes have had their turn: the better stand before the worse, each is as good as every way to its end, and each is the start's or goes on from one that
  -- has had its turn.
  record Ordered (k : ℕ) (found : List Route) : Type 0 where
    turns : Turns nbrs stops start n k found
    best : (r : Route) → Memᴰ r found → Best r
    sorted : (p r : Route) → Precedes p r found → Better (Among nbrs) (points p) (points r)
    made : (r : Route) → Memᴰ r found → Made (take k found) r

  led_some : {s t : ℕ} {q : List ℕ} → Led nbrs s t q → 0 < length q
  led_some Led·stop = omega arith
  led_some (Led·step {v = v} {r = r} l m) = omega (arith, length-append r (v ∷ []))

  -- one point, or more
  led_length : {s t : ℕ} {q : List ℕ} → Led nbrs s t q → (q ≡ s ∷ []) ⊎ (1 < length q)
  led_length Led·stop = inl refl
  led_length (Led·step {v = v} {r = r} l m) = inr (omega (arith, led_some l, length-append r (v ∷ [])))

  ordered_first : start < n → Ordered 0 (first start ∷ [])
  ordered_first h =
      record {
        turns = turns_first nbrs stops start n below h;
        best = λ r m. rw (Memᴰ.eq_of_singleton m) (record { best = λ q w. ⊎_elim inl (λ (k : 1 < length q). inr (Better·fewer k)) (led_length w) });
        sorted = λ p r q. absurd (precedes_none q);
        made = λ r m. inl (Memᴰ.eq_of_singleton m);
      }

  points_onward : (r : Route) (v : ℕ) → points (onward r v) ≡ points r ++ v ∷ []
  unfolding onward
  points_onward r v = reverse-cons v (r.at ∷ r.back)

  -- ---- a turn: that of r
  module _ (k : ℕ) (found : List Route) (o : Ordered k found) (h : k < length found) (r : Route) (is : get_or found k any_route ≡ r) where
    abbrev Turned : ℕ → Type 0
    Turned u = Memᴰ u (reached (take k found))

    split : found ≡ take k found ++ r ∷ drop (suc k) found
    split = split_at found k any_route h ∙ ap (λ (x : Route). take k found ++ x ∷ drop (suc k) found) is

    -- those that have had their turn are better than r
    turned_better : (p : Route) → Memᴰ p (take k found) → Better (Among nbrs) (points p) (points r)
    turned_better p m =
        o.sorted p r (subst (Precedes p r) (sym split) (precedes_across (take k found) (r ∷ drop (suc k) found) m (Memᴰ.head refl)))

    -- r is as good as the routes found that have had no turn
    waiting_worse : (p : Route) → Memᴰ p found → (Turned p.at → ⊥) → (q : List ℕ) → AsGood (Among nbrs) (points p) q → AsGood (Among nbrs) (points r) q
    waiting_worse p m unturned q g =
        ⊎_elim
        (λ (j : Memᴰ p (take k found)). absurd (unturned (Memᴰ.map (λ (x : Route). x.at) j)))
        (λ (j : Memᴰ p (r ∷ drop (suc k) found)).
        ⊎_elim
        (λ (e : p ≡ r). subst (λ (x : Route). AsGood (Among nbrs) (points x) q) e g)
        (λ (i : Memᴰ p (drop (suc k) found)). good_trans strict (o.sorted r p (after i)) g)
        (Memᴰ.cases_cons j))
        (Memᴰ.append_cases (take k found) (subst (Memᴰ p) split m))
      where
        after : Memᴰ p (drop (suc k) found) → Precedes r p found
        after i =
            subst (Precedes r p) (append_assoc (take k found) (r ∷ []) (drop (suc k) found) ∙ sym split)
            (precedes_across (take k found ++ r ∷ []) (drop (suc k) found) (Memᴰ.append_right (take k found) (Memᴰ.head refl)) i)

    waiting_found : (u : ℕ) → Memᴰ u (reached found) → (Turned u → ⊥) → (q : List ℕ) → Led nbrs start u q → AsGood (Among nbrs) (points r) q
    waiting_found u m unturned q l =
        let p = Memᴰ.of_map (λ (x : Route). x.at) found m in
        waiting_worse p.0 p.1 (subst (λ (x : ℕ). Turned x → ⊥) (sym p.2) unturned) q
        ((o.best p.0 p.1).best q (subst (λ (x : ℕ). Led nbrs start x q) (sym p.2) l))

    -- r is as good as every way to a node that has had no turn
    waiting : {u : ℕ} {q : List ℕ} → Led nbrs start u q → (Turned u → ⊥) → AsGood (Among nbrs) (points r) q
    waiting Led·stop unturned = waiting_found start o.turns.base.begun unturned (start ∷ []) Led·stop
    waiting (Led·step {u = u} {v = v} {r = q} l m) unturned =
        either (known v found)
        (λ t. waiting_found v (known_true v found t) unturned (q ++ v ∷ []) (Led·step l m))
        (λ f. inr (better_longer v (waiting l (λ j. known_false v found f (o.turns.shut u v j m)))))

    -- Part of the turn is over: r has tried the nodes `tried`, and these are the routes found now.
    record Trying (tried : List ℕ) (now : List Route) : Type 0 where
      more : List Route
      grown : now ≡ found ++ more
      from : (p : Route) → Memᴰ p more → (v : ℕ) × Memᴰ v tried × (p ≡ onward r v)
      best : (p : Route) → Memᴰ p now → Best p
      sorted : (p q : Route) → Precedes p q now → Better (Among nbrs) (points p) (points q)

    -- what is new was not found before the turn
    new_then : (v : ℕ) {tried : List ℕ} {now : List Route} → Trying tried now → known v now ≡ false → Memᴰ v (reached found) → ⊥
    new_then v {now = now} t f m = known_false v now f (rw t.grown (reached_more found t.more m))

    new_best : (v : ℕ) → (Memᴰ v (reached found) → ⊥) → Best (onward r v)
    unfolding onward
    new_best v new = record { best = λ q l. subst (λ (x : List ℕ). AsGood (Among nbrs) x q) (sym (points_onward r v)) (go l refl) }
      where
        go : {w : ℕ} {q : List ℕ} → Led nbrs start w q → w ≡ v → AsGood (Among nbrs) (points r ++ v ∷ []) q
        go Led·stop e = absurd (new (Memᴰ.cast (sym e) o.turns.base.begun))
        go (Led·step {u = u} {v = w} {r = q} l m) e =
            subst (λ (x : ℕ). AsGood (Among nbrs) (points r ++ v ∷ []) (q ++ x ∷ [])) (sym e)
            (good_snoc v (waiting l (λ j. new (Memᴰ.cast (sym e) (o.turns.shut u w j m)))))

    -- r with a node that it tries after those tried is worse than all routes found
    new_last : (v : ℕ) (tried left : List ℕ) → tried ++ v ∷ left ≡ nbrs r.at → {now : List Route} → Trying tried now → (p : Route) → Memᴰ p now
        → Better (Among nbrs) (points p) (points (onward r v))
    new_last v tried left all {now} t p m =
        rw (points_onward r v)
        (⊎_elim
        (λ (j : Memᴰ p found). old (o.made p j))
        (λ (j : Memᴰ p t.more). fresh (t.from p j))
        (Memᴰ.append_cases found (subst (Memᴰ p) t.grown m)))
      where
        last_two : (w : ℕ) → points r ++ w ∷ [] ≡ reverse r.back ++ r.at ∷ w ∷ []
        last_two w = ap (λ (l : List ℕ). l ++ w ∷ []) (reverse-cons r.at r.back) ∙ append_assoc (reverse r.back) (r.at ∷ []) (w ∷ [])

        some_points : 0 < length (points r)
        some_points = omega (arith, length-reverse (r.at ∷ r.back))

        old : Made (take k found) p → Better (Among nbrs) (points p) (points r ++ v ∷ [])
        old (inl e) = rw e (Better·fewer (omega (arith, some_points, length-append (points r) (v ∷ []))))
        old (inr (q, w, j, e)) = rw (e, points_onward q w) (better_snoc w v (turned_better q j))

        fresh : (w : ℕ) × Memᴰ w tried × (p ≡ onward r w) → Better (Among nbrs) (points p) (points r ++ v ∷ [])
        fresh (w, j, e) =
            rw (e, points_onward r w, last_two w, last_two v)
            (better_parting (reverse r.back) r.at w v (subst (Precedes w v) all (precedes_across tried (v ∷ left) j (Memᴰ.head refl))))

    try_none : Trying [] found
    try_none =
        record { more = []; grown = sym (append-nil found); from = λ p m. absurd (Memᴰ.not-nil m); best = o.best; sorted = o.sorted }

    try_known : (v : ℕ) {tried : List ℕ} {now : List Route} → Trying tried now → Trying (tried ++ v ∷ []) now
    try_known v t =
        record {
          more = t.more;
          grown = t.grown;
          from = λ p m. let f = t.from p m in (f.0, Memᴰ.append_left (v ∷ []) f.1, f.2);
          best = t.best;
          sorted = t.sorted;
        }

    try_new : (v : ℕ) (tried left : List ℕ) → tried ++ v ∷ left ≡ nbrs r.at → {now : List Route} → known v now ≡ false → Trying tried now
        → Trying (tried ++ v ∷ []) (now ++ onward r v ∷ [])
    try_new v tried left all {now} f t =
        record {
          more = t.more ++ onward r v ∷ [];
          grown = ap (λ (l : List Route). l ++ onward r v ∷ []) t.grown ∙ append_assoc found t.more (onward r v ∷ []);
          from =
              λ p m.
              ⊎_elim
              (λ (j : Memᴰ p t.more). let f = t.from p j in (f.0, Memᴰ.append_left (v ∷ []) f.1, f.2))
              (λ (j : Memᴰ p (onward r v ∷ [])). (v, Memᴰ.append_right tried (Memᴰ.head refl), Memᴰ.eq_of_singleton j))
              (Memᴰ.append_cases t.more m);
          best =
              λ p m.
              ⊎_elim (t.best p)
              (λ (j : Memᴰ p (onward r v ∷ [])). subst Best (sym (Memᴰ.eq_of_singleton j)) (new_best v (new_then v t f)))
              (Memᴰ.append_cases now m);
          sorted =
              λ p q e.
              ⊎_elim (t.sorted p q)
              (λ (j : Memᴰ p now × (q ≡ onward r v)). subst (λ (x : Route). Better (Among nbrs) (points p) (points x)) (sym j.1) (new_last v tried left all t p j.0))
              (precedes_snoc now (onward r v) e);
        }

    try_all : (left tried : List ℕ) → tried ++ left ≡ nbrs r.at → {now : List Route} → Trying tried now → Trying (nbrs r.at) (discover r left now)
    unfolding discover
    try_all [] tried all {now} t = subst (λ (l : List ℕ). Trying l now) (sym (append-nil tried) ∙ all) t
    try_all (v ∷ left) tried all {now} t =
        let on : (tried ++ v ∷ []) ++ left ≡ nbrs r.at = append_assoc tried (v ∷ []) left ∙ all in
        either (known v now)
        (λ e. rw (e, discover) (try_all left (tried ++ v ∷ []) on (try_known v t)))
        (λ f. rw (f, discover) (try_all left (tried ++ v ∷ []) on (try_new v tried left all f t)))

    ordered_next : stops r.at ≡ false → Ordered (suc k) (discover r (nbrs r.at) found)
    ordered_next go_on =
        record {
          turns = turns_next nbrs stops start n below k found r o.turns h is go_on;
          best = t.best;
          sorted = t.sorted;
          made =
              λ p m.
              rw (turn_taken r (nbrs r.at) k found h is)
              (⊎_elim
              (λ (j : Memᴰ p found). longer p (o.made p j))
              (λ (j : Memᴰ p t.more).
              let f = t.from p j in
              inr (r, f.0, Memᴰ.append_right (take k found) (Memᴰ.head refl), f.2))
              (Memᴰ.append_cases found (subst (Memᴰ p) t.grown m)));
        }
      where
        t : Trying (nbrs r.at) (discover r (nbrs r.at) found)
        t = try_all (nbrs r.at) [] refl try_none

        longer : (p : Route) → Made (take k found) p → Made (take k found ++ r ∷ []) p
        longer p (inl e) = inl e
        longer p (inr (q, v, j, e)) = inr (q, v, Memᴰ.append_left (r ∷ []) j, e)

  -- the route that the search comes to is as good as every way to its end
  pub search_best : start < n → (x : Route) → (sweep nbrs stops n 0 (first start ∷ [])).hit ≡ some x
      → (q : List ℕ) → Walk nbrs start x.at q → AsGood (Among nbrs) (reverse (x.at ∷ x.back)) q
  search_best h x e q w =
      (go (sweep nbrs stops n 0 (first start ∷ [])).hit (sweep nbrs stops n 0 (first start ∷ [])).found
      (sweep_ends nbrs stops Ordered n (λ k found o. turns_few nbrs stops start n below k found o.turns)
      (λ k found o h s. ordered_next k found o h (get_or found k any_route) refl s) n 0 (first start ∷ []) (omega arith) (ordered_first h))
      e).best q (walk_led w)
    where
      go : (o : Option Route) (found : List Route) → Ended nbrs stops Ordered o found → o ≡ some x → Best x
      go none found d e = absurd (none-ne-some x e)
      go (some r) found (k, o, h, is, s) e = subst Best (some-injective r x e) (o.best r (rw is at (get_d_member found k any_route h)))
