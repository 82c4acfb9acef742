-- The areas hold the routes that the definition's search has found: a turn of the code and a turn of the definition keep them in step.
use mathlib.Core.Path.{◌≡◌, refl, sym, ap, ◌∙◌}
use mathlib.Core.Bool.{true, false}
use mathlib.Core.Logic.{◌⊎◌, inl, inr, ⊎_elim}
use mathlib.Core.List.Memᴰ
use mathlib.Core.List.{List, [], ◌∷◌, ◌++◌, map, map-append, Memᴰ}
use Prim.Native.Nat.{ℕ, suc, ◌<◌}
use native.Mathlib.Decide.{ℕ_discrete}
use native.Mathlib.Numerals.{add-one}
use native.Mathlib.Omega.{arith}
use lib.ListN.{length, get_or, set, take, drop, length-append, length-set, get_or-map}
use lib.Seq.{get_or-set_same, get_or-set_other, take-suc-set, get_or-take, drop-set-lt, drop-drop}
use Rattle.base_laws.proofs.Members.{either}
use Rattle.rule_routes.specs.Routes.{Route, any_route, onward, known, discover}
use Rattle.route_step.specs.Areas.{Area, SearchRoom, entered, tried}
use Rattle.route_back.specs.Ways.{Traced, Traced·from}
use Rattle.route_find.specs.Results.{SearchLent}
use Rattle.route_find.proofs.Clears.{clear_at}
use Rattle.route_step.proofs.Marks.{added, entered_old, entered_new, tail_below, room_added}
use Rattle.route_find.proofs.Turns.{On, known_on, known_not, on_more, extend_old, extend_new}
use Rattle.route_back.proofs.Traces.{traced_set}

abbrev pub ends : List Route → List ℕ
ends found = map (λ (r : Route). r.at) found

rest_next : (l m : List ℕ) (n : ℕ) → drop n l ≡ drop n m → drop (suc n) l ≡ drop (suc n) m
rest_next l m n e = rw (add-one n) at (sym (drop-drop 1 n l) ∙ ap (drop 1) e ∙ drop-drop 1 n m)

module _ (c start : ℕ) (queue₀ predecessors₀ : List ℕ) (lent : SearchLent c start queue₀ predecessors₀) where
  pub record Sim (found : List Route) (a : Area) : Type 0 where
    pub count : length found ≡ a.tail
    pub nodes : take a.tail a.queue ≡ ends found
    pub rest : drop a.tail a.queue ≡ drop a.tail queue₀
    pub below : (r : Route) → Memᴰ r found → r.at < c
    pub seen : (r : Route) → Memᴰ r found → get_or a.predecessors r.at 0 ≡ 0 → ⊥
    pub kept : (v : ℕ) → On v found ⊎ (get_or a.predecessors v 0 ≡ get_or predecessors₀ v 0)
    pub traced : (r : Route) → Memᴰ r found → Traced a.predecessors start r.at r.back
    pub short : (r : Route) → Memᴰ r found → length r.back < length found
    pub begun : get_or a.predecessors start 0 ≡ 0 → ⊥
    pub room : SearchRoom c a
    pub queue_size : length a.queue ≡ length queue₀
    pub predecessors_size : length a.predecessors ≡ length predecessors₀

  module _ (found : List Route) (a : Area) (s : Sim found a) where
    -- the node in the queue is the end of the route in its place
    pub sim_node : (k : ℕ) → k < a.tail → get_or a.queue k 0 ≡ (get_or found k any_route).at
    unfolding any_route
    sim_node k h =
        sym (get_or-take a.tail a.queue k 0 h) ∙ ap (λ (l : List ℕ). get_or l k 0) s.nodes ∙ get_or-map (λ (r : Route). r.at) found k any_route

    module _ (r : Route) (v : ℕ) where
      sim_old : known v found ≡ true → entered r.at v a ≡ a
      sim_old k =
          let o = known_on v found k in
          entered_old r.at v a (λ z. s.seen o.0 o.1 (ap (λ (x : ℕ). get_or a.predecessors x 0) (sym o.2) ∙ z))

      module _ (mr : Memᴰ r found) (h : v < c) (k : known v found ≡ false) where
        z : get_or a.predecessors v 0 ≡ 0
        z = ⊎_elim (λ o. absurd (known_not v found k o)) (λ e. e ∙ clear_at c predecessors₀ lent.predecessors_clear v h) (s.kept v)

        inside : v < length a.predecessors
        inside = let p = s.room.predecessors_room in omega arith

        stays : (w : ℕ) → (get_or a.predecessors w 0 ≡ 0 → ⊥) → get_or a.predecessors w 0 ≡ get_or (set a.predecessors v (suc r.at)) w 0
        stays w n = sym (get_or-set_other a.predecessors v w (suc r.at) 0 (λ e. n (ap (λ (x : ℕ). get_or a.predecessors x 0) e ∙ z)))

        here : get_or (set a.predecessors v (suc r.at)) v 0 ≡ suc r.at
        here = get_or-set_same a.predecessors v (suc r.at) 0 inside

        longer : length (found ++ onward r v ∷ []) ≡ suc (length found)
        longer = length-append found (onward r v ∷ []) ∙ add-one (length found)

        new_traced : Traced (set a.predecessors v (suc r.at)) start v (r.at ∷ r.back)
        new_traced =
            Traced·from
            (λ e. s.begun (ap (λ (x : ℕ). get_or a.predecessors x 0) (sym e) ∙ z))
            here
            (traced_set v (suc r.at) z (s.traced r mr))

        -- what holds of each route found before and of the new one
        among : (P : Route → Type 0) → ((t : Route) → Memᴰ t found → P t) → P (onward r v) → (t : Route) → Memᴰ t (found ++ onward r v ∷ []) → P t
        among P old new t m =
            ⊎_elim (old t) (λ (n : Memᴰ t (onward r v ∷ [])). rw (Memᴰ.eq_of_singleton n) new) (Memᴰ.append_cases found m)

        other : (w : ℕ) → Dec (w ≡ v) → On w (found ++ onward r v ∷ []) ⊎ (get_or (set a.predecessors v (suc r.at)) w 0 ≡ get_or predecessors₀ w 0)
        unfolding onward
        other w (yes e) = inl (onward r v, Memᴰ.append_right found (Memᴰ.head refl), e)
        other w (no e) =
            ⊎_elim (λ o. inl (on_more (onward r v ∷ []) o)) (λ q. inr (get_or-set_other a.predecessors v w (suc r.at) 0 e ∙ q)) (s.kept w)

        sim_new : Sim (found ++ onward r v ∷ []) (added r.at v a)
        unfolding onward
        sim_new =
            record {
              count = longer ∙ ap suc s.count;
              nodes =
                  take-suc-set a.queue a.tail v (let q = tail_below c a s.room v h z in let f = s.room.queue_room in omega arith)
                  ∙ ap (λ (l : List ℕ). l ++ v ∷ []) s.nodes ∙ sym (map-append (λ (x : Route). x.at) found (onward r v ∷ []));
              rest = drop-set-lt (suc a.tail) a.queue a.tail v (omega arith) ∙ rest_next a.queue queue₀ a.tail s.rest;
              below = among (λ t. t.at < c) s.below h;
              seen = among (λ t. get_or (set a.predecessors v (suc r.at)) t.at 0 ≡ 0 → ⊥) (λ t m e. s.seen t m (stays t.at (s.seen t m) ∙ e)) (λ e. let q = sym here ∙ e in omega arith);
              kept = λ w. other w (ℕ_discrete w v);
              traced = among (λ t. Traced (set a.predecessors v (suc r.at)) start t.at t.back) (λ t m. traced_set v (suc r.at) z (s.traced t m)) new_traced;
              short = among (λ t. length t.back < length (found ++ onward r v ∷ [])) (λ t m. rw longer (let q = s.short t m in omega arith)) (rw longer (let q = s.short r mr in omega arith));
              begun = λ e. s.begun (stays start s.begun ∙ e);
              room = room_added c a s.room v h z r.at;
              queue_size = length-set a.queue a.tail v ∙ s.queue_size;
              predecessors_size = length-set a.predecessors v (suc r.at) ∙ s.predecessors_size;
            }

  -- a node's whole turn
  pub sim_tried : (r : Route) (vs : List ℕ) (found : List Route) (a : Area) → ((v : ℕ) → Memᴰ v vs → v < c)
      → Sim found a → Memᴰ r found → Sim (discover r vs found) (tried r.at vs a)
  unfolding tried discover
  sim_tried r [] found a below s m = s
  sim_tried r (v ∷ vs) found a below s m =
      let more : (f : List Route) (b : Area) → Sim f b → Memᴰ r f → Sim (discover r vs f) (tried r.at vs b)
      = λ f b s' m'. sim_tried r vs f b (λ w n. below w (Memᴰ.tail n)) s' m'
      in
      either (known v found)
      (λ t. rw (extend_old r v vs found t, sim_old found a s r v t) (more found a s m))
      (λ f.
      rw (extend_new r v vs found f, entered_new r.at v a (z found a s r v m (below v (Memᴰ.head refl)) f))
      (more (found ++ onward r v ∷ []) (added r.at v a) (sim_new found a s r v m (below v (Memᴰ.head refl)) f) (Memᴰ.append_left (onward r v ∷ []) m)))
