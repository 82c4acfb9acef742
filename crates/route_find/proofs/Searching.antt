-- The invariant of the search, and that each turn keeps it: the areas hold the routes found, and the turns left from there come to the whole search.
use mathlib.Core.Path.{◌≡◌, refl, sym, ap, ◌∙◌, subst}
use mathlib.Core.Bool.{Bool, true, false, true≢false}
use mathlib.Core.Logic.{◌⊎◌, inl, inr, ⊎_elim}
use mathlib.Core.Option.{some}
use Rattle.std.specs.Prelude.{Option, None, Some}
use Rattle.std.proofs.lemmas.Option.{same_Some}
use Rattle.std.specs.Option.{option_eq}
use lib.Dec.{eqb}
use mathlib.Core.List.{List, [], ◌∷◌, Memᴰ}
use Prim.Native.Nat.{ℕ, suc, ◌+◌, ◌-◌, ◌≤◌, ◌<◌}
use native.Mathlib.Decide.{ℕ_discrete}
use native.Mathlib.Nat.{sub-zero}
use native.Mathlib.Numerals.{add-one}
use native.Mathlib.Omega.{arith}
use borrow.Author.Tests.{eq-eqb, ne_eqb, eqb-true, eqb-false}
use lib.ListN.{length, get_or, set, length-set}
use lib.Seq.{get_or-set_same, get_or-set_other, take-suc-set, drop-set-lt, set-set, set-get_or}
use Rattle.base_laws.specs.Lists.{is_some}
use Rattle.rule_routes.specs.Routes.{Route, Searched, any_route, discover, sweep}
use Rattle.rule_routes.proofs.SearchLaws.{search_stop, search_next, search_done}
use Rattle.route_step.specs.Areas.{Area, tried, marks}
use Rattle.route_back.specs.Ways.{Traced, Traced·home}
use Rattle.route_find.specs.Results.{SearchLent, StopsAt, SearchLeft, SearchFound, ends_at}
use Rattle.route_step.proofs.Marks.{marks_more, marks_zero, tail_le, tried_tail}
use Rattle.route_find.proofs.Turns.{On, mem_at}
use Rattle.route_find.proofs.Clears.{clear_room, clear_at}
use Rattle.route_find.proofs.Simulation.{ends, Sim, sim_node, sim_tried}

-- whether a search ends at a node
ends_yes : (end : Option ℕ) (v : ℕ) → end ≡ Some v → ends_at end v ≡ true
ends_yes end v e = rw (e, eq-eqb v v refl)

ends_not : (end : Option ℕ) (v : ℕ) → (end ≡ Some v → ⊥) → ends_at end v ≡ false
ends_not None v n = refl
ends_not (Some e) v n = ne_eqb v e (λ q. n (ap (λ (k : ℕ). Some k) (sym q)))

-- the test of an end, as the code writes it
pub end_met : (end : Option ℕ) (v : ℕ) → option_eq eqb end (Some v) ≡ true → end ≡ Some v
end_met None v e = absurd (true≢false (sym e))
end_met (Some k) v e = ap (λ (n : ℕ). Some n) (eqb-true k v e)

pub end_missed : (end : Option ℕ) (v : ℕ) → option_eq eqb end (Some v) ≡ false → end ≡ Some v → ⊥
end_missed end v e q = eqb-false v v (rw q at e) refl

abbrev first : ℕ → Route
first start = record { at = start; back = [] }

ends_on : (found : List Route) (v : ℕ) → Memᴰ v (ends found) → On v found
ends_on [] v m = absurd (mathlib.Core.List.Memᴰ.not-nil m)
ends_on (r ∷ found) v m =
    ⊎_elim
    (λ (e : v ≡ r.at). (r, mathlib.Core.List.Memᴰ.head refl, e))
    (λ (n : Memᴰ v (ends found)). let o = ends_on found v n in (o.0, mathlib.Core.List.Memᴰ.tail o.1, o.2))
    (mathlib.Core.List.Memᴰ.cases_cons m)

on_ends : (found : List Route) (v : ℕ) → On v found → Memᴰ v (ends found)
on_ends [] v o = absurd (mathlib.Core.List.Memᴰ.not-nil o.1)
on_ends (r ∷ found) v o =
    ⊎_elim
    (λ (e : o.0 ≡ r). mathlib.Core.List.Memᴰ.head (o.2 ∙ ap (λ (x : Route). x.at) e))
    (λ (n : Memᴰ o.0 found). mathlib.Core.List.Memᴰ.tail (on_ends found v (o.0, n, o.2)))
    (mathlib.Core.List.Memᴰ.cases_cons o.1)

module _ (c start : ℕ) (queue predecessors : List ℕ) (lent : SearchLent c start queue predecessors) where
  abbrev begun : Area
  begun = record { queue = set queue 0 start; predecessors = set predecessors start (suc start); tail = 1 }

  pub start_inside : start < length predecessors
  start_inside = let p = clear_room c predecessors lent.predecessors_clear in let b = lent.start_below in omega arith

  pub queue_inside : 0 < length queue
  queue_inside = let q = clear_room c queue lent.queue_clear in let b = lent.start_below in omega arith

  here : get_or (set predecessors start (suc start)) start 0 ≡ suc start
  here = get_or-set_same predecessors start (suc start) 0 start_inside

  sim_first : Sim c start queue predecessors lent (first start ∷ []) begun
  sim_first =
      record {
        count = refl;
        nodes = take-suc-set queue 0 start queue_inside;
        rest = drop-set-lt 1 queue 0 start (omega arith);
        below = λ r m. rw (mathlib.Core.List.Memᴰ.eq_of_singleton m) lent.start_below;
        seen = λ r m e. let q = sym here ∙ ap (λ (x : Route). get_or (set predecessors start (suc start)) x.at 0) (sym (mathlib.Core.List.Memᴰ.eq_of_singleton m)) ∙ e in omega arith;
        kept = λ v. other v (ℕ_discrete v start);
        traced = λ r m. rw (mathlib.Core.List.Memᴰ.eq_of_singleton m) Traced·home;
        short = λ r m. rw (mathlib.Core.List.Memᴰ.eq_of_singleton m) (omega arith);
        begun = λ e. let q = sym here ∙ e in omega arith;
        room =
            record {
              queue_room = simp length-set (clear_room c queue lent.queue_clear);
              predecessors_room = simp length-set (clear_room c predecessors lent.predecessors_clear);
              used =
                  marks_more c predecessors start start (clear_room c predecessors lent.predecessors_clear) lent.start_below
                  (clear_at c predecessors lent.predecessors_clear start lent.start_below)
                  ∙ ap suc (ap marks lent.predecessors_clear ∙ marks_zero c);
            };
        queue_size = length-set queue 0 start;
        predecessors_size = length-set predecessors start (suc start);
      }
    where
      other : (v : ℕ) → Dec (v ≡ start) → On v (first start ∷ []) ⊎ (get_or (set predecessors start (suc start)) v 0 ≡ get_or predecessors v 0)
      other v (yes e) = inl (first start, mathlib.Core.List.Memᴰ.head refl, e)
      other v (no e) = inr (get_or-set_other predecessors start v (suc start) 0 e)

  module _ (end : Option ℕ) (nbrs : ℕ → List ℕ) where
    abbrev whole : (ℕ → Bool) → Searched
    whole stops = sweep nbrs stops c 0 (first start ∷ [])

    pub record Searching (a : Area) (head : ℕ) : Type 0 where
      pub found : List Route
      pub sim : Sim c start queue predecessors lent found a
      pub ahead : head ≤ a.tail
      pub same : (stops : ℕ → Bool) → StopsAt c end stops → sweep nbrs stops (c - head) head found ≡ whole stops

    pub searching_begin : Searching (record { queue = set queue 0 start; predecessors = set predecessors start (start + 1); tail = 1 }) 0
    searching_begin =
        rw (add-one start)
        (record { found = first start ∷ []; sim = sim_first; ahead = omega arith; same = λ stops t. rw (sub-zero c) })

    module _ (a : Area) (head : ℕ) (s : Searching a head) where
      pub reached_le : a.tail ≤ c
      reached_le = tail_le c a s.sim.room

      pub left : SearchLeft c a.tail queue predecessors a.queue a.predecessors
      left =
          record {
            short = reached_le;
            below = λ v m. let o = ends_on s.found v (rw s.sim.nodes at m) in rw o.2 (s.sim.below o.0 o.1);
            queue_kept = s.sim.rest;
            predecessors_kept = λ v. ⊎_elim (λ o. inl (rw s.sim.nodes (on_ends s.found v o))) inr (s.sim.kept v);
          }

      module _ (h : head < a.tail) (u : ℕ) (eu : u ≡ get_or a.queue head 0) where
        r : Route
        r = get_or s.found head any_route

        in_found : head < length s.found
        in_found = let n = s.sim.count in omega arith

        turns : c - head ≡ suc (c - suc head)
        turns = let t = reached_le in omega arith

        node : u ≡ r.at
        unfolding r
        node = eu ∙ sim_node c start queue predecessors lent s.found a s.sim head h

        member : Memᴰ r s.found
        unfolding r
        member = mem_at s.found head any_route in_found

        pub node_below : u < c
        node_below = rw node (s.sim.below r member)

        pub searching_stop : end ≡ Some u → (stops : ℕ → Bool) → StopsAt c end stops → SearchFound (whole stops) a.queue a.predecessors start end true a.tail
        unfolding r is_some
        searching_stop e stops t =
            subst (λ (x : Searched). SearchFound x a.queue a.predecessors start end true a.tail) ends_here
            (record {
              count = sym s.sim.count;
              nodes = s.sim.nodes;
              ended = refl;
              way = λ k q h. (
                record {
                  back = r.back;
                  traced =
                      subst (λ (n : ℕ). Traced a.predecessors start n r.back) (at_end k q) (s.sim.traced r member);
                  fits = let k =
                      s.sim.short r member in let n = s.sim.count in omega arith;
                },
                ap (λ (n : ℕ). some (record { at = n; back = r.back })) (at_end k q),
              );
            })
          where
            at_end : (k : ℕ) → end ≡ Some k → r.at ≡ k
            at_end k q = sym node ∙ same_Some u k (sym e ∙ q)

            ends_here : ◌≡◌ {A = Searched} (record { hit = some r; found = s.found }) (whole stops)
            ends_here =
                sym (search_stop nbrs stops (c - suc head) head s.found in_found (t r.at (s.sim.below r member) ∙ ends_yes end r.at (e ∙ ap (λ (n : ℕ). Some n) node)))
                ∙ ap (λ (n : ℕ). sweep nbrs stops n head s.found) (sym turns) ∙ s.same stops t

        pub searching_next : ((v : ℕ) → Memᴰ v (nbrs u) → v < c) → (end ≡ Some u → ⊥) → (b : Area) → b ≡ tried u (nbrs u) a → Searching b (head + 1)
        unfolding r
        searching_next below ne b e =
            record {
              found = discover r (nbrs r.at) s.found;
              sim = after;
              ahead = let m = tried_tail u (nbrs u) a in let q = ap (λ (x : Area). x.tail) e in omega arith;
              same = λ stops t.
                  rw (add-one head)
                  (sym (search_next nbrs stops (c - suc head) head s.found in_found (t r.at (s.sim.below r member) ∙ ends_not end r.at (λ q. ne (q ∙ ap (λ (n : ℕ). Some n) (sym node)))))
                  ∙ ap (λ (n : ℕ). sweep nbrs stops n head s.found) (sym turns) ∙ s.same stops t);
            }
          where
            after : Sim c start queue predecessors lent (discover r (nbrs r.at) s.found) b
            after = rw (e, node) (sim_tried c start queue predecessors lent r (nbrs r.at) s.found a (rw node at below) s.sim member)

      pub searching_done : a.tail ≤ head → (stops : ℕ → Bool) → StopsAt c end stops → SearchFound (whole stops) a.queue a.predecessors start end false a.tail
      unfolding is_some
      searching_done h stops t =
          subst (λ (x : Searched). SearchFound x a.queue a.predecessors start end false a.tail)
          (sym (search_done nbrs stops (c - head) head s.found (let n = s.sim.count in omega arith)) ∙ s.same stops t)
          (record { count = sym s.sim.count; nodes = s.sim.nodes; ended = refl; way = λ k q h. absurd (true≢false (sym h)) })

-- The loop begins where the start is already entered: the areas before that are its areas with those two entries zero.
module _ (c start : ℕ) (end : Option ℕ) (nbrs : ℕ → List ℕ) where
  pub record Looping (queue predecessors : List ℕ) (a : Area) (head : ℕ) : Type 0 where
    pub lent : SearchLent c start queue predecessors
    pub searching : Searching c start queue predecessors lent end nbrs a head

  pub queue_again : (queue predecessors : List ℕ) → SearchLent c start queue predecessors → (x : ℕ) → set (set queue 0 x) 0 0 ≡ queue
  queue_again queue predecessors l x =
      set-set queue 0 x 0 ∙ ap (set queue 0) (sym (clear_at c queue l.queue_clear 0 (let b = l.start_below in omega arith))) ∙ set-get_or queue 0 0

  pub predecessors_again : (queue predecessors : List ℕ) → SearchLent c start queue predecessors → (x : ℕ) → set (set predecessors start x) start 0 ≡ predecessors
  predecessors_again queue predecessors l x =
      set-set predecessors start x 0 ∙ ap (set predecessors start) (sym (clear_at c predecessors l.predecessors_clear start l.start_below)) ∙ set-get_or predecessors start 0

  module _ (queue predecessors : List ℕ) (l : SearchLent c start queue predecessors) (x y : ℕ) where
    pub looping_begin : x ≡ start → y ≡ start + 1
        → Looping (set (set queue 0 x) 0 0) (set (set predecessors start y) start 0)
        (record { queue = set queue 0 x; predecessors = set predecessors start y; tail = 1 }) 0
    looping_begin ex ey =
        rw (queue_again queue predecessors l x, predecessors_again queue predecessors l y, ex, ey)
        (record { lent = l; searching = searching_begin c start queue predecessors l end nbrs })

    pub looping_at : (a : Area) (head : ℕ) → Looping (set (set queue 0 x) 0 0) (set (set predecessors start y) start 0) a head → Looping queue predecessors a head
    looping_at a head i =
        subst (λ (q : List ℕ). Looping q predecessors a head) (queue_again queue predecessors l x)
        (subst (λ (p : List ℕ). Looping (set (set queue 0 x) 0 0) p a head) (predecessors_again queue predecessors l y) i)
