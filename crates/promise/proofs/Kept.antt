-- The theorem of specs/Promise. What every call leaves is a begun search laid out (Carried); its layouts, read back, are walls, each once and each with its
-- route, and all the walls where it stopped Exhausted (rule_search's Exhaustive). A wall is a wall by another table of steps and from end to start too (rule_layouts'
-- SameWalls), so these searches list the same sets, each of them once, and therefore as many.
use Prim.Native.Nat.{ℕ, ◌-◌, ◌*◌, ◌<◌}
use mathlib.Core.Path.{◌≡◌, refl, sym, ◌∙◌, ap, subst}
use mathlib.Core.Bool.{true}
use mathlib.Core.Logic.{◌↔◌}
use mathlib.Core.Option.{Option, none, some, some-injective}
use mathlib.Core.List.Memᴰ
use mathlib.Core.List.{List, [], ◌∷◌, ◌++◌, map, Memᴰ}
use lib.IntN.{ℤ}
use lib.ListN.{length, get_or, drop}
use Rattle.base_laws.specs.Lists.{flat, HowMany, below}
use Rattle.base_laws.specs.Fill.{zeros}
use Rattle.base_laws.proofs.Members.{get_d_member, below_in}
use Rattle.base_laws.proofs.Lists.{below_out, span_ascends}
use Rattle.base_laws.proofs.Tables.{length_table}
use Rattle.base_laws.proofs.Distinct.{distinct_map}
use Rattle.base_laws.proofs.Sets.{ascends_distinct}
use Rattle.base_laws.proofs.HowMany.{many_same}
use Rattle.base_model.specs.declared.Limits.{Limits}
use Rattle.ground_rects.specs.Windows.{position_of}
use Rattle.rule_routes.specs.Edges.{steps_of, table_fits}
use Rattle.rule_routes.proofs.RouteTheorem.{route_is_road}
use Rattle.rule_layouts.specs.Boards.{Mover, Board, leaves_open, route_past}
use Rattle.rule_layouts.specs.Explore.{allowed_route}
use Rattle.rule_layouts.specs.Inputs.{Inputs, exchanged, board_of}
use Rattle.rule_layouts.specs.Walls.{IsWall}
use Rattle.rule_layouts.proofs.SameWalls.{wall_turned, wall_steps}
use Rattle.rule_layouts.proofs.Regular.{regular_board, board_first, board_exchanged}
use Rattle.rule_search.specs.State.{Exhausted, Layout, State}
use Rattle.rule_search.specs.Formed.{Good}
use Rattle.rule_search.proofs.Found.{sets, members_of}
use Rattle.rule_calls.specs.Areas.{Store, number_of, reason_of, row, row_of, numbers, points_of, points_length, record_of, store_of}
use Rattle.rule_calls.specs.Calls.{plan_of, ReadOut}
use Rattle.rule_calls.proofs.Back.{laid_front, row_back, points_back, no_layout, route_numbers, reason_back}
use Rattle.rule_calls.proofs.Accepted.{good_room}
use Rattle.rule_calls.proofs.StepLaws.{Fair}
use Rattle.rule_calls.proofs.Reading.{read_checks_lem, read_is, read_among}
use Rattle.rule_calls.proofs.Tables.{table_once, begin_table}
use Rattle.promise.specs.Promise.{
  Call,
  stepping,
  reading,
  Held,
  layout_at,
  Listed,
  HasExhausted,
  SameList,
  after,
  run,
  Along,
  Faithful,
  Search,
  begins,
  ends,
  HandsBack,
  Reads,
  Promise,
}
use Rattle.promise.proofs.Places.{member_place, one_place}
use Rattle.promise.proofs.Carried.{searched, shown, Carried, good, exact, carries, begin_fair, begin_carried}

module _ (table : List ℤ) (fits : table_fits table ≡ true) (i : Inputs) (l : Limits) where
  -- ---- layouts laid out
  module _ (s : State) (g : Good (board_of (steps_of table) i) (plan_of (steps_of table) i l) s) (a : Store) (k : ℕ) (h : k < length s.layouts) where
    pub row_read : layout_at (shown table fits i l s a) k ≡ (get_or s.layouts k no_layout).members
    unfolding layout_at store_of
    row_read =
        let C : List ℕ = flat (map (λ (y : Layout). row y.members) s.layouts) in
        let n : ℕ = 7 * l.results in
        ap (λ (q : List ℕ). row_of q k) (laid_front n C a.layouts)
        ∙ row_back (λ (y : Layout). y.members) s.layouts (zeros (n - length C) ++ drop n a.layouts) no_layout k (good_room (steps_of table) i l s g).shown h

    pub points_read : points_of (shown table fits i l s a).rec (shown table fits i l s a).store.points k ≡ numbers (get_or s.layouts k no_layout).route
    unfolding store_of record_of
    points_read =
        let C : List ℕ = flat (map route_numbers s.layouts) in
        let n : ℕ = points_length i l in
        ap (λ (q : List ℕ). points_of (record_of (length i.places) s) q k) (laid_front n C a.points)
        ∙ points_back (record_of (length i.places) s) s.layouts (zeros (n - length C) ++ drop n a.points) k refl h

  module _ (s : State) (g : Good (board_of (steps_of table) i) (plan_of (steps_of table) i l) s) (a : Store) (w : List ℕ) where
    listed_in : Listed (shown table fits i l s a) w → Memᴰ w (sets s.layouts)
    unfolding record_of
    listed_in x =
        Memᴰ.cast (sym x.same ∙ row_read s g a x.at x.among) (Memᴰ.map members_of (get_d_member s.layouts x.at no_layout x.among))

    in_listed : Memᴰ w (sets s.layouts) → Listed (shown table fits i l s a) w
    unfolding record_of
    in_listed m =
        let y = Memᴰ.of_map members_of s.layouts m in
        let p = member_place no_layout s.layouts y.1 in
        record { at = p.0; among = p.1; same = row_read s g a p.0 p.1 ∙ ap members_of p.2 ∙ y.2 }

  -- ---- what is carried
  module _ (fair : Fair i l) (h : Held) (v : Carried table fits i l 0 h) where
    abbrev s : State
    s = searched table fits i l v.evaluations

    abbrev x : Held
    x = shown table fits i l s v.over

    ours : Good (board_of (steps_of table) i) (plan_of (steps_of table) i l) s
    ours = good table fits i l fair v.evaluations

    held_walls : (k : ℕ) → k < h.rec.layouts → IsWall (board_of (steps_of table) i) (layout_at h k)
    unfolding record_of
    held_walls =
        subst (λ (y : Held). (k : ℕ) → k < y.rec.layouts → IsWall (board_of (steps_of table) i) (layout_at y k)) (sym v.same)
        (λ k q.
        subst (IsWall (board_of (steps_of table) i)) (sym (row_read s ours v.over k q))
        ((exact table fits i l fair v.evaluations).walls (get_or s.layouts k no_layout) (get_d_member s.layouts k no_layout q)))

    held_once : (j k : ℕ) → j < h.rec.layouts → k < h.rec.layouts → layout_at h j ≡ layout_at h k → j ≡ k
    unfolding record_of
    held_once =
        subst (λ (y : Held). (j k : ℕ) → j < y.rec.layouts → k < y.rec.layouts → layout_at y j ≡ layout_at y k → j ≡ k) (sym v.same)
        (λ j k p q e.
        one_place no_layout members_of s.layouts (exact table fits i l fair v.evaluations).once j k p q
        (sym (row_read s ours v.over j p) ∙ e ∙ row_read s ours v.over k q))

    held_exhausted : HasExhausted h → (set : List ℕ) → IsWall (board_of (steps_of table) i) set ↔ Listed h set
    unfolding record_of HasExhausted
    held_exhausted =
        subst (λ (y : Held). y.rec.reason ≡ number_of Exhausted → (set : List ℕ) → IsWall (board_of (steps_of table) i) set ↔ Listed y set) (sym v.same)
        (λ e set.
        let all = (exact table fits i l fair v.evaluations).all (sym (reason_back s.reason) ∙ ap reason_of e ∙ reason_back Exhausted) set in
        ((λ w. in_listed s ours v.over set (all.1 w)), (λ m. all.0 (listed_in s ours v.over set m))))

    -- the points kept with a layout are the allowed mover's route past it
    kept_route_lem : (k : ℕ) → k < length s.layouts → HandsBack table i (board_of (steps_of table) i).allow (layout_at x k) (points_of x.rec x.store.points k)
    unfolding HandsBack allowed_route route_past numbers
    kept_route_lem k q =
        let y : Layout = get_or s.layouts k no_layout in
        let r = (exact table fits i l fair v.evaluations).routes y (get_d_member s.layouts k no_layout q) in
        let at = position_of i.query.window in
        subst (λ (w : List ℕ). HandsBack table i (board_of (steps_of table) i).allow w (points_of x.rec x.store.points k)) (sym (row_read s ours v.over k q))
        (subst (λ (p : List ℕ). HandsBack table i (board_of (steps_of table) i).allow y.members p) (sym (points_read s ours v.over k q ∙ ap numbers r.2))
        (go (board_of (steps_of table) i).allow y.members r.0 r.1))
      where
        go : (m : Option Mover) (w r : List ℕ) → elim m [ none ↦ some [] | some m ↦ route_past (board_of (steps_of table) i) m w ] ≡ some r
            → HandsBack table i m w (numbers (map (position_of i.query.window) r))
        go none w r e = ap (λ (q : List ℕ). numbers (map (position_of i.query.window) q)) (sym (some-injective [] r e))
        go (some m) w r e =
            let g = board_of (steps_of table) i in
            let laid = regular_board (steps_of table) i (table_once table fits) fair.start_in fair.end_in in
            record {
              route = r;
              found = e;
              road = route_is_road g.edges g.nodes laid.within (leaves_open m w) g.start g.end laid.from r e;
              first = ((board_first (steps_of table) i (table_once table fits) fair.start_in m w).exactly r).0 e;
              given = refl;
            }

    held_reads : (c : Call) → Reads table i h c
    unfolding Reads record_of
    held_reads (stepping t j m n work) = tt
    held_reads (reading j m k) = λ e.
        let passes = read_checks_lem j m h.rec k h.store e in
        let among = read_among j m h.rec k h.store passes in (
          held_walls k among,
          subst (λ (o : ReadOut). HandsBack table i (board_of (steps_of table) i).allow (layout_at h k) o.points) (sym (read_is j m h.rec k h.store passes))
              (subst (λ (y : Held). k < y.rec.layouts → HandsBack table i (board_of (steps_of table) i).allow (layout_at y k) (points_of y.rec y.store.points k))
              (sym v.same) (kept_route_lem k) among),
        )

  -- ---- along the list
  module _ (fair : Fair i l) where
    all_read : (h : Held) (cs : List Call) → Carried table fits i l 0 h → Along (Faithful table i l) h cs → Along (Reads table i) h cs
    unfolding Along
    all_read h [] v f = tt
    all_read h (c ∷ cs) v f = (held_reads fair h v c, all_read (after h c) cs (carries table fits i l fair 0 h c f.0 v) f.1)

    pub carried_on : (least : ℕ) (h : Held) (cs : List Call) → Carried table fits i l least h → Along (Faithful table i l) h cs
        → Carried table fits i l least (run h cs)
    unfolding Along run
    carried_on least h [] v f = v
    carried_on least h (c ∷ cs) v f = carried_on least (after h c) cs (carries table fits i l fair least h c f.0 v) f.1

  module _ (s : Search table i l) where
    pub search_fair : Fair i l
    search_fair = begin_fair table fits i l s.work s.store s.accepted

    pub begins_carried : Carried table fits i l 0 (begins table s)
    unfolding begins
    begins_carried = begin_carried table fits i l s.work s.store s.accepted

    pub ends_carried : Carried table fits i l 0 (ends table s)
    unfolding ends begins
    ends_carried = carried_on search_fair 0 (begins table s) s.calls begins_carried s.faithful

    -- exhausted: the layouts are exactly the walls
    pub exhausted_exact : HasExhausted (ends table s) → (set : List ℕ) → IsWall (board_of (steps_of table) i) set ↔ Listed (ends table s) set
    exhausted_exact = held_exhausted search_fair (ends table s) ends_carried

-- ---- two lists
-- as many sets are listed as the record says
listed_many : (h : Held) → ((j k : ℕ) → j < h.rec.layouts → k < h.rec.layouts → layout_at h j ≡ layout_at h k → j ≡ k) → HowMany (Listed h) h.rec.layouts
unfolding below
listed_many h once =
    let n : ℕ = h.rec.layouts in
    record {
      these = map (layout_at h) (below n);
      once = distinct_map (layout_at h) (λ j k p q. once j k (below_out n j p) (below_out n k q)) (ascends_distinct (below n) (span_ascends 0 n));
      exactly = λ set. (
        (λ m. let o = Memᴰ.of_map (layout_at h) (below n) m in record { at = o.0; among = below_out n o.0 o.1; same = o.2 }),
        (λ m. Memᴰ.cast (sym m.same) (Memᴰ.map (layout_at h) (below_in n m.at m.among))),
      );
      many = length_table (layout_at h) n;
    }

-- the table of a begun search fits
pub search_fits : (table : List ℤ) {i : Inputs} {l : Limits} (s : Search table i l) → table_fits table ≡ true
search_fits table {i} {l} s = begin_table table i l s.work s.store s.accepted

-- no set is listed twice
ends_once : (table : List ℤ) {i : Inputs} {l : Limits} (s : Search table i l) (j k : ℕ) → j < (ends table s).rec.layouts → k < (ends table s).rec.layouts
    → layout_at (ends table s) j ≡ layout_at (ends table s) k → j ≡ k
ends_once table {i} {l} s =
    let fits = search_fits table s in
    held_once table fits i l (search_fair table fits i l s) (ends table s) (ends_carried table fits i l s)

-- where a set is a wall of the one search exactly when it is one of the other, both Exhausted have the same list
same_list : (table other : List ℤ) {i j : Inputs} {l m : Limits} (s : Search table i l) (t : Search other j m)
    → ((set : List ℕ) → IsWall (board_of (steps_of table) i) set ↔ IsWall (board_of (steps_of other) j) set)
    → HasExhausted (ends table s) → HasExhausted (ends other t) → SameList (ends table s) (ends other t)
same_list table other {i} {j} {l} {m} s t walls d e =
    let one = exhausted_exact table (search_fits table s) i l s d in
    let two = exhausted_exact other (search_fits other t) j m t e in
    let sets : (set : List ℕ) → Listed (ends table s) set ↔ Listed (ends other t) set =
    λ set. ((λ x. (two set).0 ((walls set).0 ((one set).1 x))), (λ x. (one set).0 ((walls set).1 ((two set).1 x))))
    in
    record { count = many_same sets (listed_many (ends table s) (ends_once table s)) (listed_many (ends other t) (ends_once other t)); sets = sets }

module _ (table : List ℤ) (i : Inputs) (l : Limits) (s : Search table i l) where
  abbrev fits : table_fits table ≡ true
  fits = search_fits table s

  fair : Fair i l
  fair = search_fair table fits i l s

  -- a set is a wall by one table exactly when it is one by another
  wall_ordered : (other : List ℤ) → table_fits other ≡ true → (j : Inputs) (set : List ℕ) → IsWall (board_of (steps_of table) j) set ↔ IsWall (board_of (steps_of other) j) set
  wall_ordered other f j set =
      let a = table_once table fits in
      let b = table_once other f in
      (wall_steps j (steps_of table) (steps_of other) a b set, wall_steps j (steps_of other) (steps_of table) b a set)

  -- and from end to start exactly when it is one from start to end
  wall_exchanged : (set : List ℕ) → IsWall (board_of (steps_of table) i) set ↔ IsWall (board_of (steps_of table) (exchanged i)) set
  wall_exchanged set =
      subst (λ (g : Board). IsWall (board_of (steps_of table) i) set ↔ IsWall g set) (sym (board_exchanged (steps_of table) i))
      (wall_turned (board_of (steps_of table) i) (regular_board (steps_of table) i (table_once table fits) fair.start_in fair.end_in) set)

  -- the promise (RULES 10, 14)
  pub promise : Promise table i l s
  unfolding begins
  promise = record {
    walls = held_walls table fits i l fair (ends table s) (ends_carried table fits i l s);
    once = ends_once table s;
    readings = all_read table fits i l fair (begins table s) s.calls (begins_carried table fits i l s) s.faithful;
    exhausted = exhausted_exact table fits i l s;
    orders = λ other m t. same_list table other s t (wall_ordered other (search_fits other t) i);
    return = λ other m t.
        let over = wall_ordered other (search_fits other t) (exchanged i) in
        same_list table other s t (λ set. ((λ w. (over set).0 ((wall_exchanged set).0 w)), (λ w. (wall_exchanged set).1 ((over set).1 w))));
  }
