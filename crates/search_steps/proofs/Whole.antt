-- What the evaluation of the pending set leaves, for each outcome: the frame is that move of the definition, and record and areas are those of the state
-- to which it leads.
use Prim.Native.Nat.{ℕ, ◌+◌, ◌*◌, min, ◌≤◌, ◌<◌}
use mathlib.Core.Path.{◌≡◌, refl, sym, ◌∙◌, ap, ap₂, subst}
use mathlib.Core.Bool.{true, false}
use mathlib.Core.List.{List, [], ◌∷◌, ◌++◌, map}
use native.Mathlib.Omega.{arith}
use native.Mathlib.Nat.{mul-le-mul_right}
use lib.ListN.{length, take, drop, length-map}
use Rattle.base_laws.specs.Lists.{flat, padded}
use Rattle.base_laws.specs.Fill.{zeros, over}
use Rattle.base_laws.proofs.Stores.{drop_replicate, length_padded, over_part, part_same}
use Rattle.base_model.specs.declared.Position.{Position}
use Rattle.base_model.specs.declared.Record.{Record}
use Rattle.base_model.specs.Allow.{Allow}
use Rattle.std.specs.Prelude.{None, Some}
use Rattle.ground_rects.specs.Windows.{centres, position_of}
use Rattle.rule_layouts.specs.Inputs.{places_of, allowed_of, board_of}
use Rattle.rule_layouts.specs.Explore.{Outcome, Nothing, Extend, Wall, map_points, explore}
use Rattle.rule_search.specs.State.{Reason, Running, ResultLimit, Extensions, Layout, State, state, stop, set_on, points_kept}
use Rattle.rule_search.specs.Frames.{ends, push, frame, look, advance}
use Rattle.rule_search.proofs.Moves.{held, Looked, looks, nothing, extended, listed, overfull, move_is}
use Rattle.rule_search.proofs.Steps.{advance_ends}
use Rattle.rule_search.proofs.Limits.{points_kept_snoc, points_kept_bound}
use Rattle.rule_search.proofs.Formed.{length_set_on}
use Rattle.rule_calls.specs.Areas.{Store, number_of, laid, row, numbers, points_length, record_of, store_of, store_in}
use Rattle.rule_calls.specs.Calls.{plan_of}
use Rattle.search_rows.proofs.Sets.{length_row}
use Rattle.search_turn.specs.Portion.{stack_of, rows_flat, Fitting, Part, SomePart, LookedAt, stop_rec, entered_rec, pushed_rec, listed_rec}
use Rattle.search_turn.proofs.Laying.{summed, record_stop}
use Rattle.search_turn.proofs.Sights.{length_laid, rows_inside}
use Rattle.search_turn.proofs.Turns.{good_ends}
use Rattle.search_steps.specs.Terms.{Terms, inputs_under, count_in, board_in, plan_in, Given, Holds, HoldsSome}
use Rattle.search_steps.proofs.Stored.{rows_put, record_entered, record_pushed, record_listed, points_put, place_free, lists_pushed}
use Rattle.rule_layouts.specs.Flat.{inputs_of}
use Rattle.rule_search.specs.Formed.{Fresh, Good}

-- ---- all areas, or the lists and the visited rows
module _ (t : Terms) where
  pub fitting : Given t → Fitting (board_in t) (plan_in t) t.limits (count_in t)
  unfolding board_of places_of plan_of
  fitting h = record { sound = h.sound; states_are = refl; results_are = refl; count_is = refl }

  pub holds_part : (a₀ : Store) (s : State) (r : Record) (a : Store) → Holds t a₀ s r a → Part (board_in t) (plan_in t) a₀.lists a₀.visited s r a.lists a.visited
  unfolding board_of places_of plan_of store_of stack_of rows_flat
  holds_part a₀ s r a h =
      record { rec = h.rec; lists_are = ap (λ (q : Store). q.lists) h.areas; visited_are = ap (λ (q : Store). q.visited) h.areas; good = h.good }

  -- the areas of the layouts
  abbrev pub LayoutsAre : List Layout → List ℕ → List ℕ → Type 0
  LayoutsAre ys y₀ a = a ≡ laid (7 * t.limits.results) (flat (map (λ (y : Layout). row y.members) ys)) y₀

  abbrev pub PointsAre : List Layout → List ℕ → List ℕ → Type 0
  PointsAre ys p₀ a = a ≡ laid (points_length (inputs_under t) t.limits) (flat (map (λ (y : Layout). numbers y.route) ys)) p₀

  pub part_holds : (a₀ : Store) (s : State) (r : Record) (la va ya pa : List ℕ) → Part (board_in t) (plan_in t) a₀.lists a₀.visited s r la va
      → LayoutsAre s.layouts a₀.layouts ya → PointsAre s.layouts a₀.points pa → Holds t a₀ s r (store_in la va ya pa)
  unfolding board_of places_of plan_of store_of stack_of rows_flat
  part_holds a₀ s r la va ya pa h y q = record {
    rec = h.rec;
    areas = λ i. record { lists = h.lists_are i; visited = h.visited_are i; layouts = y i; points = q i };
    good = h.good;
  }

  pub layouts_are_lem : (a₀ : Store) (s : State) (r : Record) (a : Store) → Holds t a₀ s r a → LayoutsAre s.layouts a₀.layouts a.layouts
  unfolding store_of
  layouts_are_lem a₀ s r a h = ap (λ (q : Store). q.layouts) h.areas

  pub points_are_lem : (a₀ : Store) (s : State) (r : Record) (a : Store) → Holds t a₀ s r a → PointsAre s.layouts a₀.points a.points
  unfolding store_of
  points_are_lem a₀ s r a h = ap (λ (q : Store). q.points) h.areas

  pub some_part : (r : Record) (a : Store) → HoldsSome t r a → SomePart t.limits (count_in t) r a.lists a.visited
  some_part r a x = record {
    g = board_in t;
    p = plan_in t;
    fitting = fitting x.given;
    l₀ = x.a₀.lists;
    v₀ = x.a₀.visited;
    s = x.s;
    part = holds_part x.a₀ x.s r a x.holds;
  }

  -- kept points have room in their area
  pub points_fit : (w : State) → Good (board_in t) (plan_in t) w → 2 * points_kept w.layouts ≤ points_length (inputs_under t) t.limits
  unfolding points_length board_of plan_of inputs_of allowed_of
  points_fit w h = go t.query.allow refl
    where
      go : (x : Allow) → t.query.allow ≡ x → 2 * points_kept w.layouts ≤ (elim x [ None ↦ 0 | Some m ↦ 2 * min 1000000 (t.limits.results * centres t.query.window) ])
      go None e =
          omega (
            arith,
            points_kept_bound 0 w.layouts
                (λ y m.
                let u = (h.formed.listed y m).unless (ap (λ (x : Allow). allowed_of t.query.window (inputs_under t).places x t.allow_base) e) in
                let z : length y.route ≡ 0 = ap (λ (q : List Position). length q) u in omega arith),
          )
      go (Some m) e =
          omega (
            arith,
            points_kept_bound (centres t.query.window) w.layouts (λ y m. (h.formed.listed y m).short),
            (let q : length w.layouts * centres t.query.window ≤ t.limits.results * centres t.query.window = mul-le-mul_right (centres t.query.window) h.limits.results in q),
            h.limits.points,
          )

-- ---- the pending set is evaluated
module _ (t : Terms) (given : Given t) (a₀ : Store) (ls : List Extensions) (v : List (List ℕ)) (ys : List Layout) (r : Record) (a : Store)
    (h : Holds t a₀ (held Running true ls v ys) r a) (fresh : Fresh (plan_in t) ls v) where
  abbrev c : ℕ
  c = count_in t

  abbrev o : Outcome ℕ
  o = explore (board_in t) (set_on ls)

  abbrev more : List (List ℕ)
  more = v ++ set_on ls ∷ []

  part : Part (board_in t) (plan_in t) a₀.lists a₀.visited (held Running true ls v ys) r a.lists a.visited
  part = holds_part t a₀ (held Running true ls v ys) r a h

  pub six : length (set_on ls) ≤ 6
  six = omega (arith, length_set_on ls, h.good.formed.deep)

  pub entered : entered_rec r ≡ record_of c (held Running false ls more ys)
  entered = record_entered c ls v ys r (set_on ls) h.rec

  pub visited_put : (va set : List ℕ) → va ≡ over a.visited (r.evaluations * 7) set → set ≡ row (set_on ls) → va ≡ laid (7 * t.limits.states) (rows_flat more) a₀.visited
  unfolding rows_flat plan_of
  visited_put va set e q =
      let z = (summed c (held Running true ls v ys) r h.rec).evaluations_are in
      e ∙ ap₂ (λ (x y : List ℕ). over x (r.evaluations * 7) y) part.visited_are q
      ∙ rows_put row t.limits.states v (set_on ls) a₀.visited r.evaluations (λ w m. length_row w (h.good.formed.visited w m).six) (length_row (set_on ls) six) z fresh.room

  pub visited_room : (r.evaluations < 100000) × (r.evaluations * 7 + 7 ≤ length a.visited)
  unfolding plan_of
  visited_room =
      let z = (summed c (held Running true ls v ys) r h.rec).evaluations_are in
      let k : 7 * t.limits.states ≤ length a.visited =
      omega (
        arith,
        ap (λ (q : List ℕ). length q) part.visited_are,
        length_laid (7 * t.limits.states) (rows_flat v) a₀.visited
            (rows_inside (board_in t) (plan_in t) t.limits c (fitting t given) a₀.lists a₀.visited (held Running true ls v ys) r a.lists a.visited part),
      ) in
      (omega (arith, fresh.room, given.sound.states), omega (arith, fresh.room))

  -- a frame that is done
  pub done : (w : State) (q : Record) (la va ya pa : List ℕ) → frame (plan_in t) Running (held Running true ls v ys) ≡ ends w → q ≡ record_of c w
      → la ≡ laid (6 * c) (stack_of c w.lists) a₀.lists → va ≡ laid (7 * t.limits.states) (rows_flat w.visited) a₀.visited
      → LayoutsAre t w.layouts a₀.layouts ya → PointsAre t w.layouts a₀.points pa
      → Holds t a₀ (advance (plan_in t) (held Running true ls v ys)) q (store_in la va ya pa)
  unfolding board_of places_of plan_of
  done w q la va ya pa e re le ve ye pe =
      subst (λ (u : State). Holds t a₀ u q (store_in la va ya pa)) (sym (advance_ends (plan_in t) (held Running true ls v ys) w e))
      (part_holds t a₀ w q la va ya pa
      (record { rec = re; lists_are = le; visited_are = ve; good = good_ends (board_in t) (plan_in t) given.sound (held Running true ls v ys) w e h.good }) ye pe)

  abbrev Seen : Record → Record → Type 0
  Seen x q = LookedAt t.limits x q

  look_is : (x q : Record) (ls : List Extensions) (v : List (List ℕ)) (ys : List Layout) → Seen x q → x ≡ record_of c (held Running false ls v ys)
      → q ≡ record_of c (look (plan_in t) (held Running false ls v ys))
  unfolding plan_of
  look_is x q ls v ys s e = s.so (plan_in t) c (held Running false ls v ys) refl refl refl e

  evaluates : (x : Outcome ℕ) → o ≡ x → (plan_in t).evaluate (set_on ls) ≡ map_points (position_of t.query.window) x
  unfolding plan_of inputs_of
  evaluates x e = ap (map_points (position_of t.query.window)) e

  ys_are : LayoutsAre t ys a₀.layouts a.layouts
  ys_are = layouts_are_lem t a₀ (held Running true ls v ys) r a h

  ps_are : PointsAre t ys a₀.points a.points
  ps_are = points_are_lem t a₀ (held Running true ls v ys) r a h

  pub lists_are_lem : a.lists ≡ laid (6 * c) (stack_of c ls) a₀.lists
  unfolding board_of places_of
  lists_are_lem = part.lists_are

  pub v_nothing : (q : Record) (la va : List ℕ) → o ≡ Nothing → Seen (entered_rec r) q → la ≡ laid (6 * c) (stack_of c ls) a₀.lists
      → va ≡ laid (7 * t.limits.states) (rows_flat more) a₀.visited → Holds t a₀ (advance (plan_in t) (held Running true ls v ys)) q (store_in la va a.layouts a.points)
  unfolding map_points
  v_nothing q la va e s le ve =
      let k = looks (plan_in t) false ls more ys in
      done (held k.0 false ls more ys) q la va a.layouts a.points
      (move_is (nothing fresh (evaluates Nothing e) k.1))
      (look_is (entered_rec r) q ls more ys s entered ∙ ap (record_of c) k.2) le ve ys_are ps_are

  -- ---- extensions
  module _ (es : List ℕ) (e : o ≡ Extend es) where
    moved : (k : (r : Reason) × Looked (plan_in t) false (push es ls) more ys r × (look (plan_in t) (held Running false (push es ls) more ys) ≡ held r false (push es ls) more ys))
        → frame (plan_in t) Running (held Running true ls v ys) ≡ ends (held k.0 false (push es ls) more ys)
    unfolding map_points
    moved k = move_is (extended es fresh (evaluates (Extend es) e) k.1)

    next : Good (board_in t) (plan_in t) (held (looks (plan_in t) false (push es ls) more ys).0 false (push es ls) more ys)
    next = good_ends (board_in t) (plan_in t) given.sound (held Running true ls v ys) _ (moved (looks (plan_in t) false (push es ls) more ys)) h.good

    pub v_extend : (x q : Record) (la va : List ℕ) → x ≡ record_of c (held Running false (push es ls) more ys) → Seen x q → la ≡ laid (6 * c) (stack_of c (push es ls)) a₀.lists
        → va ≡ laid (7 * t.limits.states) (rows_flat more) a₀.visited → Holds t a₀ (advance (plan_in t) (held Running true ls v ys)) q (store_in la va a.layouts a.points)
    v_extend x q la va xe s le ve =
        let k = looks (plan_in t) false (push es ls) more ys in
        done (held k.0 false (push es ls) more ys) q la va a.layouts a.points
        (moved k) (look_is x q (push es ls) more ys s xe ∙ ap (record_of c) k.2) le ve ys_are ps_are

  -- a list is made where there are extensions: there is room for it
  pub extend_room : (es : List ℕ) → o ≡ Extend es → (length es ≡ 0 → ⊥) → (length ls < 6) × (length es ≤ c)
  unfolding push board_of places_of
  extend_room [] e n = absurd (n refl)
  extend_room (i ∷ es) e n = let g = next (i ∷ es) e in (g.formed.deep, g.formed.lists.0.short)

  pub extend_record : (es : List ℕ) → o ≡ Extend es → (x : Record) → (length es ≡ 0 → x ≡ entered_rec r) → ((length es ≡ 0 → ⊥) → x ≡ pushed_rec (entered_rec r) (length es))
      → x ≡ record_of c (held Running false (push es ls) more ys)
  unfolding push
  extend_record [] e x f g = f refl ∙ entered
  extend_record (i ∷ es) e x f g =
      let n : length (i ∷ es) ≡ 0 → ⊥ = λ q. omega arith in
      g n ∙ record_pushed c ls more ys (entered_rec r) entered (i ∷ es) (length (i ∷ es)) (extend_room (i ∷ es) e n).0 refl

  free_place : (at : ℕ) → length ls < 6 → at ≡ length ls * c → take c (drop at a.lists) ≡ zeros c
  unfolding board_of places_of
  free_place at deep q = place_free (board_in t) ls h.good.formed.lists a₀.lists a.lists part.lists_are at deep q

  pushed_lists : (at : ℕ) (es : List ℕ) → length ls < 6 → at ≡ length ls * c → length es ≤ c
      → over a.lists at (padded c es) ≡ laid (6 * c) (stack_of c (record { entries = es; next = 0 } ∷ ls)) a₀.lists
  unfolding board_of places_of
  pushed_lists at es deep q k = lists_pushed (board_in t) ls h.good.formed.lists a₀.lists a.lists part.lists_are at es deep q k

  pub extend_lists : (es : List ℕ) → o ≡ Extend es → (at k : ℕ) (list : List ℕ) → k ≡ c → (length ls < 6 → at ≡ length ls * c) → list ≡ es ++ drop (length es) (take k (drop at a.lists))
      → take at a.lists ++ (list ++ drop k (drop at a.lists)) ≡ laid (6 * c) (stack_of c (push es ls)) a₀.lists
  unfolding push padded
  extend_lists [] e at k list ek ea el = part_same a.lists at k list el ∙ lists_are_lem
  extend_lists (i ∷ es) e at k list ek ea el =
      let xs : List ℕ = i ∷ es in
      let n : length xs ≡ 0 → ⊥ = λ q. omega arith in
      let room = extend_room xs e n in
      let free : take k (drop at a.lists) ≡ zeros c =
      ap (λ (j : ℕ). take j (drop at a.lists)) ek ∙ free_place at room.0 (ea room.0) in
      let q : list ≡ padded c xs = el ∙ ap (λ (z : List ℕ). xs ++ drop (length xs) z) free ∙ ap (λ (z : List ℕ). xs ++ z) (drop_replicate 0 (length xs) c) in
      let l : length list ≡ k = ap (λ (z : List ℕ). length z) q ∙ length_padded c xs room.1 ∙ sym ek in
      over_part a.lists at k list l ∙ ap (λ (z : List ℕ). over a.lists at z) q ∙ pushed_lists at xs room.0 (ea room.0) room.1

  -- ---- a wall
  module _ (w : List ℕ) (e : o ≡ Wall w) where
    abbrev route : List Position
    route = map (position_of t.query.window) w

    abbrev y : Layout
    y = record { members = set_on ls; route = route }

    same_long : length route ≡ length w
    same_long = length-map w (position_of t.query.window)

    few : length ys < t.limits.results
    unfolding plan_of
    few = h.good.limits.running refl

    fewer : length ys < 32
    unfolding plan_of
    fewer = omega (arith, few, given.sound.results)

    pub v_full : (la va : List ℕ) → 1000000 < points_kept ys + length w → la ≡ laid (6 * c) (stack_of c ls) a₀.lists
        → va ≡ laid (7 * t.limits.states) (rows_flat more) a₀.visited
        → Holds t a₀ (advance (plan_in t) (held Running true ls v ys)) (stop_rec (entered_rec r) 4) (store_in la va a.layouts a.points)
    unfolding map_points number_of stop state
    v_full la va k le ve =
        done (held ResultLimit false ls more ys) (stop_rec (entered_rec r) 4) la va a.layouts a.points
        (move_is (overfull route fresh (evaluates (Wall w) e) (omega (arith, same_long))))
        (record_stop c (held Running false ls more ys) (entered_rec r) ResultLimit 4 refl entered) le ve ys_are ps_are

    module _ (k : points_kept ys + length w ≤ 1000000) where
      shown : (r : Reason) × Looked (plan_in t) false ls more (ys ++ y ∷ []) r × (look (plan_in t) (held Running false ls more (ys ++ y ∷ [])) ≡ held r false ls more (ys ++ y ∷ []))
      shown = looks (plan_in t) false ls more (ys ++ y ∷ [])

      walled : frame (plan_in t) Running (held Running true ls v ys) ≡ ends (held shown.0 false ls more (ys ++ y ∷ []))
      unfolding map_points
      walled = move_is (listed route fresh (evaluates (Wall w) e) (omega (arith, same_long)) shown.1)

      pub wall_room : 2 * points_kept ys + 2 * length w ≤ points_length (inputs_under t) t.limits
      wall_room =
          omega (
            arith,
            points_fit t (held shown.0 false ls more (ys ++ y ∷ [])) (good_ends (board_in t) (plan_in t) given.sound (held Running true ls v ys) _ walled h.good),
            points_kept_snoc ys y,
            same_long,
          )

      pub v_wall : (q : Record) (la va ya pa set : List ℕ) (n : ℕ) → n ≡ length w → Seen (listed_rec (entered_rec r) n) q → la ≡ laid (6 * c) (stack_of c ls) a₀.lists
          → va ≡ laid (7 * t.limits.states) (rows_flat more) a₀.visited → set ≡ row (set_on ls) → ya ≡ over a.layouts ((entered_rec r).layouts * 7) set
          → (old : ℕ) → old ≡ points_kept ys → pa ≡ over a.points (2 * old) (numbers route)
          → Holds t a₀ (advance (plan_in t) (held Running true ls v ys)) q (store_in la va ya pa)
      v_wall q la va ya pa set n ne s le ve se ye old oe pe =
          let z = (summed c (held Running true ls v ys) r h.rec).layouts_are in
          done (held shown.0 false ls more (ys ++ y ∷ [])) q la va ya pa walled
          (look_is (listed_rec (entered_rec r) n) q ls more (ys ++ y ∷ []) s
          (record_listed c ls more ys (entered_rec r) entered y n fewer (ne ∙ sym same_long))
          ∙ ap (record_of c) shown.2)
          le ve
          (ye ∙ ap₂ (λ (x z : List ℕ). over x (r.layouts * 7) z) ys_are se
          ∙ rows_put (λ (y : Layout). row y.members) t.limits.results ys y a₀.layouts r.layouts
          (λ x m. length_row x.members (h.good.formed.listed x m).row.six) (length_row (set_on ls) six) z few)
          (pe ∙ ap (λ (x : List ℕ). over x (2 * old) (numbers route)) ps_are
          ∙ points_put (points_length (inputs_under t) t.limits) ys y a₀.points old oe (omega (arith, wall_room, same_long)))
