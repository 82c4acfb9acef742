-- A search of the form that every step keeps, laid out, passes 16.
use Prim.Native.Nat.{ℕ, suc, ◌+◌, ◌-◌, ◌*◌, ◌≤◌, ◌<◌}
use mathlib.Core.Path.{◌≡◌, refl, sym, ◌∙◌, ap, subst}
use mathlib.Core.Bool.{Bool, true, false, not, ◌&&◌, ◌||◌}
use mathlib.Core.Option.{none}
use mathlib.Core.List.Memᴰ
use mathlib.Core.List.{List, [], ◌∷◌, ◌++◌, map, reverse, reverse-cons, reverse-reverse, Memᴰ}
use native.Mathlib.Omega.{arith}
use lib.Dec.{leb, ltb, eqb}
use lib.ListN.{length, take, drop, get_or, length-map, length-reverse, get_or-append}
use lib.Seq.{take_at, get_or_at, take-append-le, get_or-take, get_or-drop, length-take-le}
use borrow.Author.Tests.{le-leb, lt-ltb, le-ltb, eq-eqb, ltb-true, ltb-false}
use Rattle.base_laws.specs.Lists.{all_of, below, total, flat, padded, ascends}
use Rattle.base_laws.specs.Fill.{zeros}
use Rattle.base_laws.proofs.Members.{both_true, all_true, get_d_member}
use Rattle.base_laws.proofs.Lists.{below_out}
use Rattle.base_model.specs.Allow.{Allow}
use Rattle.std.specs.Prelude.{None, Some}
use Rattle.base_model.specs.declared.Limits.{Limits}
use Rattle.base_model.specs.declared.Record.{Record}
use Rattle.ground_rects.specs.Windows.{centres}
use Rattle.rule_routes.specs.Edges.{Step}
use Rattle.rule_layouts.specs.Boards.{Board, may_join}
use Rattle.rule_layouts.specs.Inputs.{Inputs, places_of, allowed_of, board_of}
use Rattle.rule_layouts.proofs.Fits.{true_may_join}
use Rattle.rule_search.specs.State.{Reason, Running, Exhausted, StateLimit, ResultLimit, Extensions, Layout, State, set_on, points_kept}
use Rattle.rule_search.specs.Formed.{FormedRow, FormedList, FormedLists, Good}
use Rattle.rule_calls.specs.Areas.{Store, laid, number_of, row_of, row, list_of, lists_of, record_of, store_of}
use Rattle.rule_calls.specs.RecordCheck.{layouts_fit, row_fits, routes_fit, stood_on, list_fits, record_fits}
use Rattle.rule_calls.specs.Calls.{plan_of}
use Rattle.rule_calls.proofs.Blocks.{map_below, get_d_map, drop_wide}
use Rattle.rule_calls.proofs.Back.{Each, Six, Room, each_of, each_reverse, laid_front, row_back, wide_rows, no_list, lists_order, list_back, get_d_padded, entry_count, taken, route_length}

-- ---- rows
module _ {A : Type 0} (f : A → List ℕ) (d : A) where
  head_back : (xs : List A) (z : List ℕ) (k : ℕ) → Each (λ (x : A). Six (f x)) xs → k < length xs → get_or (flat (map (λ (x : A). row (f x)) xs) ++ z) (7 * k) 0 ≡ length (f (get_or xs k d))
  unfolding row
  head_back xs z k h l =
      let bs : List (List ℕ) = map (λ (x : A). row (f x)) xs in
      let m : length bs ≡ length xs = length-map xs (λ (x : A). row (f x)) in
      ap (λ (j : ℕ). get_or (flat bs ++ z) j 0) (let w : 7 * k ≡ k * 7 + 0 = omega arith in w)
      ∙ sym (get_or-drop (k * 7) (flat bs ++ z) 0 0)
      ∙ ap (λ (q : List ℕ). get_or q 0 0) (drop_wide 7 bs z k (wide_rows f xs h) (omega arith))
      ∙ ap (λ (q : List ℕ). get_or (q ++ (flat (drop (suc k) bs) ++ z)) 0 0) (get_d_map (λ (x : A). row (f x)) xs k d [] l)

  rows_pass : (g : Board) (m : ℕ) (xs : List A) (a : List ℕ) → ((x : A) → Memᴰ x xs → FormedRow g (f x))
      → all_of (row_fits g.places.count (laid m (flat (map (λ (x : A). row (f x)) xs)) a)) (below (length xs)) ≡ true
  unfolding row_fits
  rows_pass g m xs a g6 =
      let n : ℕ = g.places.count in
      let C : List ℕ = flat (map (λ (x : A). row (f x)) xs) in
      let L : List ℕ = laid m C a in
      let z : List ℕ = zeros (m - length C) ++ drop m a in
      let h : Each (λ (x : A). Six (f x)) xs = each_of (λ (x : A). Six (f x)) xs (λ x q. (g6 x q).six) in
      all_true (row_fits n L) (below (length xs))
      (λ k q.
      let l = below_out (length xs) k q in
      let w = g6 (get_or xs k d) (get_d_member xs k d l) in
      let e : row_of L k ≡ f (get_or xs k d) = ap (λ (q : List ℕ). row_of q k) (laid_front m C a) ∙ row_back f xs z d k h l in
      let b : get_or L (7 * k) 0 ≡ length (f (get_or xs k d)) = ap (λ (q : List ℕ). get_or q (7 * k) 0) (laid_front m C a) ∙ head_back xs z k h l in
      both_true
      (both_true (le-leb (get_or L (7 * k) 0) 6 (omega (arith, w.six))) (ap ascends e ∙ w.is_set))
      (ap (all_of (λ (i : ℕ). ltb i n)) e ∙ all_true (λ (i : ℕ). ltb i n) (f (get_or xs k d)) (λ i m. lt-ltb i n (w.named i m))))

-- ---- lists
module _ (e : Extensions) (es : List Extensions) (k : ℕ) where
  low_list : k < length es → get_or (reverse (e ∷ es)) k no_list ≡ get_or (reverse es) k no_list
  low_list h = ap (λ (q : List Extensions). get_or q k no_list) (reverse-cons e es) ∙ get_or-append (reverse es) (e ∷ []) no_list k (let w = length-reverse es in omega arith)

  low_take : k ≤ length es → take k (reverse (e ∷ es)) ≡ take k (reverse es)
  low_take h = ap (λ (q : List Extensions). take k q) (reverse-cons e es) ∙ take-append-le k (reverse es) (e ∷ []) (let w = length-reverse es in omega arith)

  top_list : k ≡ length es → get_or (reverse (e ∷ es)) k no_list ≡ e
  top_list h = ap (λ (q : List Extensions). get_or q k no_list) (reverse-cons e es) ∙ get_or_at (reverse es) e [] no_list k (length-reverse es ∙ sym h)

  top_take : k ≡ length es → reverse (take k (reverse (e ∷ es))) ≡ es
  top_take h = ap reverse (ap (λ (q : List Extensions). take k q) (reverse-cons e es) ∙ take_at (reverse es) (e ∷ []) k (length-reverse es ∙ sym h)) ∙ reverse-reverse es

-- list k of those in the order in which they were made, with the lists below it
line_at : (g : Board) (b : Bool) (ls : List Extensions) (k : ℕ) → FormedLists g b ls → k < length ls
    → FormedList g (ltb (suc k) (length ls) || b) (get_or (reverse ls) k no_list) (reverse (take k (reverse ls)))
line_at g b [] k h l = absurd (omega arith)
line_at g b (e ∷ es) k h l = go (ltb k (length es)) refl (λ q. line_at g true es k h.1 q)
  where
    or-true : (c : Bool) → c || true ≡ true
    or-true true = refl
    or-true false = refl

    go : (t : Bool) → ltb k (length es) ≡ t → (k < length es → FormedList g (ltb (suc k) (length es) || true) (get_or (reverse es) k no_list) (reverse (take k (reverse es))))
        → FormedList g (ltb (suc k) (suc (length es)) || b) (get_or (reverse (e ∷ es)) k no_list) (reverse (take k (reverse (e ∷ es))))
    go true t f =
        let q = ltb-true k (length es) t in
        let c : Bool = ltb (suc k) (suc (length es)) || b in
        let x = f q in
        subst (λ (y : Extensions). FormedList g c y (reverse (take k (reverse (e ∷ es))))) (sym (low_list e es k q))
        (subst (λ (y : List Extensions). FormedList g c (get_or (reverse es) k no_list) (reverse y)) (sym (low_take e es k (omega arith)))
        (record { joins = x.joins; short = x.short; inside = x.inside; used = λ w. x.used (or-true (ltb (suc k) (length es))) }))
    go false t f =
        let q = ltb-false k (length es) t in
        let p : k ≡ length es = omega arith in
        let c : Bool = ltb (suc k) (suc (length es)) || b in
        let z : ltb (suc k) (suc (length es)) ≡ false = le-ltb (suc k) (suc (length es)) (omega arith) in
        let x = h.0 in
        subst (λ (y : Extensions). FormedList g c y (reverse (take k (reverse (e ∷ es))))) (sym (top_list e es k p))
        (subst (λ (y : List Extensions). FormedList g c e y) (sym (top_take e es k p))
        (record { joins = x.joins; short = x.short; inside = x.inside; used = λ w. x.used (ap (λ (t : Bool). t || b) (sym z) ∙ w) }))

lines_room : (g : Board) (b : Bool) (es : List Extensions) → FormedLists g b es → Each (λ (e : Extensions). length e.entries ≤ g.places.count) es
lines_room g b [] h = tt
lines_room g b (e ∷ es) h = (h.0.short, lines_room g true es h.1)

-- ---- the numbers
reason_named : (x : Reason) → leb 1 (number_of x) && leb (number_of x) 4 ≡ true
unfolding number_of
reason_named Running = refl
reason_named Exhausted = refl
reason_named StateLimit = refl
reason_named ResultLimit = refl

layouts_pass : (x : Reason) (m n : ℕ) → m ≤ n → (x ≡ Running → m < n) → leb m n && (ltb m n || not (eqb (number_of x) (number_of Running))) ≡ true
unfolding number_of
layouts_pass x m n h f = both_true (le-leb m n h) (go x f)
  where
    right : (b : Bool) → b || true ≡ true
    right true = refl
    right false = refl

    go : (x : Reason) → (x ≡ Running → m < n) → ltb m n || not (eqb (number_of x) (number_of Running)) ≡ true
    go Running f = ap (λ (b : Bool). b || false) (lt-ltb m n (f refl))
    go Exhausted f = right (ltb m n)
    go StateLimit f = right (ltb m n)
    go ResultLimit f = right (ltb m n)

module _ (steps : List Step) (i : Inputs) (l : Limits) (s : State) (good : Good (board_of steps i) (plan_of steps i l) s) where
  -- what reading back asks
  pub good_room : Room (length i.places) s
  unfolding board_of places_of
  good_room = record {
    lists = lines_room (board_of steps i) s.pending s.lists good.formed.lists;
    rows = each_of Six s.visited (λ w m. (good.formed.visited w m).six);
    shown = each_of (λ (y : Layout). Six y.members) s.layouts (λ y m. (good.formed.listed y m).row.six);
  }

  pub routes_pass_lem : routes_fit i (map route_length s.layouts) ≡ true
  unfolding routes_fit board_of allowed_of points_kept
  routes_pass_lem =
      let c : ℕ = centres i.query.window in
      both_true
      (both_true
      (all_true (λ (n : ℕ). leb n c) (map route_length s.layouts)
      (λ n m. let o = Memᴰ.of_map route_length s.layouts m in le-leb n c (omega (arith, o.2, (good.formed.listed o.0 o.1).short))))
      (go i.query.allow (λ y m. (good.formed.listed y m).unless)))
      (le-leb (total (map route_length s.layouts)) 1000000 good.limits.points)
    where
      go : (x : Allow) → ((y : Layout) → Memᴰ y s.layouts → allowed_of i.query.window i.places x i.allow_base ≡ none → y.route ≡ [])
          → elim x [ None ↦ all_of (λ (n : ℕ). eqb n 0) (map route_length s.layouts) | Some m ↦ true ] ≡ true
      go None h = all_true (λ (n : ℕ). eqb n 0) (map route_length s.layouts)
          (λ n m. let o = Memᴰ.of_map route_length s.layouts m in eq-eqb n 0 (sym o.2 ∙ ap length (h o.0 o.1 refl)))
      go (Some m) h = refl

  module _ (a : Store) where
    abbrev n : ℕ
    n = length i.places

    abbrev r : Record
    r = record_of (length i.places) s

    abbrev C : List ℕ
    C = flat (map (λ (e : Extensions). padded (length i.places) e.entries) (reverse s.lists))

    abbrev A : List ℕ
    A = laid (6 * length i.places) C a.lists

    list_read : (k : ℕ) → k < length s.lists → list_of r A k ≡ get_or (reverse s.lists) k no_list
    unfolding record_of
    list_read k h =
        ap (λ (q : List ℕ). list_of r q k) (laid_front (6 * n) C a.lists)
        ∙ list_back r n (reverse s.lists) (zeros (6 * n - length C) ++ drop (6 * n) a.lists) k refl refl refl
        (each_reverse (λ (e : Extensions). length e.entries ≤ n) s.lists good_room.lists) (let w = length-reverse s.lists in omega arith)

    length_read : (k : ℕ) → k < length s.lists → get_or r.lengths k 0 ≡ length (get_or (reverse s.lists) k no_list).entries
    unfolding record_of
    length_read k h =
        let w = length-reverse s.lists in
        let m = length-map (reverse s.lists) entry_count in
        get_d_padded 6 (map entry_count (reverse s.lists)) k (omega arith) ∙ get_d_map entry_count (reverse s.lists) k no_list 0 (omega arith)

    next_read : (k : ℕ) → k < length s.lists → get_or r.nexts k 0 ≡ (get_or (reverse s.lists) k no_list).next
    unfolding record_of
    next_read k h =
        let w = length-reverse s.lists in
        let m = length-map (reverse s.lists) taken in
        get_d_padded 6 (map taken (reverse s.lists)) k (omega arith) ∙ get_d_map taken (reverse s.lists) k no_list 0 (omega arith)

    lists_read : (k : ℕ) → k ≤ length s.lists → lists_of r A k ≡ reverse (take k (reverse s.lists))
    lists_read k h =
        let w = length-reverse s.lists in
        sym (lists_order r A k)
        ∙ ap reverse (map_below (list_of r A) no_list k (take k (reverse s.lists)) (sym (length-take-le k (reverse s.lists) (omega arith)))
        (λ j q. list_read j (omega arith) ∙ sym (get_or-take k (reverse s.lists) j no_list q)))

    list_passes_lem : (k : ℕ) → k < length s.lists → list_fits i r (store_of i l s a) k ≡ true
    unfolding list_fits stood_on store_of record_of board_of places_of
    list_passes_lem k h =
        let t = line_at (board_of steps i) s.pending s.lists k good.formed.lists h in
        let x = length_read k h in
        let y = next_read k h in
        let e = list_read k h in
        let f = lists_read k (let w : k ≤ length s.lists = omega arith in w) in
        let g = places_of i.groups i.places in
        let below : List Extensions = reverse (take k (reverse s.lists)) in
        both_true
        (both_true
        (both_true
        (le-leb (get_or r.nexts k 0) (get_or r.lengths k 0) (omega (arith, t.inside)))
        (le-leb (get_or r.lengths k 0) n (omega (arith, t.short))))
        (go (ltb (suc k) (length s.lists) || s.pending) (get_or r.nexts k 0) (λ b. omega (arith, t.used b))))
        (ap (λ (q : List Extensions). all_of (λ (x : ℕ). ltb x n && may_join g (set_on q) x) (list_of r A k).entries) f
        ∙ ap (λ (q : Extensions). all_of (λ (x : ℕ). ltb x n && may_join g (set_on below) x) q.entries) e
        ∙ all_true (λ (x : ℕ). ltb x n && may_join g (set_on below) x) (get_or (reverse s.lists) k no_list).entries
        (λ x m. let j = t.joins x m in both_true (lt-ltb x n j.0) (true_may_join g (set_on below) x j.1)))
      where
        go : (b : Bool) (m : ℕ) → (b ≡ true → 0 < m) → not b || ltb 0 m ≡ true
        go true m f = lt-ltb 0 m (f refl)
        go false m f = refl

    routes_read : take (length s.layouts) r.routes ≡ map route_length s.layouts
    unfolding record_of padded
    routes_read = take_at (map route_length s.layouts) (zeros (32 - length (map route_length s.layouts))) (length s.layouts) (length-map s.layouts route_length)

    pub accepted : record_fits i (record_of (length i.places) s) (store_of i l s a) l ≡ true
    unfolding record_fits record_of store_of layouts_fit board_of places_of plan_of
    accepted =
        both_true (both_true (both_true (both_true (both_true (both_true (both_true (both_true
        (reason_named s.reason)
        (eq-eqb n n refl))
        (le-leb (length s.visited) l.states good.states))
        (layouts_pass s.reason (length s.layouts) l.results good.limits.results good.limits.running))
        (rows_pass (λ (v : List ℕ). v) [] (board_of steps i) (7 * l.states) s.visited a.visited good.formed.visited))
        (rows_pass (λ (y : Layout). y.members) (record { members = []; route = [] }) (board_of steps i) (7 * l.results) s.layouts a.layouts (λ y m. (good.formed.listed y m).row)))
        (ap (routes_fit i) routes_read ∙ routes_pass_lem))
        (le-leb (length s.lists) 6 good.formed.deep))
        (all_true (list_fits i r (store_of i l s a)) (below (length s.lists)) (λ k m. list_passes_lem k (below_out (length s.lists) k m)))
