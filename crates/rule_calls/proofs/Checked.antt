-- A record that passes 16 is read as a search of the form that every step keeps: `Good` of the inputs' board and plan.
use Prim.Native.Nat.{ℕ, zero, suc, ◌*◌, ◌≤◌, ◌<◌}
use mathlib.Core.Path.{◌≡◌, refl, ◌∙◌, ap, subst}
use mathlib.Core.Bool.{Bool, true, false, not, ◌||◌, ◌&&◌, false≢true}
use mathlib.Core.Option.{none}
use mathlib.Core.List.Memᴰ
use mathlib.Core.List.{List, [], ◌∷◌, map, Memᴰ, map-map}
use native.Mathlib.Omega.{arith}
use native.Mathlib.Nat.{mul-le-mul_right}
use lib.Dec.{leb, ltb, eqb}
use lib.ListN.{length, take, get_or, length-map}
use lib.Seq.{get_or-take, length-take-le}
use borrow.Author.Tests.{lt-ltb, ltb-true, leb-true, eqb-true}
use Rattle.base_laws.specs.Lists.{all_of, below, total, ascends}
use Rattle.base_laws.proofs.Members.{both, all_member, get_d_member}
use Rattle.base_laws.proofs.Lists.{length_below, below_out}
use Rattle.base_model.specs.declared.Rect.{Rect}
use Rattle.base_model.specs.declared.Placement.{Placement}
use Rattle.base_model.specs.Allow.{Allow}
use Rattle.std.specs.Prelude.{None, Some}
use Rattle.base_model.specs.declared.Limits.{Limits}
use Rattle.base_model.specs.declared.Record.{Record}
use Rattle.ground_rects.specs.Windows.{centres}
use Rattle.rule_routes.specs.Edges.{Step}
use Rattle.rule_layouts.specs.Boards.{Places, Board, may_join}
use Rattle.rule_layouts.specs.Inputs.{Inputs, places_of, allowed_of, board_of}
use Rattle.rule_layouts.specs.Fits.{MayJoin}
use Rattle.rule_layouts.proofs.Fits.{may_join_true}
use Rattle.rule_search.specs.State.{Running, Layout, state, set_on, points_kept}
use Rattle.rule_search.specs.Formed.{InLimits, FormedRow, FormedList, FormedLists, FormedLayout, Formed, Good}
use Rattle.rule_search.proofs.Moves.{exhausted_stops, state_limit_stops, result_limit_stops}
use Rattle.rule_calls.specs.Areas.{Store, reason_of, row_of, positions, points_of, list_of, lists_of, state_of, store_fits}
use Rattle.rule_calls.specs.RecordCheck.{row_fits, routes_fit, stood_on, list_fits, record_fits}
use Rattle.rule_calls.specs.Calls.{plan_of}
use Rattle.rule_calls.proofs.Clearing.{length_row_of, length_entries}
use Rattle.rule_calls.proofs.Sound.{Sound, Long, sound, long, Clauses, clauses}
use Rattle.rule_calls.proofs.Whole.{Shape, length_lists, length_positions, points_length_lem, length_routes_read, list_next}

-- what holds of the images of the numbers below n holds of each member
below_members : {A : Type 0} (P : A → Type 0) (f : ℕ → A) (n : ℕ) → ((k : ℕ) → k < n → P (f k)) → (x : A) → Memᴰ x (map f (below n)) → P x
below_members P f n h x m = let o = Memᴰ.of_map f (below n) m in subst P o.2 (h o.0 (below_out n o.0 o.1))

no_length : {A : Type 0} (xs : List A) → length xs ≡ 0 → xs ≡ []
no_length [] e = refl
no_length (x ∷ xs) e = absurd (omega arith)

or-true : (b : Bool) → b || true ≡ true
or-true true = refl
or-true false = refl

-- ---- rows
row_good : (g : Board) (a : List ℕ) (k : ℕ) → row_fits g.places.count a k ≡ true → length (row_of a k) ≤ 6 → FormedRow g (row_of a k)
unfolding row_fits
row_good g a k e h =
    let p = both _ (all_of (λ (i : ℕ). ltb i g.places.count) (row_of a k)) e in
    record {
      is_set = (both (leb (get_or a (7 * k) 0) 6) (ascends (row_of a k)) p.0).1;
      named = λ i m. ltb-true i g.places.count (all_member (λ (i : ℕ). ltb i g.places.count) (row_of a k) p.1 i m);
      six = h;
    }

-- ---- lists
lines_good : (g : Board) (r : Record) (a : List ℕ) (b : Bool) (m : ℕ)
    → ((k : ℕ) → k < m → FormedList g false (list_of r a k) (lists_of r a k)) → ((k : ℕ) → suc k < m → 0 < (list_of r a k).next) → ((k : ℕ) → k < m → b ≡ true → 0 < (list_of r a k).next)
    → FormedLists g b (lists_of r a m)
unfolding lists_of
lines_good g r a b zero h t u = tt
lines_good g r a b (suc m) h t u =
    let s = h m (omega arith) in (
      record { joins = s.joins; short = s.short; inside = s.inside; used = u m (omega arith) },
      lines_good g r a true m (λ k q. h k (omega arith)) (λ k q. t k (omega arith)) (λ k q e. t k (omega arith)),
    )

stood_below : (i : Inputs) (r : Record) (a : Store) (k : ℕ) → suc k < r.lists → stood_on i r a k ≡ true
unfolding stood_on
stood_below i r a k h = ap (λ (b : Bool). b || r.pending) (lt-ltb (suc k) r.lists h)

stood_pending : (i : Inputs) (r : Record) (a : Store) (k : ℕ) → r.pending ≡ true → stood_on i r a k ≡ true
unfolding stood_on
stood_pending i r a k h = ap (λ (b : Bool). ltb (suc k) r.lists || b) h ∙ or-true (ltb (suc k) r.lists)

entry_joins : (steps : List Step) (i : Inputs) (r : Record) (a : Store) (k : ℕ) → list_fits i r a k ≡ true → (x : ℕ) → Memᴰ x (list_of r a.lists k).entries
    → (x < (board_of steps i).places.count) × MayJoin (board_of steps i).places (set_on (lists_of r a.lists k)) x
unfolding list_fits board_of places_of
entry_joins steps i r a k e x m =
    let n : ℕ = length i.places in
    let ps : Places = places_of i.groups i.places in
    let q = both
    (leb (get_or r.nexts k 0) (get_or r.lengths k 0) && leb (get_or r.lengths k 0) n && (not (stood_on i r a k) || ltb 0 (get_or r.nexts k 0)))
    (all_of (λ (x : ℕ). ltb x n && may_join ps (set_on (lists_of r a.lists k)) x) (list_of r a.lists k).entries) e in
    let t = both (ltb x n) (may_join ps (set_on (lists_of r a.lists k)) x)
    (all_member (λ (x : ℕ). ltb x n && may_join ps (set_on (lists_of r a.lists k)) x) (list_of r a.lists k).entries q.1 x m) in
    (ltb-true x n t.0, may_join_true ps (set_on (lists_of r a.lists k)) x t.1)

-- ---- kept routes
record RouteFits (i : Inputs) (n : ℕ) : Type 0 where
  pub short : n ≤ centres i.query.window
  pub unless : (w : Rect) (ps : List Placement) (base : List ℕ) → allowed_of w ps i.query.allow base ≡ none → n ≡ 0

routes_each : (i : Inputs) (xs : List ℕ) → routes_fit i xs ≡ true → (n : ℕ) → Memᴰ n xs → RouteFits i n
unfolding routes_fit allowed_of
routes_each i xs e n m =
    let p = both _ (leb (total xs) 1000000) e in
    let q = both (all_of (λ (n : ℕ). leb n (centres i.query.window)) xs) _ p.0 in
    record {
      short = leb-true n (centres i.query.window) (all_member (λ (n : ℕ). leb n (centres i.query.window)) xs q.0 n m);
      unless = go i.query.allow q.1;
    }
  where
    go : (x : Allow) → elim x [ None ↦ all_of (λ (n : ℕ). eqb n 0) xs | Some b ↦ true ] ≡ true → (w : Rect) (ps : List Placement) (base : List ℕ) → allowed_of w ps x base ≡ none → n ≡ 0
    go None q w ps base o = eqb-true n 0 (all_member (λ (n : ℕ). eqb n 0) xs q n m)
    go (Some b) q w ps base o = absurd (let z : ◌≡◌ {A = ℕ} 0 1 = cc in let w : ⊥ = omega arith in w)

pub routes_sum : (i : Inputs) (xs : List ℕ) → routes_fit i xs ≡ true → total xs ≤ 1000000
unfolding routes_fit
routes_sum i xs e =
    let p = both _ (leb (total xs) 1000000) e in
    let q = both (all_of (λ (n : ℕ). leb n (centres i.query.window)) xs) _ p.0 in
    leb-true (total xs) 1000000 p.1

-- ---- the reason
pub running_is : (k : ℕ) → 1 ≤ k → reason_of k ≡ Running → k ≡ 1
unfolding reason_of
running_is zero h e = absurd (omega arith)
running_is (suc zero) h e = refl
running_is (suc (suc zero)) h e = absurd (exhausted_stops e)
running_is (suc (suc (suc zero))) h e = absurd (state_limit_stops e)
running_is (suc (suc (suc (suc n)))) h e = absurd (result_limit_stops e)

module _ (steps : List Step) (i : Inputs) (l : Limits) (r : Record) (a : Store) (shape : Shape r) (few : l.results ≤ 32) (areas : store_fits i l a ≡ true) (fits : record_fits i r a l ≡ true) where
  abbrev layout_at : ℕ → Layout
  layout_at k = record { members = row_of a.layouts k; route = positions (points_of r a.points k) }

  s16 : Sound i r a l
  s16 = sound i r a l fits

  lengths : Long i l a
  lengths = long i l a areas

  parts : Clauses i r a l
  parts = clauses i r a l fits

  known : r.layouts ≤ length r.routes
  known = omega (arith, s16.shown, shape.routes)

  inside : 2 * total (take r.layouts r.routes) ≤ length a.points
  inside = omega (arith, s16.points, lengths.points)

  visited_good : (k : ℕ) → k < r.evaluations → FormedRow (board_of steps i) (row_of a.visited k)
  unfolding board_of places_of
  visited_good k h =
      let x = s16.rows k h in
      row_good (board_of steps i) a.visited k (parts.visited k h) (omega (arith, length_row_of a.visited k x (omega (arith, s16.visits, lengths.visited))))

  listed_good : (k : ℕ) → k < r.layouts → FormedLayout (board_of steps i) (layout_at k)
  unfolding board_of places_of
  listed_good k h =
      let x = s16.walls k h in
      let e : length (positions (points_of r a.points k)) ≡ get_or r.routes k 0 =
      length_positions (get_or r.routes k 0) (points_of r a.points k) (points_length_lem r a.points r.layouts known inside k h) in
      let m = length-take-le r.layouts r.routes known in
      let f = routes_each i (take r.layouts r.routes) parts.routes (get_or (take r.layouts r.routes) k 0) (get_d_member (take r.layouts r.routes) k 0 (omega arith)) in
      let g = get_or-take r.layouts r.routes k 0 h in
      record {
        row = row_good (board_of steps i) a.layouts k (parts.layouts k h) (omega (arith, length_row_of a.layouts k x (omega (arith, s16.shown, lengths.layouts))));
        short = omega (arith, f.short);
        unless = λ o. no_length (positions (points_of r a.points k)) (omega (arith, f.unless i.query.window i.places i.allow_base o));
      }

  next_used : (k : ℕ) → k < r.lists → stood_on i r a k ≡ true → 0 < (list_of r a.lists k).next
  next_used k h e = omega (arith, (s16.lists k h).taken e, list_next r a.lists k)

  list_good : (k : ℕ) → k < r.lists → FormedList (board_of steps i) false (list_of r a.lists k) (lists_of r a.lists k)
  unfolding board_of places_of
  list_good k h =
      let n : ℕ = length i.places in
      let o = s16.lists k h in
      let t : suc k * n ≤ 6 * n = mul-le-mul_right n (let u : suc k ≤ 6 = omega (arith, s16.deep) in u) in
      let z = length_entries r a.lists n k s16.places o.fits (omega (arith, lengths.lists)) in
      record {
        joins = entry_joins steps i r a k (parts.lists k h);
        short = omega (arith, o.fits);
        inside = omega (arith, o.within, list_next r a.lists k);
        used = λ e. absurd (false≢true e);
      }

  pub checked_form : Formed (board_of steps i) (state_of r a)
  unfolding state_of state
  checked_form = record {
    visited = below_members (FormedRow (board_of steps i)) (row_of a.visited) r.evaluations visited_good;
    listed = below_members (FormedLayout (board_of steps i)) layout_at r.layouts listed_good;
    lists = lines_good (board_of steps i) r a.lists r.pending r.lists list_good
        (λ k h. next_used k (omega arith) (stood_below i r a k h)) (λ k h e. next_used k h (stood_pending i r a k e));
    deep = omega (arith, length_lists r a.lists r.lists, s16.deep);
  }

  pub checked_limits : InLimits (plan_of steps i l) (state_of r a)
  unfolding state_of state plan_of points_kept
  checked_limits =
      let e : length (map layout_at (below r.layouts)) ≡ r.layouts = length-map (below r.layouts) layout_at ∙ length_below r.layouts in
      let f : total (map (λ (y : Layout). length y.route) (map layout_at (below r.layouts))) ≡ total (take r.layouts r.routes) =
      ap total (map-map (λ (y : Layout). length y.route) layout_at (below r.layouts) ∙ length_routes_read r a.points r.layouts known inside) in
      record {
        results = omega (arith, s16.shown);
        running = λ q. omega (arith, s16.under (running_is r.reason s16.low q));
        points = omega (arith, routes_sum i (take r.layouts r.routes) parts.routes);
      }

  pub checked_good : Good (board_of steps i) (plan_of steps i l) (state_of r a)
  unfolding state_of state plan_of
  checked_good = record {
    formed = checked_form;
    limits = checked_limits;
    states = omega (arith, s16.visits, length-map (below r.evaluations) (row_of a.visited), length_below r.evaluations);
  }
