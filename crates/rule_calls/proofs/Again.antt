-- Laying out over what was laid out: past the lengths still stands what stood there first. What a call leaves is long enough, whatever it was given.
use Prim.Native.Nat.{ℕ, ◌-◌, ◌*◌, ◌≤◌}
use mathlib.Core.Path.{◌≡◌, refl, ◌∙◌, ap}
use mathlib.Core.Bool.{true}
use mathlib.Core.List.{List, [], ◌∷◌, ◌++◌, map, reverse}
use native.Mathlib.Omega.{arith}
use native.Mathlib.Nat.{mul-le-mul_right}
use lib.IntN.{ℤ, pos}
use lib.ListN.{length, drop, replicate, length-map, length-append, length-reverse, length-replicate}
use lib.Seq.{drop_at}
use borrow.Author.Tests.{le-leb}
use Rattle.base_laws.specs.Lists.{total, flat, padded}
use Rattle.base_laws.proofs.Members.{both_true}
use Rattle.base_laws.proofs.Stores.{length_padded}
use Rattle.base_model.specs.declared.Rect.{Rect}
use Rattle.base_model.specs.declared.Limits.{Limits}
use Rattle.ground_rects.specs.Windows.{centres}
use Rattle.rule_routes.specs.Edges.{Step}
use Rattle.rule_layouts.specs.Inputs.{Inputs, board_of, places_of}
use Rattle.rule_search.specs.State.{Extensions, Layout, State}
use Rattle.rule_search.specs.Formed.{Good}
use Rattle.rule_calls.specs.Areas.{Work, Store, counts_length, points_length, work_fits, store_fits, laid, cleared, row, numbers, store_of}
use Rattle.rule_calls.specs.Calls.{plan_of}
use Rattle.rule_calls.proofs.Blocks.{length_wide}
use Rattle.rule_calls.proofs.Back.{each_reverse, wide_rows, wide_lists, length_numbers, route_length}
use Rattle.rule_calls.proofs.Sound.{points_room_lem}
use Rattle.rule_calls.proofs.Accepted.{good_room, routes_pass_lem}

-- ---- lengths
front_long : {A : Type 0} (n : ℕ) (x : A) (l : List A) → n ≤ length (replicate n x ++ l)
front_long n x l = omega (arith, length-append (replicate n x) l, length-replicate n x)

pub length_laid : (n : ℕ) (xs a : List ℕ) → n ≤ length (laid n xs a)
unfolding laid padded
length_laid n xs a =
    omega (
      arith,
      length-append (xs ++ replicate (n - length xs) 0) (drop n a),
      length-append xs (replicate (n - length xs) 0),
      length-replicate {A = ℕ} (n - length xs) 0,
    )

pub work_long_lem : (w : Rect) (a : Work) → work_fits w (cleared w a) ≡ true
unfolding work_fits cleared
work_long_lem w a =
    let c : ℕ = centres w in
    let n : ℕ = counts_length w in
    both_true (both_true (both_true (both_true
    (le-leb n (length (replicate n (pos 0) ++ drop n a.counts)) (front_long n (pos 0) (drop n a.counts)))
    (le-leb c (length (laid c [] a.map)) (length_laid c [] a.map)))
    (le-leb c (length (laid c [] a.queue)) (length_laid c [] a.queue)))
    (le-leb c (length (laid c [] a.predecessors)) (length_laid c [] a.predecessors)))
    (le-leb c (length (laid c [] a.route)) (length_laid c [] a.route))

pub store_long : (i : Inputs) (l : Limits) (s : State) (a : Store) → store_fits i l (store_of i l s a) ≡ true
unfolding store_fits store_of
store_long i l s a =
    let n : ℕ = length i.places in
    let L : List ℕ = flat (map (λ (e : Extensions). padded n e.entries) (reverse s.lists)) in
    let M : List ℕ = flat (map row s.visited) in
    let N : List ℕ = flat (map (λ (y : Layout). row y.members) s.layouts) in
    let P : List ℕ = flat (map (λ (y : Layout). numbers y.route) s.layouts) in
    both_true (both_true (both_true
    (le-leb (6 * n) (length (laid (6 * n) L a.lists)) (length_laid (6 * n) L a.lists))
    (le-leb (7 * l.states) (length (laid (7 * l.states) M a.visited)) (length_laid (7 * l.states) M a.visited)))
    (le-leb (7 * l.results) (length (laid (7 * l.results) N a.layouts)) (length_laid (7 * l.results) N a.layouts)))
    (le-leb (points_length i l) (length (laid (points_length i l) P a.points)) (length_laid (points_length i l) P a.points))

-- ---- laid again
pub laid_again : (n : ℕ) (xs ys a : List ℕ) → length ys ≤ n → laid n xs (laid n ys a) ≡ laid n xs a
unfolding laid
laid_again n xs ys a h = ap (λ (q : List ℕ). padded n xs ++ q) (drop_at (padded n ys) (drop n a) n (length_padded n ys h))

pub cleared_again : (w : Rect) (a : Work) → cleared w (cleared w a) ≡ cleared w a
unfolding cleared
cleared_again w a =
    let c : ℕ = centres w in
    let n : ℕ = counts_length w in
    let e0 : replicate n (pos 0) ++ drop n (replicate n (pos 0) ++ drop n a.counts) ≡ replicate n (pos 0) ++ drop n a.counts =
    ap (λ (q : List ℤ). replicate n (pos 0) ++ q) (drop_at (replicate n (pos 0)) (drop n a.counts) n (length-replicate n (pos 0))) in
    let e1 = laid_again c [] [] a.map (omega arith) in
    let e2 = laid_again c [] [] a.queue (omega arith) in
    let e3 = laid_again c [] [] a.predecessors (omega arith) in
    let e4 = laid_again c [] [] a.route (omega arith) in
    cc

length_points : (ys : List Layout) → length (flat (map (λ (y : Layout). numbers y.route) ys)) ≡ 2 * total (map route_length ys)
unfolding flat total
length_points [] = refl
length_points (y ∷ ys) = omega (arith, length-append (numbers y.route) (flat (map (λ (y : Layout). numbers y.route) ys)), length_points ys, length_numbers y.route)

module _ (steps : List Step) (i : Inputs) (l : Limits) (s : State) (g : Good (board_of steps i) (plan_of steps i l) s) where
  pub store_again : (t : State) (a : Store) → store_of i l t (store_of i l s a) ≡ store_of i l t a
  unfolding store_of plan_of board_of places_of
  store_again t a =
      let n : ℕ = length i.places in
      let o = good_room steps i l s g in
      let ls : List (List ℕ) = map (λ (e : Extensions). padded n e.entries) (reverse s.lists) in
      let k1 : length (flat ls) ≤ 6 * n =
      (let m : length ls ≡ length s.lists = length-map (reverse s.lists) (λ (e : Extensions). padded n e.entries) ∙ length-reverse s.lists in
      let q : length ls * n ≤ 6 * n = mul-le-mul_right n (let u : length ls ≤ 6 = omega (arith, g.formed.deep) in u) in
      omega (arith, length_wide n ls (wide_lists n (reverse s.lists) (each_reverse (λ (e : Extensions). length e.entries ≤ n) s.lists o.lists)))) in
      let k2 : length (flat (map row s.visited)) ≤ 7 * l.states =
      omega (arith, length_wide 7 (map row s.visited) (wide_rows (λ (v : List ℕ). v) s.visited o.rows), length-map s.visited row, g.states) in
      let k3 : length (flat (map (λ (y : Layout). row y.members) s.layouts)) ≤ 7 * l.results =
      omega (
        arith,
        length_wide 7 (map (λ (y : Layout). row y.members) s.layouts)
            (wide_rows (λ (y : Layout). y.members) s.layouts o.shown),
        length-map s.layouts (λ (y : Layout). row y.members),
        g.limits.results,
      ) in
      let k4 : length (flat (map (λ (y : Layout). numbers y.route) s.layouts)) ≤ points_length i l =
      omega (arith, length_points s.layouts, points_room_lem i l (map route_length s.layouts) (routes_pass_lem steps i l s g) (omega (arith, length-map s.layouts route_length, g.limits.results))) in
      let e1 = laid_again (6 * n) (flat (map (λ (e : Extensions). padded n e.entries) (reverse t.lists))) (flat ls) a.lists k1 in
      let e2 = laid_again (7 * l.states) (flat (map row t.visited)) (flat (map row s.visited)) a.visited k2 in
      let e3 = laid_again (7 * l.results) (flat (map (λ (y : Layout). row y.members) t.layouts)) (flat (map (λ (y : Layout). row y.members) s.layouts)) a.layouts k3 in
      let e4 = laid_again (points_length i l) (flat (map (λ (y : Layout). numbers y.route) t.layouts)) (flat (map (λ (y : Layout). numbers y.route) s.layouts)) a.points k4 in
      cc
