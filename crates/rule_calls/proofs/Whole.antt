-- Check 16 makes the cleared record and areas the lay-back of the search that is read from them.
use Prim.Native.Nat.{ℕ, zero, suc, ◌+◌, ◌-◌, ◌*◌, ◌≤◌, ◌<◌}
use mathlib.Core.Path.{◌≡◌, refl, sym, ◌∙◌, ap}
use mathlib.Core.Bool.{true}
use mathlib.Core.List.{List, [], ◌∷◌, ◌++◌, map, reverse, map-map}
use native.Mathlib.Omega.{arith}
use native.Mathlib.Nat.{suc-mul, mul-le-mul_right}
use lib.ListN.{length, take, drop, get_or, length-map, length-drop, take-append-drop}
use lib.Seq.{take-suc, take-add, get_or-take, length-take-le}
use Rattle.base_laws.specs.Lists.{below, span, total, flat, padded}
use Rattle.base_laws.specs.Fill.{zeros, over}
use Rattle.base_laws.proofs.Lists.{sum_append, length_below}
use Rattle.base_model.specs.declared.Limits.{Limits}
use Rattle.base_model.specs.declared.Record.{Record}
use Rattle.rule_search.specs.State.{Extensions, Layout, state}
use Rattle.rule_layouts.specs.Inputs.{Inputs}
use Rattle.rule_calls.specs.Areas.{Store, laid, reason_of, number_of, row_of, positions, numbers, points_of, list_of, lists_of, state_of, record_of, row, store_of, points_length, store_fits}
use Rattle.rule_calls.specs.RecordCheck.{record_fits}
use Rattle.rule_calls.proofs.Blocks.{map_below, clear_rest}
use Rattle.rule_calls.proofs.Clearing.{flat_more, up_to, begin, next, rest, row_used, length_row_of, row_begins, rows_laid, list_used, length_entries, list_begins, lists_made, lists_laid}
use Rattle.rule_calls.proofs.Sound.{Sound, Long, sound, long}

-- ---- points
pub numbers_positions : (n : ℕ) (xs : List ℕ) → length xs ≡ 2 * n → numbers (positions xs) ≡ xs
unfolding numbers positions
numbers_positions zero [] h = refl
numbers_positions zero (x ∷ xs) h = absurd (omega arith)
numbers_positions (suc n) [] h = absurd (omega arith)
numbers_positions (suc n) (x ∷ []) h = absurd (omega arith)
numbers_positions (suc n) (x ∷ y ∷ xs) h = ap (λ (q : List ℕ). x ∷ y ∷ q) (numbers_positions n xs (omega arith))

pub length_positions : (n : ℕ) (xs : List ℕ) → length xs ≡ 2 * n → length (positions xs) ≡ n
unfolding positions
length_positions zero [] h = refl
length_positions zero (x ∷ xs) h = absurd (omega arith)
length_positions (suc n) [] h = absurd (omega arith)
length_positions (suc n) (x ∷ []) h = absurd (omega arith)
length_positions (suc n) (x ∷ y ∷ xs) h = ap suc (length_positions n xs (omega arith))

pub total_suc : (xs : List ℕ) (k : ℕ) → k < length xs → total (take (suc k) xs) ≡ total (take k xs) + get_or xs k 0
unfolding total
total_suc xs k h = ap total (take-suc xs k 0 h) ∙ sum_append (take k xs) (get_or xs k 0 ∷ []) ∙ (let w : total (take k xs) + (get_or xs k 0 + 0) ≡ total (take k xs) + get_or xs k 0 = omega arith in w)

pub total_mono : (xs : List ℕ) (m k : ℕ) → k ≤ m → total (take k xs) ≤ total (take m xs)
unfolding total
total_mono xs m zero h = omega arith
total_mono [] m (suc k) h = omega arith
total_mono (x ∷ xs) zero (suc k) h = absurd (omega arith)
total_mono (x ∷ xs) (suc m) (suc k) h = let e = total_mono xs m k (omega arith) in omega arith

points_part : (r : Record) (p : List ℕ) (k : ℕ) → take (2 * total (take k r.routes)) p ++ points_of r p k ≡ take (2 * total (take k r.routes) + 2 * get_or r.routes k 0) p
unfolding points_of
points_part r p k = sym (take-add (2 * total (take k r.routes)) (2 * get_or r.routes k 0) p)

module _ (r : Record) (p : List ℕ) (m : ℕ) (w : m ≤ length r.routes) (h : 2 * total (take m r.routes) ≤ length p) where
  pub points_length_lem : (k : ℕ) → k < m → length (points_of r p k) ≡ 2 * get_or r.routes k 0
  unfolding points_of
  points_length_lem k l =
      length-take-le (2 * get_or r.routes k 0) (drop (2 * total (take k r.routes)) p)
      (let e = length-drop (2 * total (take k r.routes)) p in
      let s = total_suc r.routes k (omega arith) in
      let t = total_mono r.routes m (suc k) (omega arith) in
      omega arith)

  points_joined : (k : ℕ) → k ≤ m → flat (map (λ (j : ℕ). numbers (positions (points_of r p j))) (below k)) ≡ take (2 * total (take k r.routes)) p
  unfolding flat below span total
  points_joined zero l = refl
  points_joined (suc k) l =
      let s = total_suc r.routes k (omega arith) in
      flat_more (λ (j : ℕ). numbers (positions (points_of r p j))) k
      ∙ ap (λ (q : List ℕ). q ++ numbers (positions (points_of r p k))) (points_joined k (omega arith))
      ∙ ap (λ (q : List ℕ). take (2 * total (take k r.routes)) p ++ q) (numbers_positions (get_or r.routes k 0) (points_of r p k) (points_length_lem k (omega arith)))
      ∙ points_part r p k
      ∙ ap (λ (n : ℕ). take n p) (let x : 2 * total (take k r.routes) + 2 * get_or r.routes k 0 ≡ 2 * total (take (suc k) r.routes) = omega arith in x)

-- ---- the record
pub length_routes_read : (r : Record) (p : List ℕ) (m : ℕ) → m ≤ length r.routes → 2 * total (take m r.routes) ≤ length p
    → map (λ (k : ℕ). length (positions (points_of r p k))) (below m) ≡ take m r.routes
length_routes_read r p m w h =
    map_below (λ (k : ℕ). length (positions (points_of r p k))) 0 m (take m r.routes) (sym (length-take-le m r.routes w))
    (λ k l. length_positions (get_or r.routes k 0) (points_of r p k) (points_length_lem r p m w h k l) ∙ sym (get_or-take m r.routes k 0 l))

pub number_back : (k : ℕ) → 1 ≤ k → k ≤ 4 → number_of (reason_of k) ≡ k
unfolding number_of reason_of
number_back zero a b = absurd (omega arith)
number_back (suc zero) a b = refl
number_back (suc (suc zero)) a b = refl
number_back (suc (suc (suc zero))) a b = refl
number_back (suc (suc (suc (suc n)))) a b = let x : 0 ≡ n = omega arith in ap (λ (j : ℕ). suc (suc (suc (suc j)))) x

-- the arrays' lengths, which their types say
pub record Shape (r : Record) : Type 0 where
  pub routes : length r.routes ≡ 32
  pub lengths : length r.lengths ≡ 6
  pub nexts : length r.nexts ≡ 6

-- a record with its unused entries zero
unfoldable pub cleared_record : Record → Record
cleared_record r = record {
  reason = r.reason;
  evaluations = r.evaluations;
  placements = r.placements;
  layouts = r.layouts;
  lists = r.lists;
  pending = r.pending;
  routes = padded 32 (take r.layouts r.routes);
  lengths = padded 6 (take r.lists r.lengths);
  nexts = padded 6 (take r.lists r.nexts);
}

-- rows with their unused members zero: the first k rows, and what follows them
unfoldable pub clear_rows : List ℕ → ℕ → List ℕ
clear_rows a zero = a
clear_rows a (suc k) = over (clear_rows a k) (k * 7 + suc (get_or a (7 * k) 0)) (zeros (6 - get_or a (7 * k) 0))

unfoldable pub clear_lists : (lengths : List ℕ) (n : ℕ) → List ℕ → ℕ → List ℕ
clear_lists ls n a zero = a
clear_lists ls n a (suc k) = over (clear_lists ls n a k) (k * n + get_or ls k 0) (zeros (n - get_or ls k 0))

-- zeros from `at` up to n
unfoldable pub clear_from : ℕ → ℕ → List ℕ → List ℕ
clear_from n at a = over a at (zeros (n - at))

-- the areas with their unused entries zero
unfoldable pub cleared_store : Inputs → Limits → Record → Store → Store
cleared_store i l r a = record {
  lists = clear_from (6 * length i.places) (r.lists * r.placements) (clear_lists r.lengths r.placements a.lists r.lists);
  visited = clear_from (7 * l.states) (r.evaluations * 7) (clear_rows a.visited r.evaluations);
  layouts = clear_from (7 * l.results) (r.layouts * 7) (clear_rows a.layouts r.layouts);
  points = clear_from (points_length i l) (2 * total (take r.layouts r.routes)) a.points;
}

pub rows_up : (a : List ℕ) (k : ℕ) → ((j : ℕ) → j < k → get_or a (7 * j) 0 ≤ 6) → 7 * k ≤ length a → clear_rows a k ≡ up_to 7 (row_used a) a k
unfolding clear_rows
rows_up a zero h l = sym (begin 7 (row_used a) a)
rows_up a (suc k) h l =
    let e = length_row_of a k (h k (omega arith)) (omega arith) in
    ap (λ (q : List ℕ). over q (k * 7 + suc (get_or a (7 * k) 0)) (zeros (6 - get_or a (7 * k) 0))) (rows_up a k (λ j q. h j (omega arith)) (omega arith))
    ∙ ap (λ (n : ℕ). over (up_to 7 (row_used a) a k) (k * 7 + suc n) (zeros (6 - n))) (sym e)
    ∙ ap (λ (n : ℕ). over (up_to 7 (row_used a) a k) (k * 7 + suc (length (row_of a k))) (zeros n)) (let x : 6 - length (row_of a k) ≡ 7 - suc (length (row_of a k)) = omega arith in x)
    ∙ next 7 (row_used a) a k (λ j q. row_begins a j (h j q) (omega arith)) (omega arith)

pub rows_cleared : (a : List ℕ) (k n : ℕ) → ((j : ℕ) → j < k → get_or a (7 * j) 0 ≤ 6) → 7 * k ≤ n → n ≤ length a
    → clear_from n (k * 7) (clear_rows a k) ≡ laid n (flat (map row (map (row_of a) (below k)))) a
unfolding clear_from
rows_cleared a k n h l m =
    ap (λ (q : List ℕ). over q (k * 7) (zeros (n - k * 7))) (rows_up a k h (omega arith))
    ∙ rest 7 (row_used a) a k n (λ j q. row_begins a j (h j q) (omega arith)) (omega arith)
    ∙ ap (λ (q : List ℕ). laid n q a) (sym (rows_laid a k))

module _ (r : Record) (a : List ℕ) (n : ℕ) (p : r.placements ≡ n) where
  pub lists_up : (k : ℕ) → ((j : ℕ) → j < k → get_or r.lengths j 0 ≤ n) → k * n ≤ length a → clear_lists r.lengths r.placements a k ≡ up_to n (list_used r a) a k
  unfolding clear_lists
  lists_up zero h l = sym (begin n (list_used r a) a)
  lists_up (suc k) h l =
      let e = length_entries r a n k p (h k (omega arith)) l in
      let m = suc-mul k n in
      ap (λ (q : List ℕ). over q (k * r.placements + get_or r.lengths k 0) (zeros (r.placements - get_or r.lengths k 0))) (lists_up k (λ j q. h j (omega arith)) (omega arith))
      ∙ ap (λ (x : ℕ). over (up_to n (list_used r a) a k) (k * x + get_or r.lengths k 0) (zeros (x - get_or r.lengths k 0))) p
      ∙ ap (λ (x : ℕ). over (up_to n (list_used r a) a k) (k * n + x) (zeros (n - x))) (sym e)
      ∙ next n (list_used r a) a k (λ j q. list_begins r a n j p (h j q) (let g : suc j * n ≤ suc k * n = mul-le-mul_right n q in omega arith)) l

  pub lists_cleared : (k m : ℕ) → ((j : ℕ) → j < k → get_or r.lengths j 0 ≤ n) → k * n ≤ m → m ≤ length a
      → clear_from m (k * r.placements) (clear_lists r.lengths r.placements a k) ≡ laid m (flat (map (λ (e : Extensions). padded n e.entries) (reverse (lists_of r a k)))) a
  unfolding clear_from
  lists_cleared k m h l g =
      ap (λ (x : ℕ). over (clear_lists r.lengths r.placements a k) (k * x) (zeros (m - k * x))) p
      ∙ ap (λ (q : List ℕ). over q (k * n) (zeros (m - k * n))) (lists_up k h (omega arith))
      ∙ rest n (list_used r a) a k m (λ j q. list_begins r a n j p (h j q) (let t : suc j * n ≤ k * n = mul-le-mul_right n q in omega arith)) l
      ∙ ap (λ (q : List ℕ). laid m q a) (sym (lists_laid r a n k))

pub points_cleared : (r : Record) (p : List ℕ) (m n : ℕ) → m ≤ length r.routes → 2 * total (take m r.routes) ≤ n → n ≤ length p
    → clear_from n (2 * total (take m r.routes)) p ≡ laid n (flat (map (λ (k : ℕ). numbers (positions (points_of r p k))) (below m))) p
unfolding clear_from
points_cleared r p m n w h l =
    let at : ℕ = 2 * total (take m r.routes) in
    ap (λ (q : List ℕ). over q at (zeros (n - at))) (sym (take-append-drop at p))
    ∙ clear_rest (take at p) p at n (length-take-le at p (omega arith)) h
    ∙ ap (λ (q : List ℕ). laid n q p) (sym (points_joined r p m w (omega arith) m (omega arith)))

-- ---- the whole
pub list_next : (r : Record) (a : List ℕ) (k : ℕ) → (list_of r a k).next ≡ get_or r.nexts k 0
unfolding list_of
list_next r a k = refl

pub length_lists : (r : Record) (a : List ℕ) (k : ℕ) → length (lists_of r a k) ≡ k
unfolding lists_of
length_lists r a zero = refl
length_lists r a (suc k) = ap suc (length_lists r a k)

module _ (i : Inputs) (l : Limits) (r : Record) (a : Store) (shape : Shape r) (few : l.results ≤ 32) (areas : store_fits i l a ≡ true) (fits : record_fits i r a l ≡ true) where
  abbrev n : ℕ
  n = length i.places

  s16 : Sound i r a l
  s16 = sound i r a l fits

  lengths : Long i l a
  lengths = long i l a areas

  abbrev layout_at : ℕ → Layout
  layout_at k = record { members = row_of a.layouts k; route = positions (points_of r a.points k) }

  known : r.layouts ≤ length r.routes
  known = let s = s16.shown in let t = shape.routes in omega arith

  inside : 2 * total (take r.layouts r.routes) ≤ length a.points
  inside = let s = s16.points in let t = lengths.points in omega arith

  -- (a) the areas
  pub store_cleared : store_of i l (state_of r a) a ≡ cleared_store i l r a
  unfolding store_of state_of state cleared_store
  store_cleared =
      let c = lengths in
      let f = s16 in
      let v : clear_from (7 * l.states) (r.evaluations * 7) (clear_rows a.visited r.evaluations)
      ≡ laid (7 * l.states) (flat (map row (map (row_of a.visited) (below r.evaluations)))) a.visited =
      rows_cleared a.visited r.evaluations (7 * l.states) f.rows (omega (arith, f.visits)) c.visited in
      let y : clear_from (7 * l.results) (r.layouts * 7) (clear_rows a.layouts r.layouts)
      ≡ laid (7 * l.results) (flat (map (λ (z : Layout). row z.members) (map layout_at (below r.layouts)))) a.layouts =
      rows_cleared a.layouts r.layouts (7 * l.results) f.walls (omega (arith, f.shown)) c.layouts
      ∙ ap (λ (q : List (List ℕ)). laid (7 * l.results) (flat q) a.layouts)
      (map-map row (row_of a.layouts) (below r.layouts)
      ∙ sym (map-map (λ (z : Layout). row z.members) layout_at (below r.layouts))) in
      let p : clear_from (points_length i l) (2 * total (take r.layouts r.routes)) a.points
      ≡ laid (points_length i l) (flat (map (λ (z : Layout). numbers z.route) (map layout_at (below r.layouts)))) a.points =
      points_cleared r a.points r.layouts (points_length i l) known f.points c.points
      ∙ ap (λ (q : List (List ℕ)). laid (points_length i l) (flat q) a.points) (sym (map-map (λ (z : Layout). numbers z.route) layout_at (below r.layouts))) in
      let g : clear_from (6 * n) (r.lists * r.placements) (clear_lists r.lengths r.placements a.lists r.lists)
      ≡ laid (6 * n) (flat (map (λ (e : Extensions). padded n e.entries) (reverse (lists_of r a.lists r.lists)))) a.lists =
      lists_cleared r a.lists n f.places r.lists (6 * n) (λ j q. (f.lists j q).fits) (mul-le-mul_right n f.deep) c.lists in
      cc

  -- (a) the record
  pub record_cleared : record_of (length i.places) (state_of r a) ≡ cleared_record r
  unfolding record_of state_of state cleared_record
  record_cleared =
      let f = s16 in
      let e1 : number_of (reason_of r.reason) ≡ r.reason = number_back r.reason f.low f.high in
      let e2 : length (map (row_of a.visited) (below r.evaluations)) ≡ r.evaluations = length-map (below r.evaluations) (row_of a.visited) ∙ length_below r.evaluations in
      let e3 : length (map layout_at (below r.layouts)) ≡ r.layouts = length-map (below r.layouts) layout_at ∙ length_below r.layouts in
      let e4 : length (lists_of r a.lists r.lists) ≡ r.lists = length_lists r a.lists r.lists in
      let e5 : map (λ (y : Layout). length y.route) (map layout_at (below r.layouts)) ≡ take r.layouts r.routes =
      map-map (λ (y : Layout). length y.route) layout_at (below r.layouts) ∙ length_routes_read r a.points r.layouts known inside in
      let e6 : map (λ (x : Extensions). length x.entries) (reverse (lists_of r a.lists r.lists)) ≡ take r.lists r.lengths =
      ap (map (λ (x : Extensions). length x.entries)) (lists_made r a.lists r.lists)
      ∙ map-map (λ (x : Extensions). length x.entries) (list_of r a.lists) (below r.lists)
      ∙ map_below (λ (k : ℕ). length (list_of r a.lists k).entries) 0 r.lists (take r.lists r.lengths)
      (sym (length-take-le r.lists r.lengths (let s = f.deep in let t = shape.lengths in omega arith)))
      (λ k q. length_entries r a.lists n k f.places (f.lists k q).fits
      (let t : suc k * n ≤ 6 * n = mul-le-mul_right n (let u = f.deep in let u2 : suc k ≤ 6 = omega arith in u2) in let c =
      lengths.lists in omega arith) ∙ sym (get_or-take r.lists r.lengths k 0 q)) in
      let e7 : map (λ (x : Extensions). x.next) (reverse (lists_of r a.lists r.lists)) ≡ take r.lists r.nexts =
      ap (map (λ (x : Extensions). x.next)) (lists_made r a.lists r.lists)
      ∙ map-map (λ (x : Extensions). x.next) (list_of r a.lists) (below r.lists)
      ∙ map_below (λ (k : ℕ). (list_of r a.lists k).next) 0 r.lists (take r.lists r.nexts)
      (sym (length-take-le r.lists r.nexts (let s = f.deep in let t = shape.nexts in omega arith)))
      (λ k q. list_next r a.lists k ∙ sym (get_or-take r.lists r.nexts k 0 q)) in
      let e8 = f.places in
      cc
