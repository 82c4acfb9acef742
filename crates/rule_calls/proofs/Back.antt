-- What is laid out is read back.
use Prim.Native.Nat.{ℕ, zero, suc, ◌+◌, ◌-◌, ◌*◌, ◌≤◌, ◌<◌}
use mathlib.Core.Path.{◌≡◌, refl, sym, ◌∙◌, ap, subst}
use mathlib.Core.List.{List, [], ◌∷◌, ◌++◌, map, reverse, append_assoc, reverse-cons, reverse-append, reverse-reverse, Memᴰ, map-append}
use native.Mathlib.Omega.{arith}
use native.Mathlib.Nat.{mul_comm}
use lib.ListN.{length, take, drop, get_or, length-map, length-reverse, get_or-append}
use lib.Seq.{take-append_seam, take-append-le, drop-drop, get_or-drop}
use Rattle.base_laws.specs.Lists.{below, span, total, flat, padded}
use Rattle.base_laws.specs.Fill.{zeros}
use Rattle.base_laws.proofs.Stores.{length_padded, front_cleared}
use Rattle.base_laws.proofs.Tests.{below_last}
use Rattle.base_model.specs.declared.Position.{Position}
use Rattle.base_model.specs.declared.Limits.{Limits}
use Rattle.base_model.specs.declared.Record.{Record}
use Rattle.rule_search.specs.State.{Reason, Running, Exhausted, StateLimit, ResultLimit, Extensions, Layout, State, state}
use Rattle.rule_layouts.specs.Inputs.{Inputs}
use Rattle.rule_calls.specs.Areas.{Store, laid, reason_of, number_of, row_of, positions, numbers, points_of, list_of, lists_of, state_of, record_of, row, store_of, points_length}
use Rattle.rule_calls.proofs.Blocks.{map_below, get_d_map, starts, drop_flat, Wide, drop_wide, take_padded}

module _ {A : Type 0} where
  abbrev pub Each : (A → Type 0) → List A → Type 0
  Each P [] = Unit {0}
  Each P (x ∷ xs) = P x × Each P xs

  pub each_of : (P : A → Type 0) (xs : List A) → ((x : A) → Memᴰ x xs → P x) → Each P xs
  each_of P [] h = tt
  each_of P (x ∷ xs) h = (h x (Memᴰ.head refl), each_of P xs (λ y m. h y (Memᴰ.tail m)))

  pub each_append : (P : A → Type 0) (xs ys : List A) → Each P xs → Each P ys → Each P (xs ++ ys)
  each_append P [] ys h k = k
  each_append P (x ∷ xs) ys h k = (h.0, each_append P xs ys h.1 k)

  pub each_reverse : (P : A → Type 0) (xs : List A) → Each P xs → Each P (reverse xs)
  each_reverse P [] h = h
  each_reverse P (x ∷ xs) h = subst (λ (q : List A). Each P q) (sym (reverse-cons x xs)) (each_append P (reverse xs) (x ∷ []) (each_reverse P xs h.1) (h.0, tt))

abbrev pub Six : List ℕ → Type 0
Six v = length v ≤ 6

pub laid_front : (n : ℕ) (xs a : List ℕ) → laid n xs a ≡ xs ++ (zeros (n - length xs) ++ drop n a)
unfolding laid padded
laid_front n xs a = append_assoc xs (zeros (n - length xs)) (drop n a)

-- nothing is used
pub laid_none : (n : ℕ) (a : List ℕ) → laid n [] a ≡ zeros n ++ drop n a
laid_none n a = let z : n - 0 ≡ n = omega arith in laid_front n [] a ∙ ap (λ (k : ℕ). zeros k ++ drop n a) z

pub laid_clear : (n : ℕ) (a : List ℕ) → take n (laid n [] a) ≡ zeros n
laid_clear n a = ap (take n) (laid_none n a) ∙ front_cleared 0 n (drop n a)

-- ---- rows
abbrev pub first_row : List ℕ → List ℕ
first_row b = take (get_or b 0 0) (drop 1 b)

pub row_here : (area : List ℕ) (k : ℕ) → row_of area k ≡ first_row (drop (7 * k) area)
unfolding row_of
row_here area k =
    ap (λ (n : ℕ). take n (drop (7 * k + 1) area)) (ap (λ (n : ℕ). get_or area n 0) (let w : 7 * k ≡ 7 * k + 0 = omega arith in w) ∙ sym (get_or-drop (7 * k) area 0 0))
    ∙ ap (λ (q : List ℕ). take (get_or (drop (7 * k) area) 0 0) q) (sym (drop-drop 1 (7 * k) area))

first_row_lem : (v z : List ℕ) → first_row (row v ++ z) ≡ v
unfolding row
first_row_lem v z = take_padded 6 v z

pub length_row : (v : List ℕ) → length v ≤ 6 → length (row v) ≡ 7
unfolding row
length_row v h = ap suc (length_padded 6 v h)

module _ {A : Type 0} (f : A → List ℕ) where
  pub wide_rows : (xs : List A) → Each (λ (x : A). Six (f x)) xs → Wide 7 (map (λ (x : A). row (f x)) xs)
  wide_rows [] h = tt
  wide_rows (x ∷ xs) h = (length_row (f x) h.0, wide_rows xs h.1)

  pub row_back : (xs : List A) (z : List ℕ) (d : A) (k : ℕ) → Each (λ (x : A). Six (f x)) xs → k < length xs → row_of (flat (map (λ (x : A). row (f x)) xs) ++ z) k ≡ f (get_or xs k d)
  row_back xs z d k h l =
      let bs : List (List ℕ) = map (λ (x : A). row (f x)) xs in
      let m : length bs ≡ length xs = length-map xs (λ (x : A). row (f x)) in
      row_here (flat bs ++ z) k
      ∙ ap (λ (n : ℕ). first_row (drop n (flat bs ++ z))) (mul_comm 7 k)
      ∙ ap first_row (drop_wide 7 bs z k (wide_rows xs h) (omega arith))
      ∙ ap (λ (q : List ℕ). first_row (q ++ (flat (drop (suc k) bs) ++ z))) (get_d_map (λ (x : A). row (f x)) xs k d [] l)
      ∙ first_row_lem (f (get_or xs k d)) (flat (drop (suc k) bs) ++ z)

pub rows_back : (n : ℕ) (vs : List (List ℕ)) (a : List ℕ) → Each Six vs → map (row_of (laid n (flat (map row vs)) a)) (below (length vs)) ≡ vs
rows_back n vs a h =
    map_below (row_of (laid n (flat (map row vs)) a)) [] (length vs) vs refl
    (λ k l. ap (λ (q : List ℕ). row_of q k) (laid_front n (flat (map row vs)) a) ∙ row_back (λ (v : List ℕ). v) vs (zeros (n - length (flat (map row vs))) ++ drop n a) [] k h l)

-- ---- layouts
pub positions_numbers : (ps : List Position) → positions (numbers ps) ≡ ps
unfolding positions numbers
positions_numbers [] = refl
positions_numbers (p ∷ ps) = ap (λ (q : List Position). p ∷ q) (positions_numbers ps)

pub length_numbers : (ps : List Position) → length (numbers ps) ≡ 2 * length ps
unfolding numbers
length_numbers [] = refl
length_numbers (p ∷ ps) = let e = length_numbers ps in omega arith

abbrev pub route_length : Layout → ℕ
route_length y = length y.route

abbrev pub route_numbers : Layout → List ℕ
route_numbers y = numbers y.route

starts_points : (ys : List Layout) (k : ℕ) → 2 * total (take k (map route_length ys)) ≡ starts k (map route_numbers ys)
unfolding starts total
starts_points ys zero = refl
starts_points [] (suc k) = refl
starts_points (y ∷ ys) (suc k) = let e = starts_points ys k in let l = length_numbers y.route in omega arith

pub no_layout : Layout
no_layout = record { members = []; route = [] }

pub points_back : (r : Record) (ys : List Layout) (z : List ℕ) (k : ℕ) → r.routes ≡ padded 32 (map route_length ys) → k < length ys
    → points_of r (flat (map route_numbers ys) ++ z) k ≡ numbers (get_or ys k no_layout).route
unfolding points_of padded
points_back r ys z k e l =
    let bs : List (List ℕ) = map route_numbers ys in
    let lens : List ℕ = map route_length ys in
    let P : List ℕ = flat bs ++ z in
    let Z : List ℕ = zeros (32 - length lens) in
    let m : length bs ≡ length ys = length-map ys route_numbers in
    let m2 : length lens ≡ length ys = length-map ys route_length in
    ap (λ (q : List ℕ). take (2 * get_or q k 0) (drop (2 * total (take k q)) P)) e
    ∙ ap (λ (q : List ℕ). take (2 * get_or (lens ++ Z) k 0) (drop (2 * total q) P)) (take-append-le k lens Z (omega arith))
    ∙ ap (λ (n : ℕ). take (2 * n) (drop (2 * total (take k lens)) P)) (get_or-append lens Z 0 k (omega arith) ∙ get_d_map route_length ys k no_layout 0 l)
    ∙ ap (λ (n : ℕ). take (2 * route_length (get_or ys k no_layout)) (drop n P)) (starts_points ys k)
    ∙ ap (λ (q : List ℕ). take (2 * route_length (get_or ys k no_layout)) q) (drop_flat bs z k (omega arith))
    ∙ ap (λ (q : List ℕ). take (2 * route_length (get_or ys k no_layout)) (q ++ (flat (drop (suc k) bs) ++ z))) (get_d_map route_numbers ys k no_layout [] l)
    ∙ ap (λ (n : ℕ). take n (route_numbers (get_or ys k no_layout) ++ (flat (drop (suc k) bs) ++ z))) (sym (length_numbers (get_or ys k no_layout).route))
    ∙ take-append_seam (route_numbers (get_or ys k no_layout)) (flat (drop (suc k) bs) ++ z)

pub layouts_back : (r : Record) (n m : ℕ) (ys : List Layout) (a p : List ℕ) → r.routes ≡ padded 32 (map route_length ys) → Each (λ (y : Layout). Six y.members) ys
    → map (λ (k : ℕ). record {
      members = row_of (laid n (flat (map (λ (y : Layout). row y.members) ys)) a) k;
      route = positions (points_of r (laid m (flat (map route_numbers ys)) p) k);
    }) (below (length ys)) ≡ ys
layouts_back r n m ys a p e h =
    let L : List ℕ = flat (map (λ (y : Layout). row y.members) ys) in
    let P : List ℕ = flat (map route_numbers ys) in
    map_below (λ (k : ℕ). record { members = row_of (laid n L a) k; route = positions (points_of r (laid m P p) k) }) no_layout (length ys) ys refl
    (λ k l.
    let x : row_of (laid n L a) k ≡ (get_or ys k no_layout).members = ap (λ (q : List ℕ). row_of q k) (laid_front n L a)
    ∙ row_back (λ (y : Layout). y.members) ys (zeros (n - length L) ++ drop n a) no_layout k h l in
    let y : positions (points_of r (laid m P p) k) ≡ (get_or ys k no_layout).route =
    ap (λ (q : List ℕ). positions (points_of r q k)) (laid_front m P p)
    ∙ ap positions (points_back r ys (zeros (m - length P) ++ drop m p) k e l)
    ∙ positions_numbers (get_or ys k no_layout).route in
    let f : Layout = get_or ys k no_layout in
    ap (λ (q : List ℕ). record { members = q; route = positions (points_of r (laid m P p) k) }) x
    ∙ ap (λ (q : List Position). record { members = f.members; route = q }) y)

-- ---- lists
pub no_list : Extensions
no_list = record { entries = []; next = 0 }

abbrev pub entry_count : Extensions → ℕ
entry_count e = length e.entries

abbrev pub taken : Extensions → ℕ
taken e = e.next

-- the lists in the order in which they were made
pub lists_order : (r : Record) (a : List ℕ) (k : ℕ) → reverse (map (list_of r a) (below k)) ≡ lists_of r a k
unfolding lists_of below span
lists_order r a zero = refl
lists_order r a (suc k) =
    ap (λ (q : List ℕ). reverse (map (list_of r a) q)) (below_last k)
    ∙ ap reverse (map-append (list_of r a) (below k) (k ∷ []))
    ∙ reverse-append (map (list_of r a) (below k)) (list_of r a k ∷ [])
    ∙ ap (λ (q : List Extensions). list_of r a k ∷ q) (lists_order r a k)

pub wide_lists : (n : ℕ) (es : List Extensions) → Each (λ (e : Extensions). length e.entries ≤ n) es → Wide n (map (λ (e : Extensions). padded n e.entries) es)
wide_lists n [] h = tt
wide_lists n (e ∷ es) h = (length_padded n e.entries h.0, wide_lists n es h.1)

pub get_d_padded : (n : ℕ) (xs : List ℕ) (k : ℕ) → k < length xs → get_or (padded n xs) k 0 ≡ get_or xs k 0
unfolding padded
get_d_padded n xs k h = get_or-append xs (zeros (n - length xs)) 0 k h

pub list_back : (r : Record) (n : ℕ) (es : List Extensions) (z : List ℕ) (k : ℕ)
    → r.placements ≡ n → r.lengths ≡ padded 6 (map entry_count es) → r.nexts ≡ padded 6 (map taken es)
    → Each (λ (e : Extensions). length e.entries ≤ n) es → k < length es
    → list_of r (flat (map (λ (e : Extensions). padded n e.entries) es) ++ z) k ≡ get_or es k no_list
unfolding list_of
list_back r n es z k p e1 e2 h l =
    let bs : List (List ℕ) = map (λ (e : Extensions). padded n e.entries) es in
    let A : List ℕ = flat bs ++ z in
    let f : Extensions = get_or es k no_list in
    let m : length bs ≡ length es = length-map es (λ (e : Extensions). padded n e.entries) in
    let m1 : length (map entry_count es) ≡ length es = length-map es entry_count in
    let m2 : length (map taken es) ≡ length es = length-map es taken in
    let x : get_or r.lengths k 0 ≡ length f.entries = ap (λ (q : List ℕ). get_or q k 0) e1 ∙ get_d_padded 6 (map entry_count es) k (omega arith) ∙ get_d_map entry_count es k no_list 0 l in
    let y : get_or r.nexts k 0 ≡ f.next = ap (λ (q : List ℕ). get_or q k 0) e2 ∙ get_d_padded 6 (map taken es) k (omega arith) ∙ get_d_map taken es k no_list 0 l in
    let w : drop (k * r.placements) A ≡ padded n f.entries ++ (flat (drop (suc k) bs) ++ z) =
    ap (λ (j : ℕ). drop (k * j) A) p ∙ drop_wide n bs z k (wide_lists n es h) (omega arith)
    ∙ ap (λ (q : List ℕ). q ++ (flat (drop (suc k) bs) ++ z)) (get_d_map (λ (e : Extensions). padded n e.entries) es k no_list [] l) in
    ap (λ (j : ℕ). record { entries = take j (drop (k * r.placements) A); next = get_or r.nexts k 0 }) x
    ∙ ap (λ (q : List ℕ). record { entries = take (length f.entries) q; next = get_or r.nexts k 0 }) w
    ∙ ap (λ (q : List ℕ). record { entries = q; next = get_or r.nexts k 0 }) (take_padded n f.entries (flat (drop (suc k) bs) ++ z))
    ∙ ap (λ (j : ℕ). record { entries = f.entries; next = j }) y

pub lists_back : (r : Record) (n m : ℕ) (ls : List Extensions) (a : List ℕ)
    → r.placements ≡ n → r.lengths ≡ padded 6 (map entry_count (reverse ls)) → r.nexts ≡ padded 6 (map taken (reverse ls))
    → Each (λ (e : Extensions). length e.entries ≤ n) ls
    → lists_of r (laid m (flat (map (λ (e : Extensions). padded n e.entries) (reverse ls))) a) (length ls) ≡ ls
lists_back r n m ls a p e1 e2 h =
    let C : List ℕ = flat (map (λ (e : Extensions). padded n e.entries) (reverse ls)) in
    sym (lists_order r (laid m C a) (length ls))
    ∙ ap reverse
    (map_below (list_of r (laid m C a)) no_list (length ls) (reverse ls) (sym (length-reverse ls))
    (λ k l. ap (λ (q : List ℕ). list_of r q k) (laid_front m C a)
    ∙ list_back r n (reverse ls) (zeros (m - length C) ++ drop m a) k p e1 e2 (each_reverse (λ (e : Extensions). length e.entries ≤ n) ls h) (let w = length-reverse ls in omega arith)))
    ∙ reverse-reverse ls

-- ---- the whole state
pub reason_back : (x : Reason) → reason_of (number_of x) ≡ x
unfolding reason_of number_of
reason_back Running = refl
reason_back Exhausted = refl
reason_back StateLimit = refl
reason_back ResultLimit = refl

-- what reading back asks of a state: lists no longer than the row of placements, rows of at most six
pub record Room (n : ℕ) (s : State) : Type 0 where
  pub lists : Each (λ (e : Extensions). length e.entries ≤ n) s.lists
  pub rows : Each Six s.visited
  pub shown : Each (λ (y : Layout). Six y.members) s.layouts

pub state_back : (i : Inputs) (l : Limits) (s : State) (a : Store) → Room (length i.places) s → state_of (record_of (length i.places) s) (store_of i l s a) ≡ s
unfolding state_of record_of store_of state
state_back i l s a h =
    let n : ℕ = length i.places in
    let r : Record = record_of n s in
    let b : Store = store_of i l s a in
    let W : List (List ℕ) = map (row_of b.visited) (below (length s.visited)) in
    let Y : List Layout = map (λ (k : ℕ). record { members = row_of b.layouts k; route = positions (points_of r b.points k) }) (below (length s.layouts)) in
    let L : List Extensions = lists_of r b.lists (length s.lists) in
    ap (λ (x : Reason). state x s.pending L W Y) (reason_back s.reason)
    ∙ ap (λ (x : List Extensions). state s.reason s.pending x W Y) (lists_back r n (6 * n) s.lists a.lists refl refl refl h.lists)
    ∙ ap (λ (x : List (List ℕ)). state s.reason s.pending s.lists x Y) (rows_back (7 * l.states) s.visited a.visited h.rows)
    ∙ ap (λ (x : List Layout). state s.reason s.pending s.lists s.visited x) (layouts_back r (7 * l.results) (points_length i l) s.layouts a.layouts a.points refl h.shown)
