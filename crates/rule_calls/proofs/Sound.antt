-- What check 16 and the areas' lengths say, as facts.
use Prim.Native.Nat.{ℕ, zero, suc, ◌+◌, ◌*◌, ◌≤◌, ◌<◌, min}
use mathlib.Core.Path.{◌≡◌, refl, ◌∙◌, ap}
use mathlib.Core.Bool.{Bool, true, false, not, ◌&&◌, ◌||◌}
use mathlib.Core.List.{List, [], ◌∷◌}
use native.Mathlib.Omega.{arith}
use native.Mathlib.Nat.{suc-mul, mul-le-mul_right, le-min, min-le_left}
use lib.Dec.{leb, ltb, eqb}
use lib.ListN.{length, take, get_or, length-take}
use borrow.Author.Tests.{leb-true, ltb-true, eqb-true, eq-eqb}
use Rattle.base_laws.specs.Lists.{all_of, below, span, total, ascends}
use Rattle.base_model.specs.Allow.{Allow}
use Rattle.std.specs.Prelude.{None, Some}
use Rattle.base_model.specs.declared.Limits.{Limits}
use Rattle.base_model.specs.declared.Record.{Record}
use Rattle.ground_rects.specs.Windows.{centres}
use Rattle.rule_layouts.specs.Inputs.{Inputs}
use Rattle.rule_calls.specs.Areas.{Store, store_fits, points_length, number_of, row_of}
use Rattle.rule_calls.specs.RecordCheck.{layouts_fit, row_fits, routes_fit, stood_on, list_fits, record_fits}

clash : ◌≡◌ {A = ℕ} 0 1 → ⊥
clash e = omega arith

pub both : (a b : Bool) → a && b ≡ true → (a ≡ true) × (b ≡ true)
both true b e = (refl, e)
both false b e = absurd (clash (cc))

all_of_span : (f : ℕ → Bool) (j n : ℕ) → all_of f (span j n) ≡ true → (k : ℕ) → k < n → f (j + k) ≡ true
unfolding all_of span
all_of_span f j zero e k h = absurd (omega arith)
all_of_span f j (suc n) e zero h = ap f (let w : j + 0 ≡ j = omega arith in w) ∙ (both (f j) (all_of f (span (suc j) n)) e).0
all_of_span f j (suc n) e (suc k) h = ap f (let w : j + suc k ≡ suc j + k = omega arith in w) ∙ all_of_span f (suc j) n (both (f j) (all_of f (span (suc j) n)) e).1 k (omega arith)

pub all_of_below : (f : ℕ → Bool) (n : ℕ) → all_of f (below n) ≡ true → (k : ℕ) → k < n → f k ≡ true
unfolding below
all_of_below f n e k h = ap f (let w : k ≡ 0 + k = omega arith in w) ∙ all_of_span f 0 n e k h

total_le : (c : ℕ) (xs : List ℕ) → all_of (λ (n : ℕ). leb n c) xs ≡ true → total xs ≤ length xs * c
unfolding all_of total
total_le c [] e = omega arith
total_le c (x ∷ xs) e =
    let p = both (leb x c) (all_of (λ (n : ℕ). leb n c) xs) e in
    let a = leb-true x c p.0 in
    let b = total_le c xs p.1 in
    let m = suc-mul (length xs) c in
    omega arith

total_zero : (xs : List ℕ) → all_of (λ (n : ℕ). eqb n 0) xs ≡ true → total xs ≡ 0
unfolding all_of total
total_zero [] e = refl
total_zero (x ∷ xs) e =
    let p = both (eqb x 0) (all_of (λ (n : ℕ). eqb n 0) xs) e in
    let a = eqb-true x 0 p.0 in
    let b = total_zero xs p.1 in
    omega arith

-- the kept points have room
pub points_room_lem : (i : Inputs) (l : Limits) (xs : List ℕ) → routes_fit i xs ≡ true → length xs ≤ l.results → 2 * total xs ≤ points_length i l
unfolding routes_fit points_length
points_room_lem i l xs e h =
    let p = both _ (leb (total xs) 1000000) e in
    let q = both (all_of (λ (n : ℕ). leb n (centres i.query.window)) xs) _ p.0 in
    go q.0 (leb-true (total xs) 1000000 p.1) i.query.allow q.1
  where
    go : all_of (λ (n : ℕ). leb n (centres i.query.window)) xs ≡ true → total xs ≤ 1000000 → (x : Allow) → elim x [ None ↦ all_of (λ (n : ℕ). eqb n 0) xs | Some m ↦ true ] ≡ true
        → 2 * total xs ≤ elim x [ None ↦ 0 | Some m ↦ 2 * min 1000000 (l.results * centres i.query.window) ]
    go f a None q = let z = total_zero xs q in omega arith
    go f a (Some m) q =
        let b = total_le (centres i.query.window) xs f in
        let d : length xs * centres i.query.window ≤ l.results * centres i.query.window = mul-le-mul_right (centres i.query.window) h in
        let g : total xs ≤ min 1000000 (l.results * centres i.query.window) =
        le-min (let x : total xs ≤ 1000000 = omega arith in x)
        (let x : total xs ≤ l.results * centres i.query.window = omega arith in x) in
        omega arith

pub record ListOk (i : Inputs) (r : Record) (a : Store) (k : ℕ) : Type 0 where
  pub within : get_or r.nexts k 0 ≤ get_or r.lengths k 0
  pub fits : get_or r.lengths k 0 ≤ length i.places
  pub taken : stood_on i r a k ≡ true → 0 < get_or r.nexts k 0

pub record Sound (i : Inputs) (r : Record) (a : Store) (l : Limits) : Type 0 where
  pub low : 1 ≤ r.reason
  pub high : r.reason ≤ 4
  pub places : r.placements ≡ length i.places
  pub visits : r.evaluations ≤ l.states
  pub shown : r.layouts ≤ l.results
  pub under : r.reason ≡ 1 → r.layouts < l.results
  pub rows : (k : ℕ) → k < r.evaluations → get_or a.visited (7 * k) 0 ≤ 6
  pub walls : (k : ℕ) → k < r.layouts → get_or a.layouts (7 * k) 0 ≤ 6
  pub points : 2 * total (take r.layouts r.routes) ≤ points_length i l
  pub deep : r.lists ≤ 6
  pub lists : (k : ℕ) → k < r.lists → ListOk i r a k

row_six : (n : ℕ) (a : List ℕ) (k : ℕ) → row_fits n a k ≡ true → get_or a (7 * k) 0 ≤ 6
unfolding row_fits
row_six n a k e = leb-true (get_or a (7 * k) 0) 6 (both (leb (get_or a (7 * k) 0) 6) (ascends (row_of a k)) (both _ (all_of (λ (i : ℕ). ltb i n) (row_of a k)) e).0).0

list_ok : (i : Inputs) (r : Record) (a : Store) (k : ℕ) → list_fits i r a k ≡ true → ListOk i r a k
unfolding list_fits
list_ok i r a k e =
    let t = both _ (not (stood_on i r a k) || ltb 0 (get_or r.nexts k 0)) (both _ _ e).0 in
    let p = both (leb (get_or r.nexts k 0) (get_or r.lengths k 0)) (leb (get_or r.lengths k 0) (length i.places)) t.0 in
    record { within = leb-true (get_or r.nexts k 0) (get_or r.lengths k 0) p.0; fits = leb-true (get_or r.lengths k 0) (length i.places) p.1; taken = λ s. go (stood_on i r a k) s t.1 }
  where
    go : (b : Bool) → b ≡ true → not b || ltb 0 (get_or r.nexts k 0) ≡ true → 0 < get_or r.nexts k 0
    go true s h = ltb-true 0 (get_or r.nexts k 0) h
    go false s h = absurd (clash (cc))

under_limit : (l : Limits) (r : Record) → layouts_fit l r ≡ true → (r.layouts ≤ l.results) × (r.reason ≡ 1 → r.layouts < l.results)
unfolding layouts_fit number_of
under_limit l r e =
    let p = both (leb r.layouts l.results) _ e in
    (leb-true r.layouts l.results p.0, λ x. go (ltb r.layouts l.results) refl (eqb r.reason 1) (eq-eqb r.reason 1 x) p.1)
  where
    go : (b : Bool) → ltb r.layouts l.results ≡ b → (d : Bool) → d ≡ true → b || not d ≡ true → r.layouts < l.results
    go true f d g h = ltb-true r.layouts l.results f
    go false f true g h = absurd (clash (cc))
    go false f false g h = absurd (clash (cc))

pub sound : (i : Inputs) (r : Record) (a : Store) (l : Limits) → record_fits i r a l ≡ true → Sound i r a l
unfolding record_fits
sound i r a l e =
    let n : ℕ = length i.places in
    let c9 = both _ (all_of (list_fits i r a) (below r.lists)) e in
    let c8 = both _ (leb r.lists 6) c9.0 in
    let c7 = both _ (routes_fit i (take r.layouts r.routes)) c8.0 in
    let c6 = both _ (all_of (row_fits n a.layouts) (below r.layouts)) c7.0 in
    let c5 = both _ (all_of (row_fits n a.visited) (below r.evaluations)) c6.0 in
    let c4 = both _ (layouts_fit l r) c5.0 in
    let c3 = both _ (leb r.evaluations l.states) c4.0 in
    let c2 = both _ (eqb r.placements n) c3.0 in
    let c1 = both (leb 1 r.reason) (leb r.reason 4) c2.0 in
    let u = under_limit l r c4.1 in
    record {
      low = leb-true 1 r.reason c1.0;
      high = leb-true r.reason 4 c1.1;
      places = eqb-true r.placements (length i.places) c2.1;
      visits = leb-true r.evaluations l.states c3.1;
      shown = u.0;
      under = u.1;
      rows = λ k h. row_six n a.visited k (all_of_below (row_fits n a.visited) r.evaluations c5.1 k h);
      walls = λ k h. row_six n a.layouts k (all_of_below (row_fits n a.layouts) r.layouts c6.1 k h);
      points = points_room_lem i l (take r.layouts r.routes) c7.1
          (let w = length-take r.layouts r.routes in let v = u.0 in let y = min-le_left r.layouts (length r.routes) in
          omega arith);
      deep = leb-true r.lists 6 c8.1;
      lists = λ k h. list_ok i r a k (all_of_below (list_fits i r a) r.lists c9.1 k h);
    }

-- the areas are long enough
pub record Long (i : Inputs) (l : Limits) (a : Store) : Type 0 where
  pub lists : 6 * length i.places ≤ length a.lists
  pub visited : 7 * l.states ≤ length a.visited
  pub layouts : 7 * l.results ≤ length a.layouts
  pub points : points_length i l ≤ length a.points

pub long : (i : Inputs) (l : Limits) (a : Store) → store_fits i l a ≡ true → Long i l a
unfolding store_fits
long i l a e =
    let c3 = both _ (leb (points_length i l) (length a.points)) e in
    let c2 = both _ (leb (7 * l.results) (length a.layouts)) c3.0 in
    let c1 = both (leb (6 * length i.places) (length a.lists)) (leb (7 * l.states) (length a.visited)) c2.0 in
    record {
      lists = leb-true (6 * length i.places) (length a.lists) c1.0;
      visited = leb-true (7 * l.states) (length a.visited) c1.1;
      layouts = leb-true (7 * l.results) (length a.layouts) c2.1;
      points = leb-true (points_length i l) (length a.points) c3.1;
    }

-- the same, clause by clause, as the check has them
pub record Clauses (i : Inputs) (r : Record) (a : Store) (l : Limits) : Type 0 where
  pub visited : (k : ℕ) → k < r.evaluations → row_fits (length i.places) a.visited k ≡ true
  pub layouts : (k : ℕ) → k < r.layouts → row_fits (length i.places) a.layouts k ≡ true
  pub routes : routes_fit i (take r.layouts r.routes) ≡ true
  pub lists : (k : ℕ) → k < r.lists → list_fits i r a k ≡ true

pub clauses : (i : Inputs) (r : Record) (a : Store) (l : Limits) → record_fits i r a l ≡ true → Clauses i r a l
unfolding record_fits
clauses i r a l e =
    let n : ℕ = length i.places in
    let c9 = both _ (all_of (list_fits i r a) (below r.lists)) e in
    let c8 = both _ (leb r.lists 6) c9.0 in
    let c7 = both _ (routes_fit i (take r.layouts r.routes)) c8.0 in
    let c6 = both _ (all_of (row_fits n a.layouts) (below r.layouts)) c7.0 in
    let c5 = both _ (all_of (row_fits n a.visited) (below r.evaluations)) c6.0 in
    let c4 = both _ (layouts_fit l r) c5.0 in
    let c3 = both _ (leb r.evaluations l.states) c4.0 in
    let c2 = both _ (eqb r.placements n) c3.0 in
    let c1 = both (leb 1 r.reason) (leb r.reason 4) c2.0 in
    record {
      visited = all_of_below (row_fits n a.visited) r.evaluations c5.1;
      layouts = all_of_below (row_fits n a.layouts) r.layouts c6.1;
      routes = c7.1;
      lists = all_of_below (list_fits i r a) r.lists c9.1;
    }
