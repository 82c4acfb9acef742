-- What an evaluation adds to the record and to the areas, each by itself: a visited row, a list, a layout with its kept points.
use Prim.Native.Nat.{ℕ, suc, ◌+◌, ◌-◌, ◌*◌, ◌≤◌, ◌<◌}
use mathlib.Core.Path.{◌≡◌, refl, sym, ◌∙◌, ap}
use mathlib.Core.Bool.{true, false}
use mathlib.Core.List.{List, [], ◌∷◌, ◌++◌, map, map-append, append-nil, Memᴰ}
use native.Mathlib.Omega.{arith}
use native.Mathlib.Nat.{suc-mul, mul-le-mul_right}
use lib.ListN.{length, take, drop, get_or, set, length-append, length-map}
use lib.Seq.{take_at}
use Rattle.base_laws.specs.Lists.{flat, padded, total}
use Rattle.base_laws.specs.Fill.{zeros, over}
use Rattle.base_laws.proofs.Lists.{length_snoc}
use Rattle.base_laws.proofs.Stores.{length_padded}
use Rattle.base_model.specs.declared.Record.{Record}
use Rattle.rule_layouts.specs.Boards.{Board}
use Rattle.rule_search.specs.State.{Running, Extensions, Layout, points_kept}
use Rattle.rule_search.proofs.Moves.{held}
use Rattle.rule_calls.specs.Areas.{laid, row, numbers, record_of}
use Rattle.rule_calls.proofs.Back.{length_numbers}
use Rattle.search_rows.proofs.Stores.{padded_add, padded_set, padded_trail, padded_free}
use Rattle.base_laws.proofs.Blocks.{flat_snoc, length_flat}
use Rattle.rule_search.specs.Formed.{FormedLists}
use Rattle.search_turn.specs.Portion.{stack_of, entered_rec, pushed_rec, listed_rec}
use Rattle.search_turn.proofs.Laying.{longs, nexts, made_snoc, length_made, stack_snoc, length_stack}

-- ---- rows
pub rows_put : {A : Type 0} (f : A → List ℕ) (n : ℕ) (xs : List A) (x : A) (a₀ : List ℕ) (k : ℕ) → ((y : A) → Memᴰ y xs → length (f y) ≡ 7) → length (f x) ≡ 7 → k ≡ length xs → length xs < n
    → over (laid (7 * n) (flat (map f xs)) a₀) (k * 7) (f x) ≡ laid (7 * n) (flat (map f (xs ++ x ∷ []))) a₀
unfolding laid
rows_put f n xs x a₀ k w wx e h =
    let m = length_flat f 7 xs w in
    padded_add (7 * n) (flat (map f xs)) (f x) (drop (7 * n) a₀) (k * 7) (omega arith) (omega arith)
    ∙ ap (λ (q : List ℕ). padded (7 * n) q ++ drop (7 * n) a₀) (sym (flat_snoc f xs x))

-- ---- the record
module _ (n : ℕ) (ls : List Extensions) (v : List (List ℕ)) (ys : List Layout) (r : Record) where
  pub record_entered : (x : List ℕ) → r ≡ record_of n (held Running true ls v ys) → entered_rec r ≡ record_of n (held Running false ls (v ++ x ∷ []) ys)
  unfolding record_of
  record_entered x e =
      let a : r.evaluations + 1 ≡ length (v ++ x ∷ []) = let q = ap (λ (q : Record). q.evaluations) e in let l = length_snoc v x in omega arith in
      λ i. record {
        reason = (e i).reason;
        evaluations = a i;
        placements = (e i).placements;
        layouts = (e i).layouts;
        lists = (e i).lists;
        pending = false;
        routes = (e i).routes;
        lengths = (e i).lengths;
        nexts = (e i).nexts;
      }

  module _ (e : r ≡ record_of n (held Running false ls v ys)) where
    pub record_pushed : (es : List ℕ) (k : ℕ) → length ls < 6 → k ≡ length es → pushed_rec r k ≡ record_of n (held Running false (record { entries = es; next = 0 } ∷ ls) v ys)
    unfolding record_of
    record_pushed es k deep q =
        let l : Extensions = record { entries = es; next = 0 } in
        let c : r.lists ≡ length ls = ap (λ (q : Record). q.lists) e in
        let a : set r.lengths r.lists k ≡ padded 6 (longs (l ∷ ls)) =
        let m = length_made (λ (l : Extensions). length l.entries) ls in
        ap (λ (q : Record). set q.lengths r.lists k) e
        ∙ ap (λ (q : List ℕ). set (padded 6 q) r.lists k) (sym (append-nil (longs ls)))
        ∙ padded_set 6 (longs ls) [] r.lists k (omega arith) (omega arith) (omega arith)
        ∙ ap (λ (j : ℕ). padded 6 (longs ls ++ (j ∷ []))) q
        ∙ ap (λ (q : List ℕ). padded 6 q) (sym (made_snoc (λ (l : Extensions). length l.entries) l ls)) in
        let b : r.nexts ≡ padded 6 (nexts (l ∷ ls)) =
        let m = length_made (λ (l : Extensions). l.next) ls in
        ap (λ (q : Record). q.nexts) e
        ∙ sym (padded_trail 6 1 (nexts ls) (omega arith))
        ∙ ap (λ (q : List ℕ). padded 6 q) (sym (made_snoc (λ (l : Extensions). l.next) l ls)) in
        let d : r.lists + 1 ≡ suc (length ls) = omega arith in
        λ i. record {
          reason = (e i).reason;
          evaluations = (e i).evaluations;
          placements = (e i).placements;
          layouts = (e i).layouts;
          lists = d i;
          pending = (e i).pending;
          routes = (e i).routes;
          lengths = a i;
          nexts = b i;
        }

    pub record_listed : (y : Layout) (k : ℕ) → length ys < 32 → k ≡ length y.route → listed_rec r k ≡ record_of n (held Running false ls v (ys ++ y ∷ []))
    unfolding record_of
    record_listed y k few q =
        let f = length-map ys (λ (y : Layout). length y.route) in
        let c : r.layouts ≡ length ys = ap (λ (q : Record). q.layouts) e in
        let a : set r.routes r.layouts k ≡ padded 32 (map (λ (y : Layout). length y.route) (ys ++ y ∷ [])) =
        ap (λ (q : Record). set q.routes r.layouts k) e
        ∙ ap (λ (q : List ℕ). set (padded 32 q) r.layouts k) (sym (append-nil (map (λ (y : Layout). length y.route) ys)))
        ∙ padded_set 32 (map (λ (y : Layout). length y.route) ys) [] r.layouts k (omega arith) (omega arith) (omega arith)
        ∙ ap (λ (j : ℕ). padded 32 (map (λ (y : Layout). length y.route) ys ++ (j ∷ []))) q
        ∙ ap (λ (q : List ℕ). padded 32 q) (sym (map-append (λ (y : Layout). length y.route) ys (y ∷ []))) in
        let d : r.layouts + 1 ≡ length (ys ++ y ∷ []) = let l = length_snoc ys y in omega arith in
        λ i. record {
          reason = (e i).reason;
          evaluations = (e i).evaluations;
          placements = (e i).placements;
          layouts = d i;
          lists = (e i).lists;
          pending = (e i).pending;
          routes = a i;
          lengths = (e i).lengths;
          nexts = (e i).nexts;
        }

    -- the points kept, as the code sums them
    pub kept_is : total (take r.layouts r.routes) ≡ points_kept ys
    unfolding record_of points_kept padded
    kept_is =
        let f = length-map ys (λ (y : Layout). length y.route) in
        ap (λ (q : Record). total (take q.layouts q.routes)) e
        ∙ ap (λ (q : List ℕ). total q) (take_at (map (λ (y : Layout). length y.route) ys) (zeros (32 - length (map (λ (y : Layout). length y.route) ys))) (length ys) f)

-- ---- points
pub length_kept : (ys : List Layout) → length (flat (map (λ (y : Layout). numbers y.route) ys)) ≡ 2 * points_kept ys
unfolding flat points_kept total
length_kept [] = refl
length_kept (y ∷ ys) =
    omega (arith, length-append (numbers y.route) (flat (map (λ (y : Layout). numbers y.route) ys)), length_numbers y.route, length_kept ys)

pub points_put : (n : ℕ) (ys : List Layout) (y : Layout) (a₀ : List ℕ) (k : ℕ) → k ≡ points_kept ys → 2 * points_kept ys + 2 * length y.route ≤ n
    → over (laid n (flat (map (λ (y : Layout). numbers y.route) ys)) a₀) (2 * k) (numbers y.route) ≡ laid n (flat (map (λ (y : Layout). numbers y.route) (ys ++ y ∷ []))) a₀
unfolding laid
points_put n ys y a₀ k e h =
    let m = length_kept ys in
    let l = length_numbers y.route in
    padded_add n (flat (map (λ (y : Layout). numbers y.route) ys)) (numbers y.route) (drop n a₀) (2 * k) (omega arith) (omega arith)
    ∙ ap (λ (q : List ℕ). padded n q ++ drop n a₀) (sym (flat_snoc (λ (y : Layout). numbers y.route) ys y))

-- ---- lists
module _ (g : Board) (ls : List Extensions) (h : FormedLists g true ls) (l₀ a : List ℕ) (e : a ≡ laid (6 * g.places.count) (stack_of g.places.count ls) l₀) where
  abbrev n : ℕ
  n = g.places.count

  -- the place of the next list is zero
  pub place_free : (at : ℕ) → length ls < 6 → at ≡ length ls * n → take n (drop at a) ≡ zeros n
  unfolding laid
  place_free at deep q =
      let z = length_stack g true ls h in
      let w : suc (length ls) * n ≤ 6 * n = mul-le-mul_right n deep in
      ap (λ (x : List ℕ). take n (drop at x)) e
      ∙ padded_free (6 * n) (stack_of n ls) (drop (6 * n) l₀) at n (omega arith) (let s = suc-mul (length ls) n in omega arith)

  pub lists_pushed : (at : ℕ) (es : List ℕ) → length ls < 6 → at ≡ length ls * n → length es ≤ n
      → over a at (padded n es) ≡ laid (6 * n) (stack_of n (record { entries = es; next = 0 } ∷ ls)) l₀
  unfolding laid
  lists_pushed at es deep q k =
      let z = length_stack g true ls h in
      let w : suc (length ls) * n ≤ 6 * n = mul-le-mul_right n deep in
      let p = length_padded n es k in
      ap (λ (x : List ℕ). over x at (padded n es)) e
      ∙ padded_add (6 * n) (stack_of n ls) (padded n es) (drop (6 * n) l₀) at (omega arith) (let s = suc-mul (length ls) n in omega arith)
      ∙ ap (λ (x : List ℕ). padded (6 * n) x ++ drop (6 * n) l₀) (sym (stack_snoc n (record { entries = es; next = 0 }) ls))

-- the set among the entries of its row
pub members_of : (s set : List ℕ) (k : ℕ) → set ≡ row s → length s ≤ 6 → k ≡ get_or set 0 0 + 1 → take (k - 1) (drop 1 set) ≡ s
unfolding row padded
members_of s set k e h q =
    ap (λ (x : List ℕ). take (k - 1) (drop 1 x)) e
    ∙ take_at s (zeros (6 - length s)) (k - 1) (let z : get_or set 0 0 ≡ length s = ap (λ (x : List ℕ). get_or x 0 0) e in omega arith)
