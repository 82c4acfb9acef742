-- Check 16 over placements lent flat has the parts that the code looks at.
use Prim.Native.Nat.{ℕ, ◌*◌, ◌≤◌}
use mathlib.Core.Path.{◌≡◌, refl, ap, ◌∙◌}
use mathlib.Core.Bool.{Bool, true, false, not, ◌&&◌, ◌||◌}
use mathlib.Core.List.{List, Memᴰ}
use native.Mathlib.Omega.{arith}
use lib.Dec.{leb, ltb, eqb}
use lib.IntN.{ℤ}
use lib.ListN.{length, take}
use borrow.Author.Tests.{le-leb, leb-true, eq-eqb, eqb-true}
use Rattle.base_laws.specs.Lists.{all_of, below, total}
use Rattle.base_laws.proofs.Members.{both, both_true, same_truth, all_member, all_true}
use Rattle.base_model.specs.Allow.{Allow}
use Rattle.std.specs.Prelude.{None, Some}
use Rattle.base_model.specs.declared.Limits.{Limits}
use Rattle.base_model.specs.declared.Query.{Query}
use Rattle.base_model.specs.declared.Record.{Record}
use Rattle.ground_rects.specs.Windows.{centres}
use Rattle.rule_layouts.specs.Boards.{Places}
use Rattle.rule_layouts.specs.Inputs.{Inputs, places_of}
use Rattle.rule_layouts.specs.Flat.{places_in, inputs_of}
use Rattle.rule_layouts.proofs.FlatPlaces.{places_count, flat_places}
use Rattle.rule_search.specs.State.{Running}
use Rattle.rule_calls.specs.Areas.{Store, number_of, store_in}
use Rattle.rule_calls.specs.RecordCheck.{layouts_fit, row_fits, routes_fit, stood_on, list_fits, record_fits}
use Rattle.call_rows.specs.Figures.{figures_fit, cap_of, routes_pass}
use Rattle.call_lists.specs.Lent.{entry_fits, head_fits, stood, list_passes}
use Rattle.call_lists.proofs.Tests.{all_same}

-- ---- the parts of 16
none_zero : (c : ℕ) (xs : List ℕ) → all_of (λ (n : ℕ). leb n c) xs && all_of (λ (n : ℕ). eqb n 0) xs ≡ all_of (λ (n : ℕ). leb n 0) xs
none_zero c xs =
    same_truth (all_of (λ (n : ℕ). leb n c) xs && all_of (λ (n : ℕ). eqb n 0) xs) (all_of (λ (n : ℕ). leb n 0) xs)
    (λ t.
    let z = (both (all_of (λ (n : ℕ). leb n c) xs) (all_of (λ (n : ℕ). eqb n 0) xs) t).1 in
    all_true (λ (n : ℕ). leb n 0) xs (λ n m. le-leb n 0 (let e : n ≡ 0 = eqb-true n 0 (all_member (λ (n : ℕ). eqb n 0) xs z n m) in omega arith)))
    (λ t.
    let z : (n : ℕ) → Memᴰ n xs → n ≤ 0 = λ n m. leb-true n 0 (all_member (λ (n : ℕ). leb n 0) xs t n m) in
    both_true (all_true (λ (n : ℕ). leb n c) xs (λ n m. le-leb n c (omega (arith, z n m)))) (all_true (λ (n : ℕ). eqb n 0) xs (λ n m. eq-eqb n 0 (omega (arith, z n m)))))

and-true : (b : Bool) → b && true ≡ b
and-true true = refl
and-true false = refl

routes_parts : (i : Inputs) (xs : List ℕ) → routes_fit i xs ≡ routes_pass (cap_of i.query) xs
unfolding routes_fit routes_pass cap_of
routes_parts i xs = ap (λ (b : Bool). b && leb (total xs) 1000000) (go i.query.allow)
  where
    go : (x : Allow) → all_of (λ (n : ℕ). leb n (centres i.query.window)) xs && elim x [ None ↦ all_of (λ (n : ℕ). eqb n 0) xs | Some m ↦ true ]
        ≡ all_of (λ (n : ℕ). leb n (elim x [ None ↦ 0 | Some m ↦ centres i.query.window ])) xs
    go None = none_zero (centres i.query.window) xs
    go (Some m) = and-true (all_of (λ (n : ℕ). leb n (centres i.query.window)) xs)

list_parts : (i : Inputs) (r : Record) (a : Store) (k : ℕ) → list_fits i r a k ≡ list_passes (places_of i.groups i.places) r a.lists k
unfolding list_fits list_passes head_fits stood stood_on entry_fits places_of
list_parts i r a k = refl

-- the six parts, in the order in which the code looks at them
unfoldable pub chain : Bool → Bool → Bool → Bool → Bool → Bool → Bool
chain a b c d e f = a && b && c && d && e && f

module _ (a b c d e f : Bool) where
  pub fails_1 : a ≡ false → chain a b c d e f ≡ false
  unfolding chain
  fails_1 p = rw p

  pub fails_2 : a ≡ true → b ≡ false → chain a b c d e f ≡ false
  unfolding chain
  fails_2 p q = rw (p, q)

  pub fails_3 : a ≡ true → b ≡ true → c ≡ false → chain a b c d e f ≡ false
  unfolding chain
  fails_3 p q r = rw (p, q, r)

  pub fails_4 : a ≡ true → b ≡ true → c ≡ true → d ≡ false → chain a b c d e f ≡ false
  unfolding chain
  fails_4 p q r s = rw (p, q, r, s)

  pub fails_5 : a ≡ true → b ≡ true → c ≡ true → d ≡ true → e ≡ false → chain a b c d e f ≡ false
  unfolding chain
  fails_5 p q r s t = rw (p, q, r, s, t)

  pub comes_to : a ≡ true → b ≡ true → c ≡ true → d ≡ true → e ≡ true → chain a b c d e f ≡ f
  unfolding chain
  comes_to p q r s t = rw (p, q, r, s, t)

-- what the numbers tell
pub record Numbers (l : Limits) (n : ℕ) (r : Record) : Type 0 where
  pub places : r.placements ≡ n
  pub visits : r.evaluations ≤ l.states
  pub shown : r.layouts ≤ l.results

pub numbers_tell : (l : Limits) (n : ℕ) (r : Record) → figures_fit l n r ≡ true → Numbers l n r
unfolding figures_fit layouts_fit
numbers_tell l n r e =
    let a = both (leb 1 r.reason && leb r.reason 4 && eqb r.placements n && leb r.evaluations l.states) (layouts_fit l r) e in
    let b = both (leb 1 r.reason && leb r.reason 4 && eqb r.placements n) (leb r.evaluations l.states) a.0 in
    let c = both (leb 1 r.reason && leb r.reason 4) (eqb r.placements n) b.0 in
    let d = both (leb r.layouts l.results) (ltb r.layouts l.results || not (eqb r.reason (number_of Running))) a.1 in
    record {
      places = eqb-true r.placements n c.1;
      visits = leb-true r.evaluations l.states b.1;
      shown = leb-true r.layouts l.results d.0;
    }

pub record_parts : (q : Query) (l : Limits) (n : ℕ) (groups numbers : List ℕ) (edges : List ℤ) (r : Record) (lists visited layouts : List ℕ)
    → length numbers ≡ 4 * n → length edges ≡ 8 * n → (block_base allow_base points : List ℕ)
    → record_fits (inputs_of q groups numbers edges block_base allow_base) r (store_in lists visited layouts points) l
    ≡ chain (figures_fit l n r) (all_of (row_fits n visited) (below r.evaluations)) (all_of (row_fits n layouts) (below r.layouts))
    (routes_pass (cap_of q) (take r.layouts r.routes)) (leb r.lists 6) (all_of (list_passes (places_in n groups numbers edges) r lists) (below r.lists))
unfolding record_fits inputs_of figures_fit chain
record_parts q l n groups numbers edges r lists visited layouts fours eights block_base allow_base points =
    let i = inputs_of q groups numbers edges block_base allow_base in
    let a = store_in lists visited layouts points in
    let e = all_same (list_fits i r a) (list_passes (places_in n groups numbers edges) r lists) (below r.lists)
    (λ k. list_parts i r a k ∙ ap (λ (p : Places). list_passes p r lists k) (flat_places n numbers edges fours eights groups)) in
    rw (places_count n numbers edges fours eights, routes_parts i (take r.layouts r.routes), e)
