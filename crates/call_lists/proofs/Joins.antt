-- Who may join a set, told by the members in any order: the tests are of single members and of how many there are, and the set that stands on lists has the
-- placements last taken from them as members.
use Prim.Native.Nat.{ℕ, zero, suc, ◌+◌, ◌*◌, ◌≤◌, ◌<◌}
use mathlib.Core.Path.{◌≡◌, refl, sym, ◌∙◌, ap}
use mathlib.Core.Bool.{Bool, true, false, not, ◌&&◌, ◌||◌, or_comm, or_assoc, or-false}
use mathlib.Core.List.{List, [], ◌∷◌, ◌++◌, map, map-append}
use native.Mathlib.Omega.{arith}
use lib.Dec.{eqb, ltb}
use lib.IntN.{ℤ}
use lib.ListN.{length, get_or, length-append}
use Rattle.std.specs.List.{list_all}
use Rattle.std.specs.Ordering.{is_lt}
use Rattle.std.proofs.lemmas.Grind.{get_or_default_zero}
use Rattle.base_laws.specs.Lists.{any_of, all_of, select, span, below, member, put_in}
use Rattle.base_laws.proofs.Members.{either}
use Rattle.base_laws.proofs.Sets.{count_cons, count_insert}
use Rattle.base_laws.proofs.Tests.{below_last, any_append, filter_append}
use Rattle.base_model.specs.declared.Record.{Record}
use Rattle.ground_rects.specs.Rects.{intersects}
use Rattle.rule_layouts.specs.Boards.{Places, used, may_join}
use Rattle.rule_layouts.specs.Flat.{rect_at, places_in}
use Rattle.rule_search.specs.State.{last_taken, set_on}
use Rattle.rule_calls.specs.Areas.{list_of, lists_of}
use Rattle.set_places.specs.declared.FlatPlaces.{FlatPlaces}
use Rattle.set_places.specs.Groups.{of_group, taken}
use Rattle.set_places.proofs.Members.{all_is, fewer_is}
use Rattle.call_lists.specs.Lent.{apart, entry_fits, Beside}

-- ---- the members, one at a time
neither_nor : (a b c d : Bool) → (not a && not b) && (not c && not d) ≡ not (a || c) && not (b || d)
neither_nor true b c d = refl
neither_nor false true true d = refl
neither_nor false true false d = refl
neither_nor false false c d = refl

pub edges_at : {n e : ℕ} {p : FlatPlaces} {s : List ℕ} → Beside n p s e → (k x : ℕ) → k < length s → x ≡ get_or s k x → 8 * x + 8 ≤ length p.edges.now
edges_at {s = s} b k x h q =
    let z = q ∙ get_or_default_zero s k x h in omega (arith, b.entries.rows.eights, b.entries.set.named k h, z)

pub all_apart : (edges : List ℤ) (s : List ℕ) (e : ℕ)
    → list_all (λ (x : ℕ). not (eqb e x) && not (intersects (rect_at edges (8 * e)) (rect_at edges (8 * x)))) s ≡ apart edges s e
unfolding apart member any_of
all_apart edges [] e = refl
all_apart edges (x ∷ s) e =
    ap (λ (b : Bool). (not (eqb e x) && not (intersects (rect_at edges (8 * e)) (rect_at edges (8 * x)))) && b) (all_apart edges s e)
    ∙ neither_nor (eqb e x) (intersects (rect_at edges (8 * e)) (rect_at edges (8 * x))) (any_of (λ (j : ℕ). eqb e j) s)
    (any_of (λ (j : ℕ). intersects (rect_at edges (8 * e)) (rect_at edges (8 * j))) s)

pub all_entries : (m n : ℕ) (groups numbers : List ℕ) (edges : List ℤ) (s es : List ℕ)
    → list_all (λ (x : ℕ). ltb x n && may_join (places_in m groups numbers edges) s x) es ≡ all_of (entry_fits (places_in n groups numbers edges) s) es
unfolding entry_fits may_join places_in used
all_entries m n groups numbers edges s es = all_is (λ (x : ℕ). ltb x n && may_join (places_in m groups numbers edges) s x) es

-- ---- the test by its parts
shuffle : (a b c : Bool) → a && b && c ≡ (a && c) && b
shuffle true true c = go c
  where
    go : (c : Bool) → c ≡ (c && true)
    go true = refl
    go false = refl
shuffle true false true = refl
shuffle true false false = refl
shuffle false b c = refl

pub join_parts : (n : ℕ) (groups numbers : List ℕ) (edges : List ℤ) (s : List ℕ) (e : ℕ)
    → may_join (places_in n groups numbers edges) s e ≡ (apart edges s e && is_lt (taken groups numbers s e))
unfolding may_join places_in apart used of_group
join_parts n groups numbers edges s e =
    shuffle (not (member e s)) (ltb (of_group numbers (get_or numbers (4 * e + 1) 0) s) (get_or groups (get_or numbers (4 * e + 1) 0) 0))
    (not (any_of (λ (j : ℕ). intersects (rect_at edges (8 * e)) (rect_at edges (8 * j))) s))
    ∙ ap (λ (b : Bool). apart edges s e && b) (sym (fewer_is _ _))

-- ---- in any order
any_insert : (f : ℕ → Bool) (i : ℕ) (s : List ℕ) → any_of f (put_in i s) ≡ (f i || any_of f s)
unfolding any_of put_in
any_insert f i [] = refl
any_insert f i (x ∷ s) =
    either (ltb i x)
    (λ t. rw (put_in, t))
    (λ t.
    rw (put_in, t, any_of, any_insert f i s)
    (sym (or_assoc (f x) (f i) (any_of f s)) ∙ ap (λ (b : Bool). b || any_of f s) (or_comm (f x) (f i)) ∙ or_assoc (f i) (f x) (any_of f s)))

-- the placement last taken from list j
unfoldable pub last_of : Record → List ℕ → ℕ → ℕ
last_of r lists j = last_taken (list_of r lists j).entries (list_of r lists j).next

module _ (r : Record) (lists : List ℕ) where
  last_more : (k : ℕ) → map (last_of r lists) (below (suc k)) ≡ map (last_of r lists) (below k) ++ last_of r lists k ∷ []
  last_more k = ap (map (last_of r lists)) (below_last k) ∙ map-append (last_of r lists) (below k) (k ∷ [])

  any_order : (f : ℕ → Bool) (k : ℕ) → any_of f (set_on (lists_of r lists k)) ≡ any_of f (map (last_of r lists) (below k))
  unfolding set_on lists_of last_of any_of below span
  any_order f zero = refl
  any_order f (suc k) =
      let v = last_of r lists k in
      let l = map (last_of r lists) (below k) in
      any_insert f v (set_on (lists_of r lists k))
      ∙ ap (λ (b : Bool). f v || b) (any_order f k)
      ∙ or_comm (f v) (any_of f l)
      ∙ sym (ap (any_of f) (last_more k) ∙ any_append f l (v ∷ []) ∙ ap (λ (b : Bool). any_of f l || b) (or-false (f v)))

  count_order : (f : ℕ → Bool) (k : ℕ) → length (select f (set_on (lists_of r lists k))) ≡ length (select f (map (last_of r lists) (below k)))
  unfolding set_on lists_of last_of select below span
  count_order f zero = refl
  count_order f (suc k) =
      let v = last_of r lists k in
      let l = map (last_of r lists) (below k) in
      omega (
        arith,
        count_insert f v (set_on (lists_of r lists k)),
        count_cons f v (set_on (lists_of r lists k)),
        count_order f k,
        ap (λ (q : List ℕ). length (select f q)) (last_more k),
        ap (λ (q : List ℕ). length q) (filter_append f l (v ∷ [])),
        length-append (select f l) (select f (v ∷ [])),
      )

  pub join_order : (p : Places) (k e : ℕ) → may_join p (set_on (lists_of r lists k)) e ≡ may_join p (map (last_of r lists) (below k)) e
  unfolding may_join member used
  join_order p k e =
      rw (any_order (λ (j : ℕ). eqb e j) k, any_order (λ (j : ℕ). p.overlap e j) k, count_order (λ (i : ℕ). eqb (p.group i) (p.group e)) k)
