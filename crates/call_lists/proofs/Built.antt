-- The lists looked at in the order in which they were made, with the placements last taken from them as the members of the next list's set.
use Prim.Native.Nat.{ℕ, suc, ◌+◌, ◌*◌, ◌≤◌, ◌<◌}
use mathlib.Core.Path.{◌≡◌, refl, sym, ◌∙◌, ap, ap₂}
use mathlib.Core.Bool.{Bool, true, false, not, ◌&&◌, ◌||◌, and-false, or-false}
use mathlib.Core.List.{List, [], ◌∷◌, ◌++◌, map, map-append}
use native.Mathlib.Decide.{ℕ_discrete}
use native.Mathlib.Numerals.{add-one}
use native.Mathlib.Omega.{arith}
use native.Mathlib.Nat.{suc-mul, mul-le-mul_right}
use lib.Dec.{leb, ltb}
use lib.ListN.{length, get_or, set, take, drop, length-set, length-drop}
use lib.Seq.{get_or-take, get_or-drop, get_or-set_same, get_or-set_other, length-take-le, take-suc-set}
use borrow.Author.Tests.{leb-true, ltb-true, ltb-false, not-true}
use Rattle.base_laws.specs.Lists.{all_of, below, span}
use Rattle.base_laws.proofs.Members.{both, both_true, neither, all_member, get_d_member}
use Rattle.base_laws.proofs.Tests.{below_last}
use Rattle.base_model.specs.declared.Record.{Record}
use Rattle.rule_layouts.specs.Boards.{Places, may_join}
use Rattle.rule_search.specs.State.{last_taken, set_on}
use Rattle.rule_calls.specs.Areas.{list_of, lists_of}
use Rattle.call_rows.proofs.Tests.{below_none, below_more}
use Rattle.call_lists.specs.Lent.{entry_fits, head_fits, stood, list_passes}
use Rattle.call_lists.proofs.Tests.{all_same}
use Rattle.call_lists.proofs.Joins.{last_of, join_order}

-- list k's place
pub place_room : (k n : ℕ) → k < 6 → k * n + n ≤ 6 * n
place_room k n h = omega (arith, suc-mul k n, let g : suc k * n ≤ 6 * n = mul-le-mul_right n h in g)

pub record Head (r : Record) (n next length k : ℕ) : Type 0 where
  pub inside : next ≤ length
  pub short : length ≤ n
  pub last : next ≡ 0 → r.lists ≤ suc k

pub head_facts : (r : Record) (n next length k : ℕ) → head_fits n next length (stood r k) ≡ true → Head r n next length k
unfolding head_fits stood
head_facts r n next length k e =
    let a = both (leb next length && leb length n) (not (ltb (suc k) r.lists || r.pending) || ltb 0 next) e in
    let b = both (leb next length) (leb length n) a.0 in
    record {
      inside = leb-true next length b.0;
      short = leb-true length n b.1;
      last = λ z.
          ltb-false (suc k) r.lists
          (neither (ltb (suc k) r.lists) r.pending
          (not-true (ltb (suc k) r.lists || r.pending)
          (sym (or-false (not (ltb (suc k) r.lists || r.pending))) ∙ ap (λ (m : ℕ). not (ltb (suc k) r.lists || r.pending) || ltb 0 m) (sym z) ∙ a.1))).0;
    }

module _ (p : Places) (r : Record) (lists : List ℕ) where
  -- the first k lists pass, and their last taken placements stand in `members`
  pub record Built (members : List ℕ) (k : ℕ) : Type 0 where
    pub passed : all_of (list_passes p r lists) (below k) ≡ true
    pub placed : (j : ℕ) → j < k → get_or members j 0 < p.count
    pub size : length members ≡ 6
    pub are : take k members ≡ map (last_of r lists) (below k)

  pub built_none : (members : List ℕ) → length members ≡ 6 → Built members 0
  unfolding below span
  built_none members e = record {
    passed = below_none (list_passes p r lists);
    placed = λ j h. absurd (omega arith);
    size = e;
    are = refl;
  }

  -- the list's entries, as the code has them
  pub entries_are : (k : ℕ) (members : List ℕ) → take k members ≡ map (last_of r lists) (below k)
      → all_of (entry_fits p (set_on (lists_of r lists k))) (list_of r lists k).entries ≡ all_of (entry_fits p (take k members)) (take (get_or r.lengths k 0) (drop (k * r.placements) lists))
  unfolding entry_fits list_of
  entries_are k members e =
      all_same (entry_fits p (set_on (lists_of r lists k))) (entry_fits p (take k members)) (take (get_or r.lengths k 0) (drop (k * r.placements) lists))
      (λ x. ap (λ (b : Bool). ltb x p.count && b) (join_order r lists p k x ∙ ap (λ (s : List ℕ). may_join p s x) (sym e)))

  module _ (k : ℕ) (members : List ℕ) (e : take k members ≡ map (last_of r lists) (below k)) where
    pub head_fails : head_fits p.count (get_or r.nexts k 0) (get_or r.lengths k 0) (stood r k) ≡ false → list_passes p r lists k ≡ false
    unfolding list_passes
    head_fails h = ap (λ (b : Bool). b && all_of (entry_fits p (set_on (lists_of r lists k))) (list_of r lists k).entries) h

    pub entries_fail : all_of (entry_fits p (take k members)) (take (get_or r.lengths k 0) (drop (k * r.placements) lists)) ≡ false → list_passes p r lists k ≡ false
    unfolding list_passes
    entries_fail h =
        ap (λ (b : Bool). head_fits p.count (get_or r.nexts k 0) (get_or r.lengths k 0) (stood r k) && b) (entries_are k members e ∙ h)
        ∙ and-false (head_fits p.count (get_or r.nexts k 0) (get_or r.lengths k 0) (stood r k))

    pub list_passes_lem : head_fits p.count (get_or r.nexts k 0) (get_or r.lengths k 0) (stood r k) ≡ true
        → all_of (entry_fits p (take k members)) (take (get_or r.lengths k 0) (drop (k * r.placements) lists)) ≡ true → list_passes p r lists k ≡ true
    unfolding list_passes
    list_passes_lem h g = both_true h (entries_are k members e ∙ g)

  -- the placement last taken, where one was
  last_is : (k m : ℕ) → get_or r.nexts k 0 ≡ suc m → m < get_or r.lengths k 0 → last_of r lists k ≡ get_or lists (k * r.placements + m) 0
  unfolding last_of list_of last_taken
  last_is k m e h =
      ap (last_taken (take (get_or r.lengths k 0) (drop (k * r.placements) lists))) e
      ∙ get_or-take (get_or r.lengths k 0) (drop (k * r.placements) lists) m 0 h ∙ get_or-drop (k * r.placements) lists m 0

  last_named : (s : List ℕ) (k m : ℕ) → all_of (entry_fits p s) (take (get_or r.lengths k 0) (drop (k * r.placements) lists)) ≡ true
      → m < get_or r.lengths k 0 → k * r.placements + get_or r.lengths k 0 ≤ length lists → get_or lists (k * r.placements + m) 0 < p.count
  unfolding entry_fits
  last_named s k m a h l =
      let xs = take (get_or r.lengths k 0) (drop (k * r.placements) lists) in
      let z = length-take-le (get_or r.lengths k 0) (drop (k * r.placements) lists) (omega (arith, length-drop (k * r.placements) lists)) in
      let e = get_or-take (get_or r.lengths k 0) (drop (k * r.placements) lists) m 0 h ∙ get_or-drop (k * r.placements) lists m 0 in
      let t = both (ltb (get_or xs m 0) p.count) (may_join p s (get_or xs m 0)) (all_member (entry_fits p s) xs a (get_or xs m 0) (get_d_member xs m 0 (omega arith))) in
      omega (arith, ltb-true (get_or xs m 0) p.count t.0, e)

  pub built_more : (members : List ℕ) (k m v : ℕ) → Built members k → k < 6
      → head_fits p.count (get_or r.nexts k 0) (get_or r.lengths k 0) (stood r k) ≡ true
      → all_of (entry_fits p (take k members)) (take (get_or r.lengths k 0) (drop (k * r.placements) lists)) ≡ true
      → k * r.placements + get_or r.lengths k 0 ≤ length lists → get_or r.nexts k 0 ≡ suc m → v ≡ get_or lists (k * r.placements + m) 0
      → Built (set members k v) (k + 1)
  built_more members k m v b h head all l e w =
      let f = head_facts r p.count (get_or r.nexts k 0) (get_or r.lengths k 0) k head in
      let j : m < get_or r.lengths k 0 = omega (arith, f.inside) in
      let c : k < length members = omega (arith, b.size) in
      record {
        passed = below_more (list_passes p r lists) k b.passed (list_passes_lem k members b.are head all);
        placed = λ i q. named i q (ℕ_discrete i k);
        size = length-set members k v ∙ b.size;
        are =
            ap (λ (x : ℕ). take x (set members k v)) (add-one k)
            ∙ take-suc-set members k v c
            ∙ ap₂ (λ (xs : List ℕ) (x : ℕ). xs ++ (x ∷ [])) b.are (w ∙ sym (last_is k m e j))
            ∙ sym (ap (λ (x : ℕ). map (last_of r lists) (below x)) (add-one k) ∙ ap (map (last_of r lists)) (below_last k) ∙ map-append (last_of r lists) (below k) (k ∷ []));
      }
    where
      named : (i : ℕ) → i < k + 1 → Dec (i ≡ k) → get_or (set members k v) i 0 < p.count
      named i q (yes z) =
          let f = head_facts r p.count (get_or r.nexts k 0) (get_or r.lengths k 0) k head in
          omega (
            arith,
            ap (λ (x : ℕ). get_or (set members k v) x 0) z,
            get_or-set_same members k v 0 (omega (arith, b.size)),
            last_named (take k members) k m all (omega (arith, f.inside)) l,
          )
      named i q (no z) =
          let d : i ≡ k → ⊥ = z in
          omega (arith, get_or-set_other members k i v 0 z, b.placed i (omega arith))
