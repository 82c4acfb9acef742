-- A span of a map changed row by row, for any change of a byte: columns l up to r of row y are an interval of the map's entries.
use mathlib.Core.Path.{◌≡◌, refl, sym, ap, ap₂, ◌∙◌, subst}
use mathlib.Core.Bool.{Bool, true, false, cond, ◌&&◌, ◌||◌, and-false, true≢false}
use mathlib.Core.Logic.{◌⊎◌, inl, inr, ⊎_elim}
use mathlib.Core.List.{List, [], ◌∷◌, ◌++◌, map}
use Prim.Native.Nat.{ℕ, zero, suc, ◌+◌, ◌-◌, ◌*◌, ◌/◌, ◌%◌, ◌≤◌, ◌<◌}
use native.Mathlib.Nat.{mod-lt, div-add-mod', mul-le-mul_right, not-suc-le-zero, le_of_suc-le-suc}
use native.Mathlib.Omega.{arith}
use lib.Dec.{ltb, leb, eqb}
use lib.ListN.{length, get_or, take, drop, length-drop, length-map}
use lib.Seq.{length-take-le, get_or-take, get_or-drop}
use borrow.Author.Tests.{ltb-true, ltb-false, leb-true, leb-false, eqb-true, eqb-false, lt-ltb, le-ltb, le-leb, lt-leb}
use Rattle.base_laws.specs.Lists.{all_of}
use Rattle.base_laws.specs.Fill.{over}
use Rattle.base_laws.proofs.Ints.{leb_iff}
use Rattle.base_laws.proofs.Members.{either, both, both_true, all_member, get_d_member}
use Rattle.base_laws.proofs.Stores.{length_over, over_part, over_before, over_inside, over_behind}
use Rattle.base_laws.proofs.Tests.{all_true}
use Rattle.ground_rects.specs.declared.Span.{Span}
use Rattle.ground_rects.specs.Spans.{in_span}
use Rattle.ground_spans.specs.Changes.{SpanAllows, SpanHas, SpanChanged}

abbrev pub in_b : ℕ → ℕ → ℕ → Bool
in_b a b i = leb a i && ltb i b

and_by : (p q u v t : Bool) → (t ≡ true → (p && q) ≡ (u && v)) → (t ≡ false → (p && q) ≡ false) → (p && q) ≡ ((u && v) && t)
and_by p q true true true f g = f refl
and_by p q true true false f g = g refl
and_by p q true false true f g = f refl
and_by p q true false false f g = g refl
and_by p q false v true f g = f refl
and_by p q false v false f g = g refl

no_in : (a b i : ℕ) → ((i < a) ⊎ (b ≤ i)) → in_b a b i ≡ false
no_in a b i (inl h) = ap (λ (t : Bool). t && ltb i b) (lt-leb a i h)
no_in a b i (inr h) = ap (λ (t : Bool). leb a i && t) (le-ltb i b h) ∙ and-false (leb a i)

-- nothing lies in an interval that is empty or inverted
none_in : (a b i : ℕ) → b ≤ a → in_b a b i ≡ false
none_in a b i h = either (leb a i) (λ e. no_in a b i (inr (omega (arith, leb-true a i e)))) (λ e. no_in a b i (inl (leb-false a i e)))

apart : (y c : ℕ) → (y ≡ c → ⊥) → (suc y ≤ c) ⊎ (suc c ≤ y)
apart y c h = by (ltb y c) refl
  where
    by : (t : Bool) → ltb y c ≡ t → (suc y ≤ c) ⊎ (suc c ≤ y)
    by true e = inl (ltb-true y c e)
    by false e = inr (omega (arith, ltb-false y c e))

-- i is (i / s) * s + i % s
flat : (s c l r i : ℕ) → 0 < s → r ≤ s → in_b (c * s + l) (c * s + r) i ≡ (in_b l r (i % s) && eqb (i / s) c)
flat s c l r i hs hr =
    and_by (leb (c * s + l) i) (ltb i (c * s + r)) (leb l (i % s)) (ltb (i % s) r) (eqb (i / s) c)
    (λ e.
    let k : i / s ≡ c = eqb-true (i / s) c e in
    let d : c * s + i % s ≡ i = subst (λ (y : ℕ). y * s + i % s ≡ i) k (div-add-mod' i s) in
    ap₂ ◌&&◌
    (leb_iff (c * s + l) i l (i % s) (λ h. omega arith) (λ h. omega arith))
    (leb_iff (suc i) (c * s + r) (suc (i % s)) r (λ h. omega arith) (λ h. omega arith)))
    (λ e.
    no_in (c * s + l) (c * s + r) i
    (⊎_elim
    (λ h. inl (omega (arith, div-add-mod' i s, mod-lt i hs, mul-le-mul_right s h)))
    (λ h. inr (omega (arith, div-add-mod' i s, mod-lt i hs, mul-le-mul_right s h)))
    (apart (i / s) c (eqb-false (i / s) c e))))

-- one row more
row_by : (t y j : ℕ) (q : Bool) → eqb j y ≡ q → t ≤ y → in_b t (y + 1) j ≡ (q || in_b t y j)
row_by t y j true e h =
    let k = eqb-true j y e in
    ap₂ ◌&&◌ (le-leb t j (omega arith)) (lt-ltb j (y + 1) (omega arith))
row_by t y j false e h =
    let k = eqb-false j y e in
    ap (λ (u : Bool). leb t j && u) (leb_iff (suc j) (y + 1) (suc j) y (λ u. omega arith) (λ u. omega arith))

-- row y is none of the rows before it
row_new : (t y j : ℕ) → eqb j y ≡ true → in_b t y j ≡ false
row_new t y j e = let k = eqb-true j y e in no_in t y j (inr (omega arith))

-- ---- the entries of one row
-- where its part of the map begins and ends
pub row_ends : (n width left right bottom y : ℕ) → left < right → y < bottom → right ≤ width → bottom * width ≤ n
    → (y * width + left ≤ y * width + right) × (y * width + right ≤ n)
row_ends n width left right bottom y hl hy hr hb = (omega arith, omega (arith, mul-le-mul_right width hy))

module _ (cells : List ℕ) (from k : ℕ) (room : from + k ≤ length cells) where
  part_long : length (take k (drop from cells)) ≡ k
  part_long = length-take-le k (drop from cells) (omega (arith, length-drop from cells))

  part_at : (j : ℕ) → j < k → get_or (take k (drop from cells)) j 0 ≡ get_or cells (from + j) 0
  part_at j h = get_or-take k (drop from cells) j 0 h ∙ get_or-drop from cells j 0

  -- each passes, and each that stands there passes
  part_all : (ok : ℕ → Bool) → ((c : ℕ) → in_b from (from + k) c ≡ true → ok (get_or cells c 0) ≡ true) → all_of ok (take k (drop from cells)) ≡ true
  part_all ok h =
      all_true ok 0 (take k (drop from cells))
      (λ j l. ap ok (part_at j (omega (arith, part_long)))
      ∙ h (from + j) (both_true (le-leb from (from + j) (omega arith)) (lt-ltb (from + j) (from + k) (omega (arith, part_long)))))

  all_part : (ok : ℕ → Bool) → all_of ok (take k (drop from cells)) ≡ true → (c : ℕ) → in_b from (from + k) c ≡ true → ok (get_or cells c 0) ≡ true
  all_part ok e c h =
      let b = both (leb from c) (ltb c (from + k)) h in
      let p = leb-true from c b.0 in
      let q = ltb-true c (from + k) b.1 in
      let n : from + (c - from) ≡ c = omega arith in
      let x = all_member ok (take k (drop from cells)) e _ (get_d_member (take k (drop from cells)) (c - from) 0 (omega (arith, part_long))) in
      ap (λ (j : ℕ). ok (get_or cells j 0)) (sym n) ∙ ap ok (sym (part_at (c - from) (omega arith))) ∙ x

-- one that does not pass
failing : (ok : ℕ → Bool) (xs : List ℕ) → all_of ok xs ≡ false → (j : ℕ) × ((j < length xs) × (ok (get_or xs j 0) ≡ false))
unfolding all_of
failing ok [] e = absurd (true≢false e)
failing ok (x ∷ xs) e = by (ok x) refl (λ t. failing ok xs t) e
  where
    by : (b : Bool) → ok x ≡ b → (all_of ok xs ≡ false → (j : ℕ) × ((j < length xs) × (ok (get_or xs j 0) ≡ false)))
        → (b && all_of ok xs) ≡ false → (j : ℕ) × ((j < suc (length xs)) × (ok (get_or (x ∷ xs) j 0) ≡ false))
    by true o r t = (let s = r t in (suc s.0, (omega (arith, s.1.0), s.1.1)))
    by false o r t = (0, (omega arith, o))

-- ---- the rows from `top` up to y of the span pass
pub record Passed (ok : ℕ → Bool) (cells : List ℕ) (width left right top y : ℕ) : Type 0 where
  pub from : top ≤ y
  pub each : (c : ℕ) → (in_b left right (c % width) && in_b top y (c / width)) ≡ true → ok (get_or cells c 0) ≡ true

pub passed_none : (ok : ℕ → Bool) (cells : List ℕ) (width left right top : ℕ) → Passed ok cells width left right top top
passed_none ok cells width left right top = record {
  from = omega arith;
  each = λ c h. absurd (true≢false (sym (both (in_b left right (c % width)) (in_b top top (c / width)) h).1 ∙ none_in top top (c / width) (omega arith)));
}

module _ (ok : ℕ → Bool) (cells : List ℕ) (width left right top bottom y : ℕ) (hr : right ≤ width) (hw : 0 < width) (hb : bottom * width ≤ length cells)
    (hl : left < right) (hy : y < bottom) (t : top ≤ y) where
  abbrev from : ℕ
  from = y * width + left

  abbrev count : ℕ
  count = y * width + right - (y * width + left)

  ends : from + count ≡ y * width + right
  ends = omega arith

  room : from + count ≤ length cells
  room = omega (arith, ends, row_ends (length cells) width left right bottom y hl hy hr hb)

  in_row : (c : ℕ) → in_b from (from + count) c ≡ (in_b left right (c % width) && eqb (c / width) y)
  in_row c = ap (λ (e : ℕ). in_b from e c) ends ∙ flat width y left right c hw hr

  pub passed_more : Passed ok cells width left right top y → all_of ok (take count (drop from cells)) ≡ true → Passed ok cells width left right top (y + 1)
  passed_more p e = record {
    from = omega arith;
    each = λ c h.
        let b = both (in_b left right (c % width)) (in_b top (y + 1) (c / width)) h in
        either (eqb (c / width) y)
        (λ q. all_part cells from count room ok e c (in_row c ∙ both_true b.0 q))
        (λ q. p.each c (both_true b.0 (sym (row_by top y (c / width) false q t) ∙ b.1)));
  }

  pub row_fails : (p : Span) → p.left ≡ left → p.right ≡ right → p.top ≡ top → p.bottom ≡ bottom → all_of ok (take count (drop from cells)) ≡ false
      → SpanHas ok width p cells
  unfolding in_span
  row_fails p el er et eb e =
      let f = failing ok (take count (drop from cells)) e in
      let j = f.0 in
      let k : j < count = omega (arith, f.1.0, part_long cells from count room) in
      let x = in_row (from + j) in
      let i : in_b from (from + count) (from + j) ≡ true = both_true (le-leb from (from + j) (omega arith)) (lt-ltb (from + j) (from + count) (omega arith)) in
      let b = both (in_b left right ((from + j) % width)) (eqb ((from + j) / width) y) (sym x ∙ i) in
      let q = eqb-true ((from + j) / width) y b.1 in
      record {
        at = from + j;
        inside = rw (el, er, et, eb) (both_true b.0 (both_true (le-leb top ((from + j) / width) (omega arith)) (lt-ltb ((from + j) / width) bottom (omega arith))));
        fails = ap ok (sym (part_at cells from count room j k)) ∙ f.1.1;
      }

-- all rows passed
pub passed_all : (ok : ℕ → Bool) (cells : List ℕ) (width : ℕ) (p : Span) (y : ℕ) → p.bottom ≤ y → Passed ok cells width p.left p.right p.top y
    → SpanAllows ok width p cells
unfolding in_span
passed_all ok cells width p y h t = record {
  each = λ c e.
      let a = both (in_b p.left p.right (c % width)) (in_b p.top p.bottom (c / width)) e in
      let b = both (leb p.top (c / width)) (ltb (c / width) p.bottom) a.1 in
      t.each c (both_true a.0 (both_true b.0 (lt-ltb (c / width) y (omega (arith, ltb-true (c / width) p.bottom b.1)))));
}

-- a span without columns has no byte
pub none_asked : (ok : ℕ → Bool) (cells : List ℕ) (width : ℕ) (p : Span) → p.right ≤ p.left → SpanAllows ok width p cells
unfolding in_span
none_asked ok cells width p h = record {
  each = λ c e.
      absurd (true≢false (sym (both (in_b p.left p.right (c % width)) (in_b p.top p.bottom (c / width)) e).0 ∙ none_in p.left p.right (c % width) h));
}

-- ---- what stands where after the k entries from `at` on have changed
module _ (f : ℕ → ℕ) where
  map_at : (xs : List ℕ) (j : ℕ) → j < length xs → get_or (map f xs) j 0 ≡ f (get_or xs j 0)
  map_at [] j h = absurd (not-suc-le-zero h)
  map_at (x ∷ xs) zero h = refl
  map_at (x ∷ xs) (suc j) h = map_at xs j (le_of_suc-le-suc h)

  module _ (l : List ℕ) (at k : ℕ) (room : at + k ≤ length l) where
    abbrev vs : List ℕ
    vs = map f (take k (drop at l))

    vs_long : length vs ≡ k
    vs_long = length-map (take k (drop at l)) f ∙ part_long l at k room

    vs_room : at + length vs ≤ length l
    vs_room = omega (arith, vs_long)

    vs_at : (j : ℕ) → j < k → get_or vs j 0 ≡ f (get_or l (at + j) 0)
    vs_at j h = map_at (take k (drop at l)) j (omega (arith, part_long l at k room)) ∙ ap f (part_at l at k room j h)

    over_by : (i : ℕ) (s t : Bool) → leb at i ≡ s → ltb i (at + k) ≡ t → get_or (over l at vs) i 0 ≡ cond (s && t) (f (get_or l i 0)) (get_or l i 0)
    over_by i true true e h =
        let p = leb-true at i e in
        let q = ltb-true i (at + k) h in
        let n : i ≡ at + (i - at) = omega arith in
        ap (λ (j : ℕ). get_or (over l at vs) j 0) n ∙ over_inside l at 0 vs vs_room (i - at) (omega (arith, vs_long)) ∙ vs_at (i - at) (omega arith)
        ∙ ap (λ (j : ℕ). f (get_or l j 0)) (sym n)
    over_by i true false e h =
        let q = ltb-false i (at + k) h in
        let n : at + length vs + (i - (at + k)) ≡ i = omega (arith, vs_long) in
        subst (λ (j : ℕ). get_or (over l at vs) j 0 ≡ get_or l j 0) n (over_behind l at 0 vs vs_room (i - (at + k)))
    over_by i false t e h = over_before l at 0 vs vs_room i (leb-false at i e)

    over_changed : (i : ℕ) → get_or (over l at vs) i 0 ≡ cond (in_b at (at + k) i) (f (get_or l i 0)) (get_or l i 0)
    over_changed i = over_by i (leb at i) (ltb i (at + k)) refl refl

  -- a row that was not among those before
  merge : (p q r : Bool) (z : ℕ) → (q ≡ true → r ≡ false) → cond (p && q) (f (cond (p && r) (f z) z)) (cond (p && r) (f z) z) ≡ cond (p && (q || r)) (f z) z
  merge true true true z h = absurd (true≢false (h refl))
  merge true true false z h = refl
  merge true false r z h = refl
  merge false q r z h = refl

  -- the rows from `top` up to y of the span have changed
  pub record Rows (cells : List ℕ) (width left right top : ℕ) (cells' : List ℕ) (y : ℕ) : Type 0 where
    pub from : top ≤ y
    pub size : length cells' ≡ length cells
    pub at : (c : ℕ) → get_or cells' c 0 ≡ cond (in_b left right (c % width) && in_b top y (c / width)) (f (get_or cells c 0)) (get_or cells c 0)

  pub rows_none : (cells : List ℕ) (width left right top : ℕ) → Rows cells width left right top cells top
  rows_none cells width left right top = record {
    from = omega arith;
    size = refl;
    at = λ c. sym (ap (λ (b : Bool). cond (in_b left right (c % width) && b) (f (get_or cells c 0)) (get_or cells c 0)) (none_in top top (c / width) (omega arith))
        ∙ ap (λ (b : Bool). cond b (f (get_or cells c 0)) (get_or cells c 0)) (and-false (in_b left right (c % width))));
  }

  module _ (cells : List ℕ) (width left right top bottom : ℕ) (cells' : List ℕ) (y : ℕ) (hr : right ≤ width) (hw : 0 < width)
      (hb : bottom * width ≤ length cells) (hl : left < right) (hy : y < bottom) (t : Rows cells width left right top cells' y) where
    long : bottom * width ≤ length cells'
    long = omega (arith, t.size)

    abbrev start : ℕ
    start = y * width + left

    abbrev many : ℕ
    many = y * width + right - (y * width + left)

    fits : start + many ≤ length cells'
    fits = room (λ b. true) cells' width left right top bottom y hr hw long hl hy t.from

    in_this : (c : ℕ) → in_b start (start + many) c ≡ (in_b left right (c % width) && eqb (c / width) y)
    in_this c = in_row (λ b. true) cells' width left right top bottom y hr hw long hl hy t.from c

    -- the row's bytes are as they were, so they may change if they might at first
    pub row_allowed : (ok : ℕ → Bool) (p : Span) → p.left ≡ left → p.right ≡ right → p.top ≡ top → p.bottom ≡ bottom → SpanAllows ok width p cells
        → all_of ok (take many (drop start cells')) ≡ true
    unfolding in_span
    row_allowed ok p el er et eb a =
        part_all cells' start many fits ok
        (λ c h.
        let b = both (in_b left right (c % width)) (eqb (c / width) y) (sym (in_this c) ∙ h) in
        let q = eqb-true (c / width) y b.1 in
        let g = t.from in
        ap ok
        (t.at c
        ∙ ap (λ (r : Bool). cond (in_b left right (c % width) && r) (f (get_or cells c 0)) (get_or cells c 0)) (row_new top y (c / width) b.1)
        ∙ ap (λ (r : Bool). cond r (f (get_or cells c 0)) (get_or cells c 0)) (and-false (in_b left right (c % width))))
        ∙ a.each c (rw (el, er, et, eb) (both_true b.0 (both_true (le-leb top (c / width) (omega arith)) (lt-ltb (c / width) bottom (omega arith))))))

    row_changed : Rows cells width left right top (over cells' start (map f (take many (drop start cells')))) (y + 1)
    row_changed = record {
      from = omega (arith, t.from);
      size = length_over cells' start (map f (take many (drop start cells'))) (vs_room cells' start many fits) ∙ t.size;
      at = λ i.
          over_changed cells' start many fits i
          ∙ rw (in_this i, t.at i, row_by top y (i / width) (eqb (i / width) y) refl t.from)
          (merge (in_b left right (i % width)) (eqb (i / width) y) (in_b top y (i / width)) (get_or cells i 0) (row_new top y (i / width)));
    }

    -- the row's part as it comes back
    pub rows_more : (ys : List ℕ) → ys ≡ map f (take many (drop start cells'))
        → Rows cells width left right top (take start cells' ++ (ys ++ drop many (drop start cells'))) (y + 1)
    rows_more ys g =
        let h : take start cells' ++ (ys ++ drop many (drop start cells')) ≡ over cells' start (map f (take many (drop start cells')))
        = ap (λ (q : List ℕ). take start cells' ++ (q ++ drop many (drop start cells'))) g
        ∙ over_part cells' start many (map f (take many (drop start cells'))) (vs_long cells' start many fits) in
        subst (λ (q : List ℕ). Rows cells width left right top q (y + 1)) (sym h) row_changed

  -- all rows have changed; of a span that is empty or inverted downwards the loop makes none
  same_end : (top bottom y j : ℕ) → bottom ≤ y → ((y ≤ bottom) ⊎ (y ≡ top)) → in_b top y j ≡ in_b top bottom j
  same_end top bottom y j h (inl k) = let e : y ≡ bottom = omega arith in ap (λ (b : ℕ). in_b top b j) e
  same_end top bottom y j h (inr k) = none_in top y j (omega arith) ∙ sym (none_in top bottom j (omega arith))

  pub rows_all : (cells : List ℕ) (width : ℕ) (p : Span) (cells' : List ℕ) (y : ℕ) → p.bottom ≤ y → ((y ≤ p.bottom) ⊎ (y ≡ p.top))
      → Rows cells width p.left p.right p.top cells' y → SpanChanged f width p cells cells'
  unfolding in_span
  rows_all cells width p cells' y h k t = record {
    size = t.size;
    at = λ c. t.at c ∙ ap (λ (b : Bool). cond (in_b p.left p.right (c % width) && b) (f (get_or cells c 0)) (get_or cells c 0))
        (same_end p.top p.bottom y (c / width) h k);
  }

  -- a span without columns changes nothing
  pub none_across : (cells : List ℕ) (width : ℕ) (p : Span) → p.right ≤ p.left → SpanChanged f width p cells cells
  unfolding in_span
  none_across cells width p h = record {
    size = refl;
    at = λ c. sym (ap (λ (b : Bool). cond (b && in_b p.top p.bottom (c / width)) (f (get_or cells c 0)) (get_or cells c 0)) (none_in p.left p.right (c % width) h));
  }
