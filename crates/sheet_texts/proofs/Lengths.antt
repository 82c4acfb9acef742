-- How long the texts of a result can be.
use Prim.Native.Nat.{ℕ, zero, suc, ◌+◌, ◌-◌, ◌*◌, ◌/◌, ◌^◌, ◌≤◌, ◌<◌}
use mathlib.Core.Path.{◌≡◌, refl, sym, ap, ◌∙◌, subst}
use mathlib.Core.Bool.{Bool, true, false}
use mathlib.Core.List.{List, [], ◌∷◌, ◌++◌, map}
use native.Mathlib.Omega.{arith}
use native.Mathlib.Numerals.{add-one}
use native.Mathlib.Nat.{pow-suc, suc-mul, div-lt_iff_lt-mul}
use lib.Dec.{ltb}
use borrow.Author.Tests.{ltb-true, ltb-false}
use lib.ListN.{length, take, drop, get_or, length-append, length-drop}
use lib.Seq.{get_or-take, get_or-drop, length-take-le}
use Rattle.base_laws.specs.Lists.{below, span, flat, total}
use Rattle.base_model.specs.declared.Position.{Position}
use Rattle.base_model.specs.declared.Record.{Record}
use Rattle.rule_search.specs.State.{Reason, Running, Exhausted, StateLimit, ResultLimit}
use Rattle.rule_calls.specs.Areas.{Store, reason_of, row_of, positions}
use Rattle.rule_calls.proofs.Clearing.{flat_more, length_row_of}
use Rattle.rule_calls.proofs.Whole.{total_mono}
use Rattle.text_forms.specs.Forms.{decimal}
use Rattle.text_forms.specs.Patterns.{bytes, is}
use Rattle.text_forms.proofs.Puts.{front_shorter, one_long}
use Rattle.sheet_texts.specs.Texts.{reason_text, spaced, point_text, layout_text, result_text}
use Rattle.sheet_texts.specs.Parts.{enough, gap, head_text, row_text, Writable}
use Rattle.sheet_texts.proofs.Texts.{member_text, members_text, point_at, points_text, points_text_lem, layout_parts, result_parts}

-- ---- numbers
pub decimal_digits : (k n : ℕ) → n < 10 ^ suc k → length (decimal n) ≤ suc k
decimal_digits zero n h = omega (arith, one_long n (omega arith))
decimal_digits (suc k) n h = go (ltb n 10) refl (λ w. decimal_digits k (n / 10) w)
  where
    go : (b : Bool) → ltb n 10 ≡ b → (n / 10 < 10 ^ suc k → length (decimal (n / 10)) ≤ suc k) → length (decimal n) ≤ suc (suc k)
    go true e ih = omega (arith, one_long n (ltb-true n 10 e))
    go false e ih =
        let w : length (decimal (n / 10)) ≤ suc k = ih ((div-lt_iff_lt-mul (omega arith)).1 (subst (λ (m : ℕ). n < m) (pow-suc 10 (suc k)) h)) in
        omega (arith, front_shorter n (ltb-false n 10 e))

pub word_digits : (n : ℕ) → n < 4294967296 → length (decimal n) ≤ 10
word_digits n h = decimal_digits 9 n (omega arith)

pub half_digits : (n : ℕ) → n < 65536 → length (decimal n) ≤ 5
half_digits n h = decimal_digits 4 n (omega arith)

-- ---- texts one after another, each of at most c bytes
blocks_short : (f : ℕ → List ℕ) (c n : ℕ) → ((k : ℕ) → k < n → length (f k) ≤ c) → length (flat (map f (below n))) ≤ n * c
unfolding flat below span
blocks_short f c zero h = omega arith
blocks_short f c (suc n) h =
    let i : length (flat (map f (below n))) ≤ n * c = blocks_short f c n (λ k l. h k (omega arith)) in
    omega (arith, h n (omega arith), suc-mul n c, ap length (flat_more f n), length-append (flat (map f (below n))) (f n))

gap_long : (k : ℕ) (w : List ℕ) → length (gap k w) ≤ suc (length w)
unfolding gap
gap_long zero w = omega arith
gap_long (suc k) w = omega arith

members_short : (row : List ℕ) → ((i : ℕ) → i < length row → get_or row i 0 < 65536) → length (spaced (map decimal row)) ≤ length row * 6
unfolding member_text
members_short row h =
    let w : length (flat (map (member_text row) (below (length row)))) ≤ length row * 6 = blocks_short (member_text row) 6 (length row)
    (λ k l. omega (arith, gap_long k (decimal (get_or row k 0)), half_digits (get_or row k 0) (h k l))) in
    omega (arith, ap length (members_text row))

point_short : (x y : ℕ) → x < 4294967296 → y < 4294967296 → length (point_text (record { x = x; y = y })) ≤ 23
unfolding point_text
point_short x y a b =
    omega (arith, word_digits x a, word_digits y b, length-append (decimal x ++ 32 ∷ decimal y) (41 ∷ []), length-append (decimal x) (32 ∷ decimal y))

points_short : (n : ℕ) (points : List ℕ) → length points ≡ 2 * n → ((i : ℕ) → i < length points → get_or points i 0 < 4294967296)
    → length (spaced (map point_text (positions points))) ≤ n * 24
unfolding points_text point_at
points_short n points e h =
    let w : length (flat (map (points_text points) (below n))) ≤ n * 24 = blocks_short (points_text points) 24 n
    (λ k l.
    (let q = point_short (get_or points (2 * k) 0) (get_or points (2 * k + 1) 0) (h (2 * k) (omega arith)) (h (2 * k + 1) (omega arith)) in
    omega (arith, gap_long k (point_text (point_at points k))))) in
    omega (arith, ap length (points_text_lem n points e))

layout_long : (k : ℕ) (members : List ℕ) (route : List Position)
    → length (layout_text k members route) ≡ 16 + length (decimal k) + length (spaced (map decimal members)) + length (spaced (map point_text route))
layout_long k members route =
    let s : List ℕ = spaced (map decimal members) in
    let p : List ℕ = spaced (map point_text route) in
    omega (
      arith,
      ap length (layout_parts k members route),
      length-append ((is "(layout $ (").spell (k ∷ [])) (s ++ (bytes ") (" ++ (p ++ bytes "))\n"))),
      length-append (decimal k) (bytes " ("),
      length-append s (bytes ") (" ++ (p ++ bytes "))\n")),
      length-append p (bytes "))\n"),
    )

-- ---- the first line
reason_short : (r : Reason) → length (reason_text r) ≤ 11
unfolding reason_text
reason_short Running = omega arith
reason_short Exhausted = omega arith
reason_short StateLimit = omega arith
reason_short ResultLimit = omega arith

head_short : (reason e p l : ℕ) → e < 4294967296 → p < 4294967296 → l < 4294967296 → length (head_text reason e p l) ≤ 54
unfolding head_text
head_short reason e p l a b d =
    let w : List ℕ = reason_text (reason_of reason) in
    omega (
      arith,
      reason_short (reason_of reason),
      word_digits e a,
      word_digits p b,
      word_digits l d,
      length-append (bytes "(result " ++ w ++ 32 ∷ decimal e ++ 32 ∷ decimal p ++ 32 ∷ decimal l) (bytes ")\n"),
      length-append (bytes "(result " ++ w ++ 32 ∷ decimal e ++ 32 ∷ decimal p) (32 ∷ decimal l),
      length-append (bytes "(result " ++ w ++ 32 ∷ decimal e) (32 ∷ decimal p),
      length-append (bytes "(result " ++ w) (32 ∷ decimal e),
      length-append (bytes "(result ") w,
    )

-- ---- a refusal's line
pub refused_short : (n : ℕ) → n < 4294967296 → length ((is "(refused $)\n").spell (n ∷ [])) ≤ 64
refused_short n h = omega (arith, word_digits n h, length-append (decimal n) (bytes ")\n"))

-- the entries of a part are entries of the whole
part_low : (most n m : ℕ) (xs : List ℕ) (i : ℕ) → i < n → ((j : ℕ) → get_or xs j 0 < most) → get_or (take n (drop m xs)) i 0 < most
part_low most n m xs i l h = subst (λ (x : ℕ). x < most) (sym (get_or-take n (drop m xs) i 0 l ∙ get_or-drop m xs i 0)) (h (m + i))

-- ---- where the parts of layout k stand
-- past the end both are as before
total_next : (xs : List ℕ) (k : ℕ) → total (take (suc k) xs) ≡ total (take k xs) + get_or xs k 0
unfolding total
total_next [] zero = refl
total_next [] (suc k) = refl
total_next (x ∷ xs) zero = omega arith
total_next (x ∷ xs) (suc k) = omega (arith, total_next xs k)

pub record Here (k from long size layouts points : ℕ) : Type 0 where
  pub number : k < 32
  pub row : 7 * k + 7 ≤ layouts
  pub small : size ≤ 6
  pub inside : from + long ≤ points
  pub most : points ≤ 16384

module _ (count : ℕ) (routes layouts points : List ℕ) (w : Writable count routes layouts points) (k : ℕ) (less : k < count) where
  row_inside : 7 * k + 7 ≤ length layouts
  row_inside = let r : 7 * count ≤ length layouts = w.rows in omega arith

  pub route_next : 2 * total (take (k + 1) routes) ≡ 2 * total (take k routes) + 2 * get_or routes k 0
  route_next = omega (arith, ap (λ (j : ℕ). total (take j routes)) (add-one k), total_next routes k)

  route_inside : 2 * total (take k routes) + 2 * get_or routes k 0 ≤ length points
  route_inside = let h : 2 * total (take count routes) ≤ length points = w.kept in omega (arith, route_next, total_mono routes count (k + 1) (omega arith))

  -- what the code's sums and parts ask, where `from` is the route's place
  pub here : (from : ℕ) → from ≡ 2 * total (take k routes) → Here k from (2 * get_or routes k 0) (get_or layouts (7 * k) 0) (length layouts) (length points)
  here from e = record {
    number = (let f : count ≤ 32 = w.few in omega arith);
    row = row_inside;
    small = w.members k less;
    inside = omega (arith, route_inside);
    most = w.bounded;
  }

  -- the route, as the code takes it
  pub route_taken : (from : ℕ) → from ≡ 2 * total (take k routes) → length (take (from + 2 * get_or routes k 0 - from) (drop from points)) ≡ 2 * get_or routes k 0
  route_taken from e =
      let long = 2 * get_or routes k 0 in
      let a : from + long - from ≡ long = omega arith in
      length-take-le (from + long - from) (drop from points) (omega (arith, length-drop from points, route_inside)) ∙ a

-- the numbers fit their types
pub record Words (layouts points : List ℕ) : Type 0 where
  pub halves : (i : ℕ) → get_or layouts i 0 < 65536
  pub words : (i : ℕ) → get_or points i 0 < 4294967296

-- ---- a layout's line
module _ (count : ℕ) (routes layouts points : List ℕ) (w : Writable count routes layouts points) (v : Words layouts points) where
  row_words : (k i : ℕ) → i < get_or layouts (7 * k) 0 → get_or (row_of layouts k) i 0 < 65536
  unfolding row_of
  row_words k i l = part_low 65536 (get_or layouts (7 * k) 0) (7 * k + 1) layouts i l v.halves

  route_long : (k : ℕ) → k < count → length (take (2 * get_or routes k 0) (drop (2 * total (take k routes)) points)) ≡ 2 * get_or routes k 0
  route_long k h = length-take-le (2 * get_or routes k 0) (drop (2 * total (take k routes)) points)
      (omega (arith, length-drop (2 * total (take k routes)) points, route_inside count routes layouts points w k h))

  row_short : (k : ℕ) → k < count → length (row_text routes layouts points k) ≤ 64 + get_or routes k 0 * 24
  unfolding row_text
  row_short k h =
      let route : List ℕ = take (2 * get_or routes k 0) (drop (2 * total (take k routes)) points) in
      let f : count ≤ 32 = w.few in
      let m : get_or layouts (7 * k) 0 ≤ 6 = w.members k h in
      let d : length (row_of layouts k) ≡ get_or layouts (7 * k) 0 = length_row_of layouts k m (row_inside count routes layouts points w k h) in
      let a : length (spaced (map decimal (row_of layouts k))) ≤ length (row_of layouts k) * 6 =
      members_short (row_of layouts k) (λ i l. row_words k i (omega arith)) in
      let b : length (spaced (map point_text (positions route))) ≤ get_or routes k 0 * 24 = points_short (get_or routes k 0) route (route_long k h)
      (λ i l. part_low 4294967296 (2 * get_or routes k 0) (2 * total (take k routes)) points i (omega (arith, route_long k h)) v.words) in
      omega (arith, layout_long k (row_of layouts k) (positions route), decimal_digits 1 k (omega arith))

  rows_short : (n : ℕ) → n ≤ count → length (flat (map (row_text routes layouts points) (below n))) ≤ 64 * n + 24 * total (take n routes)
  unfolding flat below span total
  rows_short zero h = omega arith
  rows_short (suc n) h =
      let i : length (flat (map (row_text routes layouts points) (below n))) ≤ 64 * n + 24 * total (take n routes) = rows_short n (omega arith) in
      let r : length (row_text routes layouts points n) ≤ 64 + get_or routes n 0 * 24 = row_short n (omega arith) in
      omega (
        arith,
        total_next routes n,
        ap length (flat_more (row_text routes layouts points) n),
        length-append (flat (map (row_text routes layouts points) (below n))) (row_text routes layouts points n),
      )

-- a result is at most 54 bytes, 64 for each layout and 24 for each point
pub result_short : (r : Record) (a : Store) → Writable r.layouts r.routes a.layouts a.points → Words a.layouts a.points
    → r.evaluations < 4294967296 → r.placements < 4294967296 → length (result_text r a) ≤ enough
result_short r a w v e p =
    let head = head_text r.reason r.evaluations r.placements r.layouts in
    let rows = flat (map (row_text r.routes a.layouts a.points) (below r.layouts)) in
    let f : r.layouts ≤ 32 = w.few in
    let g : 2 * total (take r.layouts r.routes) ≤ length a.points = w.kept in
    let h : length a.points ≤ 16384 = w.bounded in
    omega (
      arith,
      ap length (result_parts r a),
      length-append head rows,
      head_short r.reason r.evaluations r.placements r.layouts e p (omega arith),
      rows_short r.layouts r.routes a.layouts a.points w v r.layouts (omega arith),
    )
