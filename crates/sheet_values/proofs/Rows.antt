-- Rows of words as the flat forms that the calls take: parts of rows of one width, and words as edges. Assumes nothing.
use mathlib.Core.Path.{◌≡◌, sym, ap, ◌∙◌}
use mathlib.Core.List.{List, [], ◌∷◌, map}
use Prim.Native.Nat.{ℕ, suc, ◌+◌, ◌*◌, ◌/◌, ◌%◌, ◌≤◌, ◌<◌}
use native.Mathlib.Omega.{arith}
use native.Mathlib.Nat.{mul-zero, mul-suc}
use lib.IntN.{ℤ, pos}
use lib.ListN.{length, get_or, take, drop, length-map, length-append, length-drop}
use lib.Seq.{get_or-drop, get_or-take, take_at, length-take-le}
use Rattle.base_laws.specs.Lists.{flat, below}
use Rattle.base_laws.specs.Fill.{filled}
use Rattle.base_laws.proofs.Fill.{filled_copy}
use Rattle.base_laws.proofs.Lists.{length_below}
use Rattle.rule_calls.proofs.Blocks.{map_below, get_d_map}
use Rattle.sheet_form.specs.Sheets.{Sheet, sheet, signed_of}
use Rattle.sheet_form.proofs.Widths.{flat_at, place_wide, place_at}
use Rattle.sheet_rule.specs.Drive.{edges_of}
use Rattle.sheet_values.specs.Inner.{number_at, edge_at, side_at}

flat_long : (v : ℕ) (l : List (List ℕ)) → ((i : ℕ) → i < length l → length (get_or l i []) ≡ v) → length (flat l) ≡ v * length l
unfolding flat
flat_long v [] h = sym (mul-zero v)
flat_long v (a ∷ l) h = omega (arith, length-append a (flat l), h 0 (omega arith), flat_long v l (λ i lt. h (suc i) (omega arith)), mul-suc v (length l))

-- the first entries that a loop wrote are a list's, if each is that list's entry
filled_is : {A : Type 0} (f : ℕ → A) (d : A) (n : ℕ) (out xs : List A) → n ≡ length xs → ((k : ℕ) → k < n → f k ≡ get_or xs k d) → take n (filled f n out) ≡ xs
unfolding filled
filled_is f d n out xs e h = take_at (map f (below n)) (drop n out) n (length-map (below n) f ∙ length_below n) ∙ map_below f d n xs e h

module _ (s : Sheet) (fit : sheet.fits s) (count : ℕ) (area : List ℕ) (e : count ≡ length s.places) (a : take (12 * count) area ≡ flat s.places) where
  -- parts of v numbers, each row's from o on
  module _ (o v : ℕ) (f : List ℕ → List ℕ) (inside : o + v ≤ 12) (long : (r : List ℕ) → length r ≡ 12 → length (f r) ≡ v)
      (part : (r : List ℕ) → length r ≡ 12 → (j : ℕ) → j < v → get_or (f r) j 0 ≡ get_or r (o + j) 0) where
    wide : (i : ℕ) → i < length (map f s.places) → length (get_or (map f s.places) i []) ≡ v
    wide i lt =
        let here : i < length s.places = omega (arith, length-map s.places f) in
        ap length (get_d_map f s.places i [] [] here) ∙ long (get_or s.places i []) (place_wide s fit i here)

    parts_long : length (flat (map f s.places)) ≡ v * count
    parts_long = flat_long v (map f s.places) wide ∙ ap (λ (n : ℕ). v * n) (length-map s.places f ∙ sym e)

    part_at : (i j : ℕ) → i < count → j < v → get_or area (12 * i + (o + j)) 0 ≡ get_or (flat (map f s.places)) (v * i + j) 0
    part_at i j lt lj =
        let here : i < length s.places = omega arith in
        place_at s fit count area e a i (o + j) lt (omega arith)
        ∙ sym (part (get_or s.places i []) (place_wide s fit i here) j lj)
        ∙ sym (ap (λ (l : List ℕ). get_or l j 0) (get_d_map f s.places i [] [] here))
        ∙ sym (flat_at v (map f s.places) wide i j (omega (arith, length-map s.places f)) lj)

  take_part : (r : List ℕ) → length r ≡ 12 → (j : ℕ) → j < 4 → get_or (take 4 r) j 0 ≡ get_or r (0 + j) 0
  take_part r twelve j lt = get_or-take 4 r j 0 lt ∙ ap (λ (n : ℕ). get_or r n 0) (omega arith)

  pub numbers_filled : (out : List ℕ) → take (4 * count) (filled (number_at area) (4 * count) out) ≡ flat (map (take 4) s.places)
  unfolding number_at
  numbers_filled out =
      let long : (r : List ℕ) → length r ≡ 12 → length (take 4 r) ≡ 4 = λ r twelve. length-take-le 4 r (omega arith) in
      filled_is (number_at area) 0 (4 * count) out (flat (map (take 4) s.places)) (sym (parts_long 0 4 (take 4) (omega arith) long take_part))
      (λ k lt.
      let same : 4 * (k / 4) + k % 4 ≡ k = omega arith in
      let none : 12 * (k / 4) + k % 4 ≡ 12 * (k / 4) + (0 + k % 4) = omega arith in
      ap (λ (n : ℕ). get_or area n 0) none ∙ part_at 0 4 (take 4) (omega arith) long take_part (k / 4) (k % 4) (omega arith) (omega arith)
      ∙ ap (λ (n : ℕ). get_or (flat (map (take 4) s.places)) n 0) same)

  pub edges_filled : (out : List ℤ) → take (8 * count) (filled (edge_at area) (8 * count) out) ≡ edges_of (map (drop 4) s.places)
  unfolding edge_at edges_of
  edges_filled out =
      let ys : List ℕ = flat (map (drop 4) s.places) in
      let long : (r : List ℕ) → length r ≡ 12 → length (drop 4 r) ≡ 8 = λ r twelve. omega (arith, length-drop 4 r) in
      let part : (r : List ℕ) → length r ≡ 12 → (j : ℕ) → j < 8 → get_or (drop 4 r) j 0 ≡ get_or r (4 + j) 0 = λ r twelve j lt. get_or-drop 4 r j 0 in
      let eights : length ys ≡ 8 * count = parts_long 4 8 (drop 4) (omega arith) long part in
      filled_is (edge_at area) (pos 0) (8 * count) out (map signed_of ys) (sym (length-map ys signed_of ∙ eights))
      (λ k lt.
      let same : 8 * (k / 8) + k % 8 ≡ k = omega arith in
      ap signed_of (part_at 4 8 (drop 4) (omega arith) long part (k / 8) (k % 8) (omega arith) (omega arith) ∙ ap (λ (n : ℕ). get_or ys n 0) same)
      ∙ sym (get_d_map signed_of ys k 0 (pos 0) (omega arith)))

-- words as edges
pub sides_filled : (rows : List (List ℕ)) (area : List ℕ) (n : ℕ) (out : List ℤ) → n ≤ length area → take n area ≡ flat rows → take n (filled (side_at area) n out) ≡ edges_of rows
unfolding side_at edges_of
sides_filled rows area n out room e =
    ap (take n) (filled_copy signed_of area 0 n out room)
    ∙ take_at (map signed_of (take n area)) (drop n out) n (length-map (take n area) signed_of ∙ length-take-le n area room)
    ∙ ap (map signed_of) e
