-- The placements that flat rows hold are those that were laid into them.
use mathlib.Core.Path.{◌≡◌, refl, sym, ◌∙◌, ap, ap₂, fun_ext}
use Prim.Native.Nat.{ℕ, suc, ◌+◌, ◌*◌, ◌-◌, min}
use native.Mathlib.Omega.{arith}
use mathlib.Core.List.{List, [], ◌∷◌, map}
use lib.IntN.{ℤ, pos}
use lib.ListN.{length, take, replicate, length-take}
use lib.Seq.{take_at}
use Rattle.base_laws.specs.Lists.{flat, span, below}
use Rattle.base_laws.proofs.Lists.{map_span}
use Rattle.base_model.specs.declared.Placement.{Placement}
use Rattle.ground_rects.specs.Rects.{rect}
use Rattle.rule_layouts.specs.Flat.{rect_at, placement_at, placements_of}
use Rattle.rule_layouts.proofs.FlatPlaces.{places_are}
use Rattle.walls_rows.specs.Rows.{place_numbers, rect_edges, both_of, rows_of}
use Rattle.walls_rows.proofs.Laying.{take_least, length_rows}

pub four : (p : Placement) → length (place_numbers p) ≡ 4
unfolding place_numbers
four p = refl

pub eight : (p : Placement) → length (both_of p) ≡ 8
unfolding both_of rect_edges
eight p = refl

abbrev number_row : List Placement → List ℕ
number_row ps = flat (map place_numbers ps)

abbrev edge_row : List Placement → List ℤ
edge_row ps = flat (map both_of ps)

first_is : (p : Placement) (ps : List Placement) → placement_at (number_row (p ∷ ps)) (edge_row (p ∷ ps)) 0 ≡ p
unfolding placement_at rect_at rect flat place_numbers both_of rect_edges
first_is p ps = refl

later_is : (p : Placement) (ps : List Placement) (i : ℕ) → placement_at (number_row (p ∷ ps)) (edge_row (p ∷ ps)) (suc i) ≡ placement_at (number_row ps)
    (edge_row ps) i
unfolding placement_at rect_at flat place_numbers both_of rect_edges
later_is p ps i =
    let n3 : 4 * suc i + 3 ≡ suc (suc (suc (suc (4 * i + 3)))) = omega arith in
    let n2 : 4 * suc i + 2 ≡ suc (suc (suc (suc (4 * i + 2)))) = omega arith in
    let n1 : 4 * suc i + 1 ≡ suc (suc (suc (suc (4 * i + 1)))) = omega arith in
    let n0 : 4 * suc i ≡ suc (suc (suc (suc (4 * i)))) = omega arith in
    let c3 : 8 * suc i + 4 + 3 ≡ suc (suc (suc (suc (suc (suc (suc (suc (8 * i + 4 + 3)))))))) = omega arith in
    let c2 : 8 * suc i + 4 + 2 ≡ suc (suc (suc (suc (suc (suc (suc (suc (8 * i + 4 + 2)))))))) = omega arith in
    let c1 : 8 * suc i + 4 + 1 ≡ suc (suc (suc (suc (suc (suc (suc (suc (8 * i + 4 + 1)))))))) = omega arith in
    let c0 : 8 * suc i + 4 ≡ suc (suc (suc (suc (suc (suc (suc (suc (8 * i + 4)))))))) = omega arith in
    let f3 : 8 * suc i + 3 ≡ suc (suc (suc (suc (suc (suc (suc (suc (8 * i + 3)))))))) = omega arith in
    let f2 : 8 * suc i + 2 ≡ suc (suc (suc (suc (suc (suc (suc (suc (8 * i + 2)))))))) = omega arith in
    let f1 : 8 * suc i + 1 ≡ suc (suc (suc (suc (suc (suc (suc (suc (8 * i + 1)))))))) = omega arith in
    let f0 : 8 * suc i ≡ suc (suc (suc (suc (suc (suc (suc (suc (8 * i)))))))) = omega arith in
    rw (n3, n2, n1, n0, c3, c2, c1, c0, f3, f2, f1, f0)

back_from : (ps : List Placement) → map (placement_at (number_row ps) (edge_row ps)) (below (length ps)) ≡ ps
unfolding below span
back_from [] = refl
back_from (p ∷ ps) =
    ap₂ ◌∷◌ (first_is p ps)
    (map_span (placement_at (number_row (p ∷ ps)) (edge_row (p ∷ ps))) 0 (length ps)
    ∙ ap (λ (f : ℕ → Placement). map f (span 0 (length ps))) (fun_ext (later_is p ps)) ∙ back_from ps)

-- rows that hold nothing else
pub laid_back : (ps : List Placement) → placements_of (number_row ps) (edge_row ps) ≡ ps
laid_back ps = places_are (length ps) (number_row ps) (edge_row ps) (length_rows place_numbers 4 four ps) (length_rows both_of 8 eight ps) ∙ back_from ps

-- the first n placements, read back from the first parts of the rows
pub rows_back : (places : List Placement) (n : ℕ) → n ≡ min (length places) 6145
    → placements_of (take (4 * n) (rows_of places).numbers) (take (8 * n) (rows_of places).edges) ≡ take n places
unfolding rows_of
rows_back places n e =
    ap₂ placements_of
    (take_at (number_row (take 6145 places)) (replicate (4 * (6145 - length places)) 0) (4 * n)
    (length_rows place_numbers 4 four (take 6145 places) ∙ ap (λ (k : ℕ). 4 * k) few))
    (take_at (edge_row (take 6145 places)) (replicate (8 * (6145 - length places)) (pos 0)) (8 * n)
    (length_rows both_of 8 eight (take 6145 places) ∙ ap (λ (k : ℕ). 8 * k) few))
    ∙ laid_back (take 6145 places) ∙ sym (take_least places 6145 n e)
  where
    few : length (take 6145 places) ≡ n
    few = length-take 6145 places ∙ (let q : min 6145 (length places) ≡ n = omega arith in q)
