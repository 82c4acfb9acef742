-- Placements lent flat are the placements of the rules (RULES 7.9): the rows hold placement i at 4 * i and 8 * i, and past their ends nothing but zeros.
use Prim.Native.Nat.{ℕ, ◌+◌, ◌*◌, ◌/◌, ◌≤◌, min}
use mathlib.Core.Path.{◌≡◌, sym, ap, ◌∙◌}
use mathlib.Core.List.{List, map, append-nil}
use native.Mathlib.Omega.{arith}
use lib.Dec.{ltb}
use lib.IntN.{ℤ, pos}
use lib.ListN.{length, get_or, get_or-eq_default}
use borrow.Author.Tests.{eq-eqb, ltb-true, ltb-false}
use Rattle.base_laws.specs.Lists.{below}
use Rattle.base_laws.proofs.Members.{either}
use Rattle.base_laws.proofs.Tables.{table_at, length_table}
use Rattle.base_model.specs.declared.Placement.{Placement}
use Rattle.ground_rects.specs.Rects.{intersects}
use Rattle.rule_layouts.specs.Inputs.{no_place, places_of}
use Rattle.rule_layouts.specs.Flat.{rect_at, placement_at, wholes, placements_of, places_in}

module _ (n : ℕ) (numbers : List ℕ) (edges : List ℤ) (fours : length numbers ≡ 4 * n) (eights : length edges ≡ 8 * n) where
  pub places_are : placements_of numbers edges ≡ map (placement_at numbers edges) (below n)
  unfolding placements_of wholes
  places_are =
      let q : min (length numbers / 4) (length edges / 8) ≡ n = omega arith in
      rw (q, eq-eqb (length numbers) (4 * n) fours, eq-eqb (length edges) (8 * n) eights) (append-nil (map (placement_at numbers edges) (below n)))

  pub places_count : length (placements_of numbers edges) ≡ n
  places_count = ap (λ (l : List Placement). length l) places_are ∙ length_table (placement_at numbers edges) n

  nothing_past : (i : ℕ) → n ≤ i → placement_at numbers edges i ≡ no_place
  unfolding placement_at no_place rect_at
  nothing_past i h =
      rw (
        past (4 * i) (omega arith),
        past (4 * i + 1) (omega arith),
        past (4 * i + 2) (omega arith),
        past (4 * i + 3) (omega arith),
        past_z (8 * i) (omega arith),
        past_z (8 * i + 1) (omega arith),
        past_z (8 * i + 2) (omega arith),
        past_z (8 * i + 3) (omega arith),
        past_z (8 * i + 4) (omega arith),
        past_z (8 * i + 4 + 1) (omega arith),
        past_z (8 * i + 4 + 2) (omega arith),
        past_z (8 * i + 4 + 3) (omega arith),
      )
    where
      past : (k : ℕ) → length numbers ≤ k → get_or numbers k 0 ≡ 0
      past k l = get_or-eq_default numbers 0 l

      past_z : (k : ℕ) → length edges ≤ k → get_or edges k (pos 0) ≡ pos 0
      past_z k l = get_or-eq_default edges (pos 0) l

  pub place_at : (i : ℕ) → get_or (placements_of numbers edges) i no_place ≡ placement_at numbers edges i
  place_at i =
      ap (λ (l : List Placement). get_or l i no_place) places_are
      ∙ either (ltb i n)
      (λ t. table_at (placement_at numbers edges) n i no_place (ltb-true i n t))
      (λ f.
      let h = ltb-false i n f in
      get_or-eq_default (map (placement_at numbers edges) (below n)) no_place {n = i} (omega (arith, length_table (placement_at numbers edges) n))
      ∙ sym (nothing_past i h))

  pub flat_places : (groups : List ℕ) → places_of groups (placements_of numbers edges) ≡ places_in n groups numbers edges
  unfolding places_of places_in placement_at
  flat_places groups =
      λ j. record {
        count = places_count j;
        group = λ i. (place_at i j).group;
        slots = λ k. get_or groups k 0;
        overlap = λ a b. intersects (place_at a j).footprint (place_at b j).footprint;
      }
