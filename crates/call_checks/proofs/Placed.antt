-- Placements lent flat, looked at one by one.
use Prim.Native.Nat.{ℕ, zero, suc, ◌+◌, ◌*◌, ◌≤◌, ◌<◌}
use mathlib.Core.Path.{◌≡◌, refl, sym, ap, subst, ◌∙◌}
use mathlib.Core.Bool.{Bool, true, false, ◌&&◌, and-false, true≢false}
use mathlib.Core.Option.{none, some}
use mathlib.Core.List.{List, [], ◌∷◌, ◌++◌, map}
use native.Mathlib.Omega.{arith}
use lib.Dec.{leb, ltb, eqb}
use lib.IntN.{ℤ}
use lib.ListN.{length, get_or, length-append, get_or-append}
use lib.Seq.{get_or_at}
use borrow.Author.Tests.{le-leb, lt-leb, leb-true, ltb-true, ltb-false, eqb-true, ne_eqb}
use Rattle.std.specs.Prelude as std
use Rattle.std.specs.Prelude.{None, Some}
use Rattle.std.specs.Option.{MatchOption, unwrap_or}
use Rattle.base_laws.specs.Lists.{below}
use Rattle.base_laws.proofs.Members.{either, both}
use Rattle.base_laws.proofs.Tables.{table_at, length_table}
use Rattle.base_model.specs.Answers.{refusal, ask, first}
use Rattle.base_model.proofs.Asking.{ask_passes, first_passes}
use Rattle.base_model.specs.declared.Rect.{Rect}
use Rattle.base_model.specs.declared.Placement.{Placement}
use Rattle.ground_rects.specs.Rects.{rect, nonempty, holds}
use Rattle.rule_layouts.specs.Flat.{placement_at, wholes, placements_of}
use Rattle.rule_layouts.specs.Inputs.{Inputs, no_place}
use Rattle.rule_layouts.proofs.FlatPlaces.{places_count, place_at}
use Rattle.rule_calls.specs.Checks.{placement_fits, first_misplaced, place_checks}
use Rattle.call_checks.specs.Parts.{Misplaced, PlacesWhole}

-- ---- 15 over a list
module _ (w : Rect) (gs : List ℕ) where
  pub one_misplaced : (ps : List Placement) (k j : ℕ) → j < length ps → ((m : ℕ) → m < j → placement_fits w gs (get_or ps m no_place) ≡ true)
      → placement_fits w gs (get_or ps j no_place) ≡ false → first_misplaced w gs k ps ≡ some (record { number = 15; values = (k + j) ∷ [] })
  unfolding first_misplaced
  one_misplaced [] k j h b e = absurd (omega arith)
  one_misplaced (p ∷ ps) k zero h b e = let z : k ≡ k + 0 = omega arith in rw (first_misplaced, e, ← z) refl
  one_misplaced (p ∷ ps) k (suc j) h b e =
      let z : suc k + j ≡ k + suc j = omega arith in
      rw (first_misplaced, b 0 (omega arith), ← z) (one_misplaced ps (suc k) j (omega arith) (λ m l. b (suc m) (omega arith)) e)

  pub none_misplaced : (ps : List Placement) (k : ℕ) → ((m : ℕ) → m < length ps → placement_fits w gs (get_or ps m no_place) ≡ true) → first_misplaced w gs k ps ≡ none
  unfolding first_misplaced
  none_misplaced [] k b = refl
  none_misplaced (p ∷ ps) k b = rw (first_misplaced, b 0 (omega arith)) (none_misplaced ps (suc k) (λ m l. b (suc m) (omega arith)))

  pub each_placed : (ps : List Placement) (k : ℕ) → first_misplaced w gs k ps ≡ none → (j : ℕ) → j < length ps → placement_fits w gs (get_or ps j no_place) ≡ true
  unfolding first_misplaced
  each_placed [] k e j h = absurd (omega arith)
  each_placed (p ∷ ps) k e zero h =
      either (placement_fits w gs p) (λ t. t)
      (λ f. absurd (let x = rw (first_misplaced, f) at e in let z : ◌≡◌ {A = ℕ} 0 1 = cc in let q : ⊥ = omega arith in q))
  each_placed (p ∷ ps) k e (suc j) h =
      each_placed ps (suc k)
      (either (placement_fits w gs p) (λ t. rw (first_misplaced, t) at e)
      (λ f. absurd (let x = rw (first_misplaced, f) at e in let z : ◌≡◌ {A = ℕ} 0 1 = cc in let q : ⊥ = omega arith in q)))
      j (omega arith)

  pub no_place_lem : placement_fits w gs no_place ≡ false
  unfolding placement_fits no_place nonempty rect
  no_place_lem = ap (λ (b : Bool). b && holds w no_place.footprint) (and-false (leb 0 5 && ltb 0 (length gs) && nonempty no_place.footprint))

  -- a placement that passes has a group that there is
  pub fits_grouped : (p : Placement) → placement_fits w gs p ≡ true → p.group < length gs
  unfolding placement_fits
  fits_grouped p e =
      let a = both (leb p.spec 5 && ltb p.group (length gs) && nonempty p.footprint && nonempty p.collision) (holds w p.footprint) e in
      let b = both (leb p.spec 5 && ltb p.group (length gs) && nonempty p.footprint) (nonempty p.collision) a.0 in
      let c = both (leb p.spec 5 && ltb p.group (length gs)) (nonempty p.footprint) b.0 in
      ltb-true p.group (length gs) (both (leb p.spec 5) (ltb p.group (length gs)) c.0).1

-- the first index at which a placement does not pass, or n
pub misplaced_at : (w : Rect) (gs ns : List ℕ) (es : List ℤ) (n : ℕ) (r : std.Option ℕ)
    → MatchOption r ((k : ℕ) → 0 ≤ k → k < n → placement_fits w gs (placement_at ns es k) ≡ true)
    (λ i. (0 ≤ i) × (i < n) × (placement_fits w gs (placement_at ns es i) ≡ false) × ((k : ℕ) → 0 ≤ k → k < i → placement_fits w gs (placement_at ns es k) ≡ true))
    → Misplaced w gs ns es n (unwrap_or r n)
misplaced_at w gs ns es n None m = record { within = omega arith; before = λ k h. m k (omega arith) h; fails = λ h. absurd (omega arith) }
misplaced_at w gs ns es n (Some i) m = record { within = omega arith; before = λ k h. m.3 k (omega arith) h; fails = λ h. m.2 }

-- ---- the placements lent
module _ (ns : List ℕ) (es : List ℤ) where
  -- what is left over
  rest : Bool → List Placement
  rest b = elim b [ true ↦ [] | false ↦ no_place ∷ [] ]

  wholes_only : List Placement
  wholes_only = map (placement_at ns es) (below (wholes ns es))

  even : Bool
  even = eqb (length ns) (4 * wholes ns es) && eqb (length es) (8 * wholes ns es)

  length_rest : (b : Bool) → length (wholes_only ++ rest b) ≡ wholes ns es + length (rest b)
  unfolding wholes_only
  length_rest b = length-append wholes_only (rest b) ∙ ap (λ (k : ℕ). k + length (rest b)) (length_table (placement_at ns es) (wholes ns es))

  at_whole : (b : Bool) (k : ℕ) → k < wholes ns es → get_or (wholes_only ++ rest b) k no_place ≡ placement_at ns es k
  unfolding wholes_only
  at_whole b k h =
      get_or-append wholes_only (rest b) no_place k (omega (arith, length_table (placement_at ns es) (wholes ns es)))
      ∙ table_at (placement_at ns es) (wholes ns es) k no_place h

  at_rest : get_or (wholes_only ++ rest false) (wholes ns es) no_place ≡ no_place
  unfolding wholes_only rest
  at_rest = get_or_at wholes_only no_place [] no_place (wholes ns es) (length_table (placement_at ns es) (wholes ns es))

  places_are : placements_of ns es ≡ wholes_only ++ rest even
  unfolding placements_of wholes_only rest even
  places_are = refl

  -- how many are lent
  uneven : (b : Bool) → even ≡ b → length (rest b) ≡ 1 → length (placements_of ns es) ≡ wholes ns es + 1
  uneven b e h = ap (λ (l : List Placement). length l) places_are ∙ ap (λ (x : Bool). length (wholes_only ++ rest x)) e ∙ length_rest b ∙ ap (λ (k : ℕ). wholes ns es + k) h

  pub numbers_over : (length ns ≡ 4 * wholes ns es → ⊥) → length (placements_of ns es) ≡ wholes ns es + 1
  unfolding even rest
  numbers_over h = uneven false (rw (ne_eqb (length ns) (4 * wholes ns es) h)) refl

  pub edges_over : (length es ≡ 8 * wholes ns es → ⊥) → length (placements_of ns es) ≡ wholes ns es + 1
  unfolding even rest
  edges_over h = uneven false (rw (ne_eqb (length es) (8 * wholes ns es) h) (and-false (eqb (length ns) (4 * wholes ns es)))) refl

  pub none_over : length ns ≡ 4 * wholes ns es → length es ≡ 8 * wholes ns es → length (placements_of ns es) ≡ wholes ns es
  none_over e f = places_count (wholes ns es) ns es e f

  module _ (w : Rect) (gs : List ℕ) (r : ℕ) (m : Misplaced w gs ns es (wholes ns es) r) where
    past : (b : Bool) → 0 < length (rest b) → get_or (wholes_only ++ rest b) (wholes ns es) no_place ≡ no_place
    unfolding rest
    past true h = absurd (omega arith)
    past false h = at_rest

    misplaced_by : (b : Bool) → r < length (wholes_only ++ rest b) → placement_fits w gs (get_or (wholes_only ++ rest b) r no_place) ≡ false
    misplaced_by b h =
        either (ltb r (wholes ns es))
        (λ t. let l = ltb-true r (wholes ns es) t in ap (placement_fits w gs) (at_whole b r l) ∙ m.fails l)
        (λ f.
        let e : r ≡ wholes ns es = omega (arith, m.within, ltb-false r (wholes ns es) f) in
        ap (λ (k : ℕ). placement_fits w gs (get_or (wholes_only ++ rest b) k no_place)) e
        ∙ ap (placement_fits w gs) (past b (omega (arith, length_rest b)))
        ∙ no_place_lem w gs)

    fits_before : (b : Bool) (k : ℕ) → k < r → placement_fits w gs (get_or (wholes_only ++ rest b) k no_place) ≡ true
    fits_before b k h = ap (placement_fits w gs) (at_whole b k (omega (arith, m.within))) ∙ m.before k h

    pub misplaced_found : r < length (placements_of ns es) → first_misplaced w gs 0 (placements_of ns es) ≡ some (record { number = 15; values = r ∷ [] })
    misplaced_found h =
        let z : 0 + r ≡ r = omega arith in
        rw (places_are) (one_misplaced w gs (wholes_only ++ rest even) 0 r (rw places_are at h) (fits_before even) (misplaced_by even (rw places_are at h)) ∙ rw z)

    pub all_placed : length (placements_of ns es) ≤ r → first_misplaced w gs 0 (placements_of ns es) ≡ none
    all_placed h = rw (places_are) (none_misplaced w gs (wholes_only ++ rest even) 0 (λ k l. fits_before even k (omega (arith, rw places_are at h))))

  -- nothing is left over where all pass
  evenly : (w : Rect) (gs : List ℕ) → ((k : ℕ) → k < length (placements_of ns es) → placement_fits w gs (get_or (placements_of ns es) k no_place) ≡ true) → even ≡ true
  unfolding rest
  evenly w gs each =
      either even (λ t. t)
      (λ f.
      let q : placements_of ns es ≡ wholes_only ++ rest false = places_are ∙ ap (λ (b : Bool). wholes_only ++ rest b) f in
      let l : length (placements_of ns es) ≡ wholes ns es + 1 = uneven false f refl in
      absurd (true≢false (sym (each (wholes ns es) (omega arith)) ∙ ap (λ (ps : List Placement). placement_fits w gs (get_or ps (wholes ns es) no_place)) q
      ∙ ap (placement_fits w gs) at_rest ∙ no_place_lem w gs)))

-- ---- what 14 and 15 tell of the rows
pub places_whole : (i : Inputs) (ns : List ℕ) (es : List ℤ) → i.places ≡ placements_of ns es → first (place_checks i) ≡ none
    → PlacesWhole (length (placements_of ns es)) i.groups ns es
unfolding place_checks even placement_at
places_whole i ns es e f =
    let w = i.query.window in
    let gs = i.groups in
    let ps = placements_of ns es in
    let x = first_passes (ask 14 (leb (length i.places) 6144)) (first_misplaced w gs 0 i.places ∷ []) f in
    let few : length ps ≤ 6144 = leb-true (length ps) 6144 (rw e at (ask_passes 14 (leb (length i.places) 6144) x.0)) in
    let each = each_placed w gs ps 0 (rw e at (first_passes (first_misplaced w gs 0 i.places) [] x.1).0) in
    let ev = both (eqb (length ns) (4 * wholes ns es)) (eqb (length es) (8 * wholes ns es)) (evenly ns es w gs each) in
    let fours = eqb-true (length ns) (4 * wholes ns es) ev.0 in
    let eights = eqb-true (length es) (8 * wholes ns es) ev.1 in
    let n : length ps ≡ wholes ns es = places_count (wholes ns es) ns es fours eights in
    record {
      fours = rw n fours;
      eights = rw n eights;
      few = few;
      grouped = λ k h.
          subst (λ (p : Placement). p.group < length gs) (place_at (wholes ns es) ns es fours eights k) (fits_grouped w gs (get_or ps k no_place) (each k h));
    }

-- ---- what 14 and 15 answer
module _ (i : Inputs) (w : Rect) (gs ns : List ℕ) (es : List ℤ) (e : i.query.window ≡ w) (f : i.groups ≡ gs) (g : i.places ≡ placements_of ns es) where
  places_checked : first (ask 14 (leb (length (placements_of ns es)) 6144) ∷ first_misplaced w gs 0 (placements_of ns es) ∷ []) ≡ first (place_checks i)
  unfolding place_checks
  places_checked = rw (← e, ← f, ← g) refl

  pub places_many : 6144 < length (placements_of ns es) → some (refusal 14) ≡ first (place_checks i)
  unfolding ask first
  places_many h = (rw (lt-leb (length (placements_of ns es)) 6144 h)) ∙ places_checked

  module _ (h : length (placements_of ns es) ≤ 6144) (r : ℕ) (m : Misplaced w gs ns es (wholes ns es) r) where
    pub place_refused : r < length (placements_of ns es) → some (record { number = 15; values = r ∷ [] }) ≡ first (place_checks i)
    unfolding ask first
    place_refused l = (rw (le-leb (length (placements_of ns es)) 6144 h, misplaced_found ns es w gs r m l)) ∙ places_checked

    pub places_pass : length (placements_of ns es) ≤ r → none ≡ first (place_checks i)
    unfolding ask first
    places_pass l = (rw (le-leb (length (placements_of ns es)) 6144 h, all_placed ns es w gs r m l)) ∙ places_checked
