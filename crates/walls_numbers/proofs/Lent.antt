-- The checks on numbers answer as those of the call that the code makes. An empty visited area is too short for any state limit that passes 11, and the record
-- of no search has no reason; where they pass, the numbers are a record and all of the visited area is lent.
use Prim.Native.Nat.{ℕ}
use mathlib.Core.Path.{◌≡◌, refl, sym, ◌∙◌, ap}
use mathlib.Core.Bool.{Bool, true, false, ◌&&◌, and-true, and-false, and_assoc}
use mathlib.Core.Option.{Option, none, some}
use mathlib.Core.List.{List, [], ◌∷◌, ◌++◌}
use native.Mathlib.Omega.{arith}
use lib.Dec.{leb, ltb}
use lib.ListN.{length, get_or, take}
use lib.Seq.{take-length}
use borrow.Author.Tests.{leb-true, leb-false}
use Rattle.base_laws.proofs.Members.{either, both}
use Rattle.base_model.specs.Answers.{Said, ask, first}
use Rattle.base_model.specs.declared.Limits.{Limits}
use Rattle.base_model.specs.declared.Record.{Record}
use Rattle.base_model.proofs.Asking.{ask_passes, first_passes, first_fails}
use Rattle.rule_layouts.specs.Inputs.{Inputs}
use Rattle.rule_calls.specs.Areas.{Work, Store, store_in, work_fits, store_fits}
use Rattle.rule_calls.specs.Checks.{group_checks, limit_checks, query_checks, place_checks}
use Rattle.rule_calls.specs.RecordCheck.{record_fits}
use Rattle.rule_calls.specs.Calls.{no_record, begin_checks, step_checks, read_checks}
use Rattle.rule_calls.proofs.StepLaws.{first_both}
use Rattle.rule_calls.proofs.Sound.{long}
use Rattle.call_checks.specs.Parts.{frame_checks, area_checks}
use Rattle.call_checks.proofs.Asked.{first_then, first_stops, query_parts}
use Rattle.call_checks.proofs.Passed.{limits_found, areas_found}
use Rattle.walls_numbers.specs.Numbers.{record_from}
use Rattle.walls_numbers.specs.Left.{fifty, begin_checks_on, numbers_fit, step_checks_on, read_checks_on}
use Rattle.walls_numbers.specs.Lent.{lent_of, record_in}
use Rattle.walls_numbers.proofs.Fifty.{lent_short, lent_whole, in_whole, in_high}

-- ---- lists of checks that say the same
first_same : (xs ys zs ws : List (Option Said)) → first xs ≡ first ys → (first xs ≡ none → first zs ≡ first ws) → first (xs ++ zs) ≡ first (ys ++ ws)
first_same xs ys zs ws e h = go (first xs) refl
  where
    go : (o : Option Said) → first xs ≡ o → first (xs ++ zs) ≡ first (ys ++ ws)
    go none f = first_then xs zs f ∙ h f ∙ sym (first_then ys ws (sym e ∙ f))
    go (some r) f = first_stops xs zs r f ∙ sym (first_stops ys ws r (sym e ∙ f))

-- where 6 passes, the areas are long enough
areas_long : (i : Inputs) (l : Limits) (b : Bool) → first (group_checks i ++ limit_checks l ++ query_checks i b) ≡ none → b ≡ true
areas_long i l b e =
    let x = (first_both (group_checks i ++ limit_checks l) (query_checks i b) e).1 in
    (areas_found i b (first_both (frame_checks i) (area_checks i b) (ap first (sym (query_parts i b)) ∙ x)).1).others

module _ (i : Inputs) (l : Limits) (ns : List ℕ) (a : Store) where
  -- ---- what has been found where they pass
  -- 16: the numbers are a record
  module _ (h : fifty ns ≡ true) where
    pending_low : leb (get_or ns 5 0) 1 ≡ true → record_in ns ≡ record_from ns
    unfolding fifty
    pending_low t = in_whole ns (leb-true 50 (length ns) h) (leb-true (get_or ns 5 0) 1 t)

    pending_high : leb (get_or ns 5 0) 1 ≡ false → record_in ns ≡ no_record
    unfolding fifty
    pending_high f = in_high ns (leb-true 50 (length ns) h) (leb-false (get_or ns 5 0) 1 f)

    numbers_read : numbers_fit i l ns a ≡ true → record_in ns ≡ record_from ns
    unfolding numbers_fit
    numbers_read t = pending_low (both (leb (get_or ns 5 0) 1) (record_fits i (record_from ns) a l) t).0

  pub begin_fifty : (w : Work) → first (begin_checks_on i l ns w a) ≡ none → fifty ns ≡ true
  unfolding begin_checks_on
  begin_fifty w e = (both (work_fits i.query.window w && store_fits i l a) (fifty ns) (areas_long i l _ e)).1

  pub step_read : (w : Work) → first (step_checks_on i l ns w a) ≡ none → (fifty ns ≡ true) × (record_in ns ≡ record_from ns)
  unfolding step_checks_on
  step_read w e =
      let p = first_both (begin_checks_on i l ns w a ++ place_checks i) (ask 16 (numbers_fit i l ns a) ∷ []) e in
      let h = begin_fifty w (first_both (begin_checks_on i l ns w a) (place_checks i) p.0).0 in
      (h, numbers_read h (ask_passes 16 (numbers_fit i l ns a) (first_passes _ [] p.1).0))

  read_fifty : first (group_checks i ++ limit_checks l ++ query_checks i (store_fits i l a && fifty ns)) ≡ none → fifty ns ≡ true
  read_fifty e = (both (store_fits i l a) (fifty ns) (areas_long i l _ e)).1

  pub read_read : (k : ℕ) → first (read_checks_on i l ns k a) ≡ none → (fifty ns ≡ true) × (record_in ns ≡ record_from ns)
  unfolding read_checks_on
  read_read k e =
      let xs = group_checks i ++ limit_checks l ++ query_checks i (store_fits i l a && fifty ns) in
      let p = first_both (xs ++ place_checks i) _ e in
      let h = read_fifty (first_both xs (place_checks i) p.0).0 in
      (h, numbers_read h (ask_passes 16 (numbers_fit i l ns a) (first_passes _ _ p.1).0))

  -- ---- the code's call
  module _ (room : ℕ) (r : room ≡ lent_of (length ns) (length a.visited)) where
    abbrev lent : Store
    lent = store_in a.lists (take room a.visited) a.layouts a.points

    pub all_lent : fifty ns ≡ true → room ≡ length a.visited
    unfolding fifty
    all_lent t = r ∙ lent_whole (length ns) (length a.visited) (leb-true 50 (length ns) t)

    pub lent_is : fifty ns ≡ true → lent ≡ a
    lent_is t =
        ap (λ (v : List ℕ). store_in a.lists v a.layouts a.points) (ap (λ (k : ℕ). take k a.visited) (all_lent t) ∙ take-length a.visited)

    -- where 11 passes, an empty visited area is too short
    none_fits : fifty ns ≡ false → first (group_checks i ++ limit_checks l) ≡ none → store_fits i l lent ≡ false
    unfolding fifty
    none_fits f e =
        let z : take room a.visited ≡ [] =
        ap (λ (k : ℕ). take k a.visited) (r ∙ lent_short (length ns) (length a.visited) (leb-false 50 (length ns) f)) in
        either (store_fits i l lent)
        (λ t.
        absurd (omega (arith, ap length z, (long i l lent t).visited, (limits_found l (first_both (group_checks i) (limit_checks l) e).1).some_states)))
        (λ s. s)

    store_same : first (group_checks i ++ limit_checks l) ≡ none → store_fits i l a && fifty ns ≡ store_fits i l lent
    store_same e =
        either (fifty ns)
        (λ t. ap (λ (b : Bool). store_fits i l a && b) t ∙ and-true (store_fits i l a) ∙ ap (store_fits i l) (sym (lent_is t)))
        (λ f. ap (λ (b : Bool). store_fits i l a && b) f ∙ and-false (store_fits i l a) ∙ sym (none_fits f e))

    pub begin_same : (w : Work) → first (begin_checks_on i l ns w a) ≡ first (begin_checks i l w lent)
    unfolding begin_checks_on begin_checks
    begin_same w =
        first_same (group_checks i ++ limit_checks l) (group_checks i ++ limit_checks l) _ _ refl
        (λ e.
        ap (λ (b : Bool). first (query_checks i b))
        (and_assoc (work_fits i.query.window w) (store_fits i l a) (fifty ns) ∙ ap (λ (b : Bool). work_fits i.query.window w && b) (store_same e)))

    numbers_same : fifty ns ≡ true → numbers_fit i l ns a ≡ record_fits i (record_in ns) lent l
    unfolding numbers_fit record_fits no_record
    numbers_same h =
        either (leb (get_or ns 5 0) 1)
        (λ t.
        ap (λ (b : Bool). b && record_fits i (record_from ns) a l) t
        ∙ ap (λ (x : Record). record_fits i x a l) (sym (pending_low h t))
        ∙ ap (λ (s : Store). record_fits i (record_in ns) s l) (sym (lent_is h)))
        (λ f. ap (λ (b : Bool). b && record_fits i (record_from ns) a l) f ∙ sym (ap (λ (x : Record). record_fits i x lent l) (pending_high h f)))

    pub step_same : (w : Work) → first (step_checks_on i l ns w a) ≡ first (step_checks i l (record_in ns) w lent)
    unfolding step_checks_on step_checks
    step_same w =
        first_same (begin_checks_on i l ns w a ++ place_checks i) (begin_checks i l w lent ++ place_checks i) _ _
        (first_same (begin_checks_on i l ns w a) (begin_checks i l w lent) (place_checks i) (place_checks i) (begin_same w) (λ _. refl))
        (λ e.
        ap (λ (b : Bool). first (ask 16 b ∷ [])) (numbers_same (begin_fifty w (first_both (begin_checks_on i l ns w a) (place_checks i) e).0)))

    pub read_same : (k : ℕ) → first (read_checks_on i l ns k a) ≡ first (read_checks i l (record_in ns) k lent)
    unfolding read_checks_on read_checks
    read_same k =
        let xs = group_checks i ++ limit_checks l ++ query_checks i (store_fits i l a && fifty ns) in
        let ys = group_checks i ++ limit_checks l ++ query_checks i (store_fits i l lent) in
        first_same (xs ++ place_checks i) (ys ++ place_checks i) _ _
        (first_same xs ys (place_checks i) (place_checks i)
        (first_same (group_checks i ++ limit_checks l) (group_checks i ++ limit_checks l) _ _ refl
        (λ e. ap (λ (b : Bool). first (query_checks i b)) (store_same e))) (λ _. refl))
        (λ e. last (read_fifty (first_both xs (place_checks i) e).0))
      where
        last : fifty ns ≡ true
            → first (ask 16 (numbers_fit i l ns a) ∷ ask 17 (ltb k (record_from ns).layouts) ∷ [])
            ≡ first (ask 16 (record_fits i (record_in ns) lent l) ∷ ask 17 (ltb k (record_in ns).layouts) ∷ [])
        last h =
            either (numbers_fit i l ns a)
            (λ t.
            ap (λ (b : Bool). first (ask 16 b ∷ ask 17 (ltb k (record_from ns).layouts) ∷ [])) (numbers_same h)
            ∙ ap (λ (x : Record). first (ask 16 (record_fits i (record_in ns) lent l) ∷ ask 17 (ltb k x.layouts) ∷ [])) (sym (numbers_read h t)))
            (λ f. first_fails 16 _ _ f ∙ sym (first_fails 16 _ _ (sym (numbers_same h) ∙ f)))
