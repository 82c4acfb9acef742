-- The laws of step through record and areas: what an accepted begin or step leaves is accepted by the next calls with the same inputs; a and then b is a + b;
-- after a stop and for zero nothing that is used changes; a step by n hands exactly n sets to the evaluation, or at most n and the search stops, and it looks at
-- no other evaluation. Each is the law of the search on the state that record and areas hold, which is read back from what the step leaves.
use Prim.Native.Nat.{ℕ, zero, suc, ◌+◌, ◌≤◌, ◌<◌}
use mathlib.Core.Path.{◌≡◌, refl, sym, ◌∙◌, ap, subst}
use mathlib.Core.Bool.{Bool, true, false, ◌&&◌}
use mathlib.Core.Logic.{◌⊎◌, inl, inr, ⊎_elim, ◌≢◌}
use mathlib.Core.Option.{Option, none, some}
use mathlib.Core.List.{List, [], ◌∷◌, ◌++◌, Memᴰ}
use native.Mathlib.Omega.{arith}
use lib.Dec.{leb, ltb}
use lib.ListN.{length, get_or, length-append, length-map}
use borrow.Author.Tests.{leb-true, ltb-true, lt-ltb}
use Rattle.base_laws.specs.Lists.{all_of, below, total}
use Rattle.base_laws.proofs.Members.{both}
use Rattle.base_laws.proofs.Lists.{length_below}
use Rattle.base_model.specs.Answers.{Said, ask, first}
use Rattle.base_model.specs.declared.Rect.{Rect}
use Rattle.base_model.specs.declared.Position.{Position}
use Rattle.base_model.specs.declared.Placement.{Placement}
use Rattle.base_model.specs.declared.Limits.{Limits}
use Rattle.base_model.specs.declared.Record.{Record}
use Rattle.ground_rects.specs.Rects.{nonempty, holds}
use Rattle.ground_rects.specs.Windows.{window_fits, in_window, position_of}
use Rattle.rule_routes.specs.Edges.{Step, each_once}
use Rattle.rule_layouts.specs.Inputs.{Inputs, no_place, board_of}
use Rattle.rule_layouts.specs.Explore.{Outcome}
use Rattle.rule_layouts.proofs.Fits.{fits_six}
use Rattle.rule_layouts.proofs.Regular.{regular_board}
use Rattle.rule_search.specs.State.{Running, State, state}
use Rattle.rule_search.specs.Frames.{step, begun}
use Rattle.rule_search.specs.Formed.{PlanOn, Good}
use Rattle.rule_search.proofs.Steps.{step_zero, step_add, step_stopped, handed, exactly_n, evaluating, step_only}
use Rattle.rule_search.proofs.Formed.{step_good, begun_good}
use Rattle.rule_calls.specs.Areas.{Work, Store, bases_fit, work_fits, store_fits, cleared, number_of, reason_of, row_of, state_of, record_of, store_of}
use Rattle.rule_calls.specs.Checks.{group_checks, limit_checks, query_checks, place_checks, placement_fits, first_misplaced, movers_small}
use Rattle.rule_calls.specs.RecordCheck.{record_fits}
use Rattle.rule_calls.specs.Calls.{After, begin_checks, both_routes, begin_over, plan_of, step_checks, step_over, read_checks, read_call}
use Rattle.rule_calls.proofs.Back.{state_back, reason_back}
use Rattle.rule_calls.proofs.Sound.{sound}
use Rattle.rule_calls.proofs.Whole.{Shape}
use Rattle.rule_calls.proofs.Checked.{running_is, checked_good}
use Rattle.rule_calls.proofs.Accepted.{good_room, accepted}
use Rattle.rule_calls.proofs.Again.{work_long_lem, store_long, cleared_again, store_again}

-- ---- lists of checks
pub first_both : (xs ys : List (Option Said)) → first (xs ++ ys) ≡ none → (first xs ≡ none) × (first ys ≡ none)
unfolding first
first_both [] ys e = (refl, e)
first_both (none ∷ xs) ys e = first_both xs ys e
first_both (some r ∷ xs) ys e = absurd (let z : ◌≡◌ {A = ℕ} 0 1 = cc in let w : ⊥ = omega arith in w)

both_first : (xs ys : List (Option Said)) → first xs ≡ none → first ys ≡ none → first (xs ++ ys) ≡ none
unfolding first
both_first [] ys e f = f
both_first (none ∷ xs) ys e f = both_first xs ys e f
both_first (some r ∷ xs) ys e f = absurd (let z : ◌≡◌ {A = ℕ} 0 1 = cc in let w : ⊥ = omega arith in w)

asked : (n : ℕ) (b : Bool) (cs : List (Option Said)) → first (ask n b ∷ cs) ≡ none → (b ≡ true) × (first cs ≡ none)
unfolding first ask
asked n true cs e = (refl, e)
asked n false cs e = absurd (let z : ◌≡◌ {A = ℕ} 0 1 = cc in let w : ⊥ = omega arith in w)

placed : (w : Rect) (groups : List ℕ) (j : ℕ) (ps : List Placement) (cs : List (Option Said)) → first (first_misplaced w groups j ps ∷ cs) ≡ none
    → (k : ℕ) → k < length ps → (get_or ps k no_place).group < length groups
unfolding first first_misplaced placement_fits
placed w groups j [] cs e k h = absurd (omega arith)
placed w groups j (p ∷ ps) cs e k h = go (placement_fits w groups p) refl e k h (placed w groups (suc j) ps cs)
  where
    go : (b : Bool) → placement_fits w groups p ≡ b
        → first (elim b [ true ↦ first_misplaced w groups (suc j) ps | false ↦ some (record { number = 15; values = j ∷ [] }) ] ∷ cs) ≡ none
        → (k : ℕ) → k < suc (length ps) → (first (first_misplaced w groups (suc j) ps ∷ cs) ≡ none → (k : ℕ) → k < length ps → (get_or ps k no_place).group < length groups)
        → (get_or (p ∷ ps) k no_place).group < length groups
    go true t e zero h ih =
        let a = both (leb p.spec 5 && ltb p.group (length groups) && nonempty p.footprint && nonempty p.collision) (holds w p.footprint) t in
        let b = both (leb p.spec 5 && ltb p.group (length groups) && nonempty p.footprint) (nonempty p.collision) a.0 in
        let c = both (leb p.spec 5 && ltb p.group (length groups)) (nonempty p.footprint) b.0 in
        ltb-true p.group (length groups) (both (leb p.spec 5) (ltb p.group (length groups)) c.0).1
    go true t e (suc k) h ih = ih e k (omega arith)
    go false t e k h ih = absurd (let z : ◌≡◌ {A = ℕ} 0 1 = cc in let w : ⊥ = omega arith in w)

-- what begin's checks and those of the placements have found
pub record Fair (i : Inputs) (l : Limits) : Type 0 where
  pub slots : total i.groups ≤ 6
  pub room : 1 ≤ l.states
  pub some : 1 ≤ l.results
  pub few : l.results ≤ 32
  pub start_in : in_window i.query.window i.query.start ≡ true
  pub end_in : in_window i.query.window i.query.end ≡ true
  pub grouped : (k : ℕ) → k < length i.places → (get_or i.places k no_place).group < length i.groups

pub fair : (i : Inputs) (l : Limits) (long : Bool) → first (group_checks i ++ limit_checks l ++ query_checks i long) ≡ none → first (place_checks i) ≡ none → (long ≡ true) × Fair i l
unfolding group_checks limit_checks query_checks place_checks
fair i l long e f =
    let a = first_both (group_checks i ++ limit_checks l) (query_checks i long) e in
    let b = first_both (group_checks i) (limit_checks l) a.0 in
    let g = asked 10 (leb (length i.groups) 6 && all_of (λ (k : ℕ). leb 1 k && leb k 6) i.groups && leb (total i.groups) 6) [] b.0 in
    let h = both (leb (length i.groups) 6 && all_of (λ (k : ℕ). leb 1 k && leb k 6) i.groups) (leb (total i.groups) 6) g.0 in
    let s = asked 11 (leb 1 l.states && leb l.states 100000) (ask 12 (leb 1 l.results && leb l.results 32) ∷ []) b.1 in
    let r = asked 12 (leb 1 l.results && leb l.results 32) [] s.1 in
    let m = both (leb 1 l.results) (leb l.results 32) r.0 in
    let w = asked 2 (window_fits 8192 8192 i.query.window) _ a.1 in
    let x = asked 3 (in_window i.query.window i.query.start && in_window i.query.window i.query.end) _ w.1 in
    let y = both (in_window i.query.window i.query.start) (in_window i.query.window i.query.end) x.0 in
    let z = asked 4 (movers_small i) _ x.1 in
    let u = asked 6 (bases_fit i && long) [] z.1 in
    let p = asked 14 (leb (length i.places) 6144) (first_misplaced i.query.window i.groups 0 i.places ∷ []) f in (
      (both (bases_fit i) long u.0).1,
      record {
        slots = leb-true (total i.groups) 6 h.1;
        room = leb-true 1 l.states (both (leb 1 l.states) (leb l.states 100000) s.0).0;
        some = leb-true 1 l.results m.0;
        few = leb-true l.results 32 m.1;
        start_in = y.0;
        end_in = y.1;
        grouped = placed i.query.window i.groups 0 i.places [] p.1;
      },
    )

module _ (steps : List Step) (once : each_once steps ≡ true) (i : Inputs) (l : Limits) where
  plan_on : PlanOn (board_of steps i) (position_of i.query.window) (plan_of steps i l)
  unfolding plan_of
  plan_on = record { evaluates = λ s. refl }

  -- every step keeps the form, on inputs that begin lets pass
  pub keeps : Fair i l → (n : ℕ) (s : State) → Good (board_of steps i) (plan_of steps i l) s → Good (board_of steps i) (plan_of steps i l) (step (plan_of steps i l) n s)
  unfolding board_of
  keeps f n s g =
      step_good (board_of steps i) (position_of i.query.window) (plan_of steps i l) plan_on (regular_board steps i once f.start_in f.end_in)
      (fits_six i.groups i.places f.grouped f.slots) n s g

  -- ---- what the checks of a step have found
  pub record Passed (r : Record) (work : Work) (store : Store) : Type 0 where
    pub fair : Fair i l
    pub begins : first (group_checks i ++ limit_checks l ++ query_checks i true) ≡ none
    pub places : first (place_checks i) ≡ none
    pub works : work_fits i.query.window work ≡ true
    pub areas : store_fits i l store ≡ true
    pub fits : record_fits i r store l ≡ true

  pub step_passed : (r : Record) (work : Work) (store : Store) → first (step_checks i l r work store) ≡ none → Passed r work store
  unfolding step_checks begin_checks
  step_passed r work store e =
      let long : Bool = work_fits i.query.window work && store_fits i l store in
      let a = first_both (begin_checks i l work store ++ place_checks i) (ask 16 (record_fits i r store l) ∷ []) e in
      let b = first_both (begin_checks i l work store) (place_checks i) a.0 in
      let f = fair i l long b.0 b.1 in
      let m = both (work_fits i.query.window work) (store_fits i l store) f.0 in
      record { fair = f.1; begins = rw f.0 at b.0; places = b.1; works = m.0; areas = m.1; fits = (asked 16 (record_fits i r store l) [] a.1).0 }

  -- other areas that are long enough and another record that fits pass too
  passes : (t : Record) (work : Work) (store : Store) → first (group_checks i ++ limit_checks l ++ query_checks i true) ≡ none → first (place_checks i) ≡ none
      → work_fits i.query.window work ≡ true → store_fits i l store ≡ true → record_fits i t store l ≡ true → first (step_checks i l t work store) ≡ none
  unfolding step_checks begin_checks first ask
  passes t work store b p w s f =
      both_first (begin_checks i l work store ++ place_checks i) (ask 16 (record_fits i t store l) ∷ [])
      (both_first (begin_checks i l work store) (place_checks i) (rw (w, s) b) p) (rw f refl)

  -- ---- what a step leaves
  unfoldable pub left : State → Work → Store → After
  left s work store = record { answer = none; rec = record_of (length i.places) s; work = cleared i.query.window work; store = store_of i l s store }

  module _ (r : Record) (work : Work) (store : Store) where
    pub step_checks_lem : (n : ℕ) → (step_over steps i l r n work store).answer ≡ none → first (step_checks i l r work store) ≡ none
    unfolding step_over
    step_checks_lem n e = go (first (step_checks i l r work store)) refl
      where
        go : (o : Option Said) → first (step_checks i l r work store) ≡ o → first (step_checks i l r work store) ≡ none
        go none q = q
        go (some x) q = absurd (let h : some x ≡ none = rw (step_over, q) at e in let z : ◌≡◌ {A = ℕ} 0 1 = cc in let w : ⊥ = omega arith in w)

    pub step_is : first (step_checks i l r work store) ≡ none → (n : ℕ) → step_over steps i l r n work store ≡ left (step (plan_of steps i l) n (state_of r store)) work store
    unfolding step_over left
    step_is e n = rw (step_over, e)

  -- what is left of a search of the form is let in again, and read as it was
  module _ (s : State) (g : Good (board_of steps i) (plan_of steps i l) s) (work : Work) (store : Store) where
    pub left_reads : state_of (left s work store).rec (left s work store).store ≡ s
    unfolding left
    left_reads = state_back i l s store (good_room steps i l s g)

    pub left_passes : first (group_checks i ++ limit_checks l ++ query_checks i true) ≡ none → first (place_checks i) ≡ none
        → first (step_checks i l (left s work store).rec (left s work store).work (left s work store).store) ≡ none
    unfolding left
    left_passes b p =
        passes (record_of (length i.places) s) (cleared i.query.window work) (store_of i l s store) b p (work_long_lem i.query.window work) (store_long i l s store)
        (accepted steps i l s g store)

    left_again : (t : State) → left t (left s work store).work (left s work store).store ≡ left t work store
    unfolding left
    left_again t =
        let e1 = store_again steps i l s g t store in
        let e2 = cleared_again i.query.window work in
        cc

    left_readable : first (group_checks i ++ limit_checks l ++ query_checks i true) ≡ none → first (place_checks i) ≡ none
        → (k : ℕ) → k < (left s work store).rec.layouts → (read_call i l (left s work store).rec k (left s work store).store).answer ≡ none
    unfolding left read_call read_checks first ask
    left_readable b p k h =
        let f = accepted steps i l s g store in
        let c : first (read_checks i l (record_of (length i.places) s) k (store_of i l s store)) ≡ none =
        both_first (group_checks i ++ limit_checks l ++ query_checks i (store_fits i l (store_of i l s store)) ++ place_checks i)
        (ask 16 (record_fits i (record_of (length i.places) s) (store_of i l s store) l) ∷ ask 17 (ltb k (record_of (length i.places) s).layouts) ∷ [])
        (both_first (group_checks i ++ limit_checks l ++ query_checks i (store_fits i l (store_of i l s store))) (place_checks i) (rw (store_long i l s store) b) p)
        (rw (f, lt-ltb k (record_of (length i.places) s).layouts h) refl) in
        rw (read_call, c)

  -- ---- the laws, on a record and areas that step accepts
  module _ (r : Record) (work : Work) (store : Store) (shape : Shape r) (n₀ : ℕ) (yes₀ : (step_over steps i l r n₀ work store).answer ≡ none) where
    found : Passed r work store
    found = step_passed r work store (step_checks_lem r work store n₀ yes₀)

    is : (n : ℕ) → step_over steps i l r n work store ≡ left (step (plan_of steps i l) n (state_of r store)) work store
    is = step_is r work store (step_checks_lem r work store n₀ yes₀)

    good : (n : ℕ) → Good (board_of steps i) (plan_of steps i l) (step (plan_of steps i l) n (state_of r store))
    good n = keeps found.fair n (state_of r store) (checked_good steps i l r store shape found.fair.few found.areas found.fits)

    -- the answer does not depend on the number
    pub step_any : (n : ℕ) → (step_over steps i l r n work store).answer ≡ none
    unfolding left
    step_any n = ap (λ (x : After). x.answer) (is n)

    after_step : (a b : ℕ) → step_over steps i l (step_over steps i l r a work store).rec b (step_over steps i l r a work store).work (step_over steps i l r a work store).store
        ≡ left (step (plan_of steps i l) (a + b) (state_of r store)) work store
    after_step a b =
        let p = plan_of steps i l in
        let s = step p a (state_of r store) in
        let x = left s work store in
        ap (λ (x : After). step_over steps i l x.rec b x.work x.store) (is a)
        ∙ step_is x.rec x.work x.store (left_passes s (good a) work store found.begins found.places) b
        ∙ ap (λ (t : State). left (step p b t) x.work x.store) (left_reads s (good a) work store)
        ∙ left_again s (good a) work store (step p b s)
        ∙ ap (λ (t : State). left t work store) (sym (step_add p a b (state_of r store)))

    -- what a step leaves is accepted by the next, with any number, and each of its layouts can be read
    pub step_accepted : (n m : ℕ) → (step_over steps i l (step_over steps i l r n work store).rec m (step_over steps i l r n work store).work (step_over steps i l r n work store).store).answer ≡ none
    unfolding left
    step_accepted n m = ap (λ (x : After). x.answer) (after_step n m)

    pub step_readable : (n k : ℕ) → k < (step_over steps i l r n work store).rec.layouts
        → (read_call i l (step_over steps i l r n work store).rec k (step_over steps i l r n work store).store).answer ≡ none
    step_readable n k h =
        let s = step (plan_of steps i l) n (state_of r store) in
        subst (λ (x : After). k < x.rec.layouts → (read_call i l x.rec k x.store).answer ≡ none) (sym (is n))
        (left_readable s (good n) work store found.begins found.places k) h

    -- a and then b is a + b
    pub step_joins : (a b : ℕ)
        → step_over steps i l (step_over steps i l r a work store).rec b (step_over steps i l r a work store).work (step_over steps i l r a work store).store
        ≡ step_over steps i l r (a + b) work store
    step_joins a b = after_step a b ∙ sym (is (a + b))

    -- after a stop and for zero no used entry changes
    pub step_stays : (n : ℕ) → (n ≡ 0) ⊎ (r.reason ≢ number_of Running) → state_of (step_over steps i l r n work store).rec (step_over steps i l r n work store).store ≡ state_of r store
    unfolding state_of state number_of
    step_stays n o =
        ap (λ (x : After). state_of x.rec x.store) (is n)
        ∙ left_reads (step (plan_of steps i l) n (state_of r store)) (good n) work store
        ∙ ⊎_elim
        (λ (e : n ≡ 0). ap (λ (m : ℕ). step (plan_of steps i l) m (state_of r store)) e ∙ step_zero (plan_of steps i l) (state_of r store))
        (λ (d : r.reason ≢ number_of Running). step_stopped (plan_of steps i l) n (state_of r store) (λ e. d (running_is r.reason (sound i r store l found.fits).low e)))
        o

    -- What a step by n hands to the evaluation: the visited rows that record and areas then hold are those held before, followed by the sets handed over, in
    -- order; the record's evaluations grow by so many; those are n, or at most n and the search has stopped.
    pub record Hands (n : ℕ) : Type 0 where
      pub order : (state_of (step_over steps i l r n work store).rec (step_over steps i l r n work store).store).visited
          ≡ (state_of r store).visited ++ handed (plan_of steps i l) n (state_of r store)
      pub grown : (step_over steps i l r n work store).rec.evaluations ≡ r.evaluations + length (handed (plan_of steps i l) n (state_of r store))
      pub count : (length (handed (plan_of steps i l) n (state_of r store)) ≡ n)
          ⊎ ((length (handed (plan_of steps i l) n (state_of r store)) ≤ n) × ((step_over steps i l r n work store).rec.reason ≢ number_of Running))

    pub step_exact : (n : ℕ) → Hands n
    unfolding left record_of state_of state
    step_exact n =
        let p = plan_of steps i l in
        let s = state_of r store in
        let x = exactly_n p n s in
        let v : length s.visited ≡ r.evaluations = length-map (below r.evaluations) (row_of store.visited) ∙ length_below r.evaluations in
        let why : (step_over steps i l r n work store).rec.reason ≡ number_of (step p n s).reason = ap (λ (y : After). y.rec.reason) (is n) in
        record {
          order = ap (λ (y : After). (state_of y.rec y.store).visited) (is n) ∙ ap (λ (t : State). t.visited) (left_reads (step p n s) (good n) work store) ∙ x.order;
          grown =
              ap (λ (y : After). y.rec.evaluations) (is n)
              ∙ omega (arith, ap (λ (q : List (List ℕ)). length q) x.order, length-append s.visited (handed p n s), v);
          count = ⊎_elim inl (λ e. inr (e.0, λ q. e.1 (sym (reason_back (step p n s).reason) ∙ ap reason_of (sym why ∙ q) ∙ reason_back Running))) x.count;
        }

    -- it looks at the evaluation of no other set: another evaluation that agrees on these leads to the same
    pub step_looks : (n : ℕ) (f : List ℕ → Outcome Position)
        → ((w : List ℕ) → Memᴰ w (handed (plan_of steps i l) n (state_of r store)) → f w ≡ (plan_of steps i l).evaluate w)
        → step_over steps i l r n work store ≡ left (step (evaluating (plan_of steps i l) f) n (state_of r store)) work store
    step_looks n f a = is n ∙ ap (λ (t : State). left t work store) (sym (step_only (plan_of steps i l) f n (state_of r store) a))

  -- ---- what an accepted begin leaves is accepted by step, with any number
  module _ (work : Work) (store : Store) (yes₀ : (begin_over steps i l work store).answer ≡ none) where
    begin_checks_lem : (first (begin_checks i l work store) ≡ none) × (first (place_checks i) ≡ none)
    unfolding begin_over
    begin_checks_lem = go (first (begin_checks i l work store)) refl (first (both_routes (board_of steps i) ++ place_checks i)) refl
      where
        go : (o : Option Said) → first (begin_checks i l work store) ≡ o → (o' : Option Said) → first (both_routes (board_of steps i) ++ place_checks i) ≡ o'
            → (first (begin_checks i l work store) ≡ none) × (first (place_checks i) ≡ none)
        go none q none q' = (q, (first_both (both_routes (board_of steps i)) (place_checks i) q').1)
        go none q (some x) q' = absurd (let h : some x ≡ none = rw (begin_over, q, q') at yes₀ in let z : ◌≡◌ {A = ℕ} 0 1 = cc in let w : ⊥ = omega arith in w)
        go (some x) q o q' = absurd (let h : some x ≡ none = rw (begin_over, q) at yes₀ in let z : ◌≡◌ {A = ℕ} 0 1 = cc in let w : ⊥ = omega arith in w)

    pub begin_is : begin_over steps i l work store ≡ left begun work store
    unfolding begin_over left
    begin_is = go (first (both_routes (board_of steps i) ++ place_checks i)) refl
      where
        go : (o : Option Said) → first (both_routes (board_of steps i) ++ place_checks i) ≡ o → begin_over steps i l work store ≡ left begun work store
        go none q = rw (begin_over, begin_checks_lem.0, q)
        go (some x) q = absurd (let h : some x ≡ none = rw (begin_over, begin_checks_lem.0, q) at yes₀ in let z : ◌≡◌ {A = ℕ} 0 1 = cc in let w : ⊥ = omega arith in w)

    pub begin_accepted : (n : ℕ) → (step_over steps i l (begin_over steps i l work store).rec n (begin_over steps i l work store).work (begin_over steps i l work store).store).answer ≡ none
    unfolding begin_checks left plan_of
    begin_accepted n =
        let c = begin_checks_lem in
        let f = fair i l (work_fits i.query.window work && store_fits i l store) c.0 c.1 in
        let g : Good (board_of steps i) (plan_of steps i l) begun = begun_good (board_of steps i) (plan_of steps i l) (some_results_lem f.1) in
        let x = left begun work store in
        ap (λ (x : After). (step_over steps i l x.rec n x.work x.store).answer) begin_is
        ∙ ap (λ (x : After). x.answer) (step_is x.rec x.work x.store (left_passes begun g work store (rw f.0 at c.0) c.1) n)
      where
        some_results_lem : Fair i l → 0 < (plan_of steps i l).results
        some_results_lem f = f.some
