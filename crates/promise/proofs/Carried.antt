-- What is carried through a list of calls: record and store are those of the begun search after some number of evaluations. A refused call and a reading leave
-- them as they were; an accepted step reads back the search that was laid out and lays out the search after so many evaluations more. The table of the begin fits, and
-- with it every accepted step goes over the same order.
use Prim.Native.Nat.{ℕ, ◌+◌, ◌≤◌}
use mathlib.Core.Path.{◌≡◌, refl, sym, ◌∙◌, ap, subst}
use mathlib.Core.Bool.{Bool, true, false}
use mathlib.Core.Option.{Option, none, some, none-ne-some}
use mathlib.Core.List.{List}
use native.Mathlib.Omega.{arith}
use lib.IntN.{ℤ}
use lib.ListN.{length}
use Rattle.base_model.specs.Answers.{Said, first}
use Rattle.base_model.specs.declared.Limits.{Limits}
use Rattle.ground_rects.specs.Windows.{position_of}
use Rattle.rule_routes.specs.Edges.{Step, steps_of, each_once, table_fits}
use Rattle.rule_layouts.specs.Inputs.{Inputs, board_of}
use Rattle.rule_layouts.proofs.Regular.{regular_board}
use Rattle.rule_search.specs.State.{State}
use Rattle.rule_search.specs.Frames.{step, begun}
use Rattle.rule_search.specs.Formed.{Good}
use Rattle.rule_search.proofs.Steps.{step_add}
use Rattle.rule_search.proofs.Exhaustive.{Exact, search_exact}
use Rattle.rule_search.proofs.Formed.{begun_good}
use Rattle.rule_calls.specs.Areas.{Work, Store, state_of, record_of, store_of}
use Rattle.rule_calls.specs.Calls.{After, begin_over, begin_call, plan_of, step_checks, step_over, step_call}
use Rattle.rule_calls.proofs.StepLaws.{Fair, keeps, step_passed, left, step_checks_lem, step_is, left_reads, begin_is, begin_accepted}
use Rattle.rule_calls.proofs.Tables.{table_once, begin_over_lem, step_over_lem}
use Rattle.promise.specs.Promise.{Call, stepping, reading, Held, leaves, after, HasTable, Faithful, answer_to, inputs_in, limits_in}

-- a refused step leaves all as it was
refused : (t : List ℤ) (j : Inputs) (m : Limits) (h : Held) (n : ℕ) (work : Work) (r : Said)
    → answer_to h (stepping t j m n work) ≡ some r → after h (stepping t j m n work) ≡ h
unfolding after leaves answer_to step_call step_over
refused t j m h n work r a = go (table_fits t) refl (first (step_checks j m h.rec work h.store)) refl
  where
    go : (b : Bool) → table_fits t ≡ b → (o : Option Said) → first (step_checks j m h.rec work h.store) ≡ o → after h (stepping t j m n work) ≡ h
    go false f o e = rw (after, step_call, f) refl
    go true f none e = absurd (none-ne-some r (rw (answer_to, step_call, f, step_over, e) at a))
    go true f (some x) e = rw (after, step_call, f, step_over, e) refl

module _ (table : List ℤ) (fits : table_fits table ≡ true) (i : Inputs) (l : Limits) where
  abbrev steps : List Step
  steps = steps_of table

  once : each_once (steps_of table) ≡ true
  once = table_once table fits

  -- the begun search after n evaluations
  abbrev pub searched : ℕ → State
  searched n = step (plan_of (steps_of table) i l) n begun

  abbrev pub shown : State → Store → Held
  shown s a = record { rec = record_of (length i.places) s; store = store_of i l s a }

  -- after some number of evaluations, at least `least`
  pub record Carried (least : ℕ) (h : Held) : Type 0 where
    pub evaluations : ℕ
    pub enough : least ≤ evaluations
    pub over : Store
    pub same : h ≡ shown (searched evaluations) over

  module _ (fair : Fair i l) where
    pub good : (n : ℕ) → Good (board_of steps i) (plan_of steps i l) (searched n)
    unfolding plan_of
    good n = keeps steps once i l fair n begun (begun_good (board_of steps i) (plan_of steps i l) fair.some)

    pub exact : (n : ℕ) → Exact (board_of steps i) (position_of i.query.window) (searched n)
    unfolding plan_of
    exact n =
        search_exact (board_of steps i) (position_of i.query.window) (plan_of steps i l) (record { evaluates = λ s. refl })
        (regular_board steps i once fair.start_in fair.end_in) n

    -- ---- one call
    pub stepped : (least : ℕ) (h : Held) (n : ℕ) (work : Work) → answer_to h (stepping table i l n work) ≡ none → Carried least h
        → Carried (least + n) (after h (stepping table i l n work))
    unfolding after leaves left answer_to
    stepped least h n work e v =
        let same = step_over_lem table fits i l h.rec n work h.store in
        let passes = step_checks_lem steps once i l h.rec work h.store n (sym (ap (λ (x : After). x.answer) same) ∙ e) in
        let s = searched v.evaluations in
        let p = plan_of steps i l in
        let read = ap (λ (x : Held). state_of x.rec x.store) v.same ∙ left_reads steps once i l s (good v.evaluations) work v.over in
        record {
          evaluations = v.evaluations + n;
          enough = (let k = v.enough in omega arith);
          over = h.store;
          same = ap leaves (same ∙ step_is steps once i l h.rec work h.store passes n)
              ∙ ap (λ (t : State). shown (step p n t) h.store) read
              ∙ ap (λ (t : State). shown t h.store) (sym (step_add p v.evaluations n begun));
        }

    fewer : (least n : ℕ) {h : Held} → Carried (least + n) h → Carried least h
    fewer least n v = record { evaluations = v.evaluations; enough = (let k = v.enough in omega arith); over = v.over; same = v.same }

    pub carries : (least : ℕ) (h : Held) (c : Call) → Faithful table i l h c → Carried least h → Carried least (after h c)
    unfolding after Faithful answer_to HasTable inputs_in limits_in
    carries least h (reading j m k) f v = v
    carries least h (stepping t j m n work) f v = go (answer_to h (stepping t j m n work)) refl
      where
        go : (o : Option Said) → answer_to h (stepping t j m n work) ≡ o → Carried least (after h (stepping t j m n work))
        go (some r) e = subst (Carried least) (sym (refused t j m h n work r e)) v
        go none e =
            let b = f e in
            subst (λ (t : List ℤ). answer_to h (stepping t j m n work) ≡ none → Carried least (after h (stepping t j m n work))) (sym b.0)
            (subst (λ (x : Inputs). answer_to h (stepping table x m n work) ≡ none → Carried least (after h (stepping table x m n work))) (sym b.1)
            (subst (λ (y : Limits). answer_to h (stepping table i y n work) ≡ none → Carried least (after h (stepping table i y n work))) (sym b.2)
            (λ q. fewer least n (stepped least h n work q v)))) e

  -- ---- begin
  module _ (work : Work) (store : Store) (yes₀ : (begin_call table i l work store).answer ≡ none) where
    begin_order : begin_call table i l work store ≡ begin_over steps i l work store
    begin_order = begin_over_lem table fits i l work store

    yes : (begin_over steps i l work store).answer ≡ none
    yes = sym (ap (λ (x : After). x.answer) begin_order) ∙ yes₀

    pub begin_fair : Fair i l
    begin_fair =
        let a = begin_over steps i l work store in
        let e = step_checks_lem steps once i l a.rec a.work a.store 0 (begin_accepted steps once i l work store yes 0) in
        (step_passed steps once i l a.rec a.work a.store e).fair

    pub begin_carried : Carried 0 (leaves (begin_call table i l work store))
    unfolding leaves left step
    begin_carried = record { evaluations = 0; enough = omega arith; over = store; same = ap leaves (begin_order ∙ begin_is steps once i l work store yes) }
