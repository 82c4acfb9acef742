-- Begin, and the text that its answer makes of the search. Assumes nothing.
use Prim.Native.Nat.{ℕ, ◌≤◌}
use mathlib.Core.Path.{◌≡◌, refl, sym, ap, ◌∙◌, subst}
use mathlib.Core.Option.{Option, none, some, none-ne-some}
use mathlib.Core.List.{List}
use native.Mathlib.Omega.{arith}
use lib.IntN.{ℤ}
use lib.ListN.{length}
use Rattle.base_laws.specs.Lists.{total}
use Rattle.base_model.specs.Answers.{Said, first, said_of}
use Rattle.base_model.specs.declared.Refusal.{Refusal}
use Rattle.base_model.specs.declared.Limits.{Limits}
use Rattle.base_model.specs.declared.Record.{Record}
use Rattle.rule_routes.specs.Edges.{Step, steps_of}
use Rattle.rule_layouts.specs.Inputs.{Inputs}
use Rattle.rule_search.specs.Frames.{begun}
use Rattle.rule_search.specs.State.{state}
use Rattle.rule_calls.specs.Areas.{Work, Store, record_of}
use Rattle.rule_calls.specs.Calls.{After, begin_checks, begin_over, begin_call}
use Rattle.rule_calls.proofs.Whole.{Shape}
use Rattle.rule_calls.proofs.Shapes.{begin_shape}
use Rattle.rule_calls.proofs.Sound.{long}
use Rattle.rule_calls.proofs.StepLaws.{left, begin_is}
use Rattle.rule_calls.proofs.Tables.{table_once, begin_over_lem, begin_table}
use Rattle.call_checks.proofs.Passed.{begun_found}
use Rattle.sheet_texts.specs.Parts.{enough, Front}
use Rattle.sheet_texts.specs.Texts.{refusal_text}
use Rattle.text_forms.specs.Writing.{Put}
use Rattle.sheet_rule.specs.Drive.{step_text}
use Rattle.sheet_finish.specs.Inner.{Steppable}
use Rattle.sheet_finish.proofs.Kept.{points_kept}
use Rattle.sheet_texts.proofs.Fronts.{in_front, refusal_short}

-- an accepted begin passed its first checks
begun_passed : (steps : List Step) (i : Inputs) (l : Limits) (work : Work) (store : Store) → (begin_over steps i l work store).answer ≡ none
    → first (begin_checks i l work store) ≡ none
unfolding begin_over
begun_passed steps i l work store ok = go (first (begin_checks i l work store)) refl
  where
    go : (o : Option Said) → first (begin_checks i l work store) ≡ o → first (begin_checks i l work store) ≡ none
    go none q = q
    go (some x) q = absurd (let h : some x ≡ none = rw (begin_over, q) at ok in none-ne-some x (sym h))

module _ (table : List ℤ) (i : Inputs) (l : Limits) (work : Work) (store : Store) (r : Record) (work' : Work) (store' : Store) where
  pub search_refused : (before out : List ℕ) (n : ℕ) (x : Refusal) → begin_call table i l work store ≡ record { answer = some (said_of x); rec = r; work = work'; store = store' }
      → enough ≤ length before → Put (refusal_text (said_of x)) before 0 out n → Front (step_text table i l (begin_call table i l work store)) before out n
  unfolding step_text
  search_refused before out n x e room h =
      let same : step_text table i l (begin_call table i l work store) ≡ refusal_text (said_of x) = ap (step_text table i l) e in
      subst (λ (w : List ℕ). Front w before out n) (sym same) (in_front (refusal_text (said_of x)) before out n (omega (arith, refusal_short x)) h)

  -- ---- a begin, then the step
  module _ (e : begin_call table i l work store ≡ record { answer = none; rec = r; work = work'; store = store' }) where
    pub search_steppable : (out : List ℕ) → length store.points ≤ 16384 → enough ≤ length out → Steppable r store'.points out
    unfolding left record_of begun state total
    search_steppable out few room =
        let fits = begin_table table i l work store (ap (λ (x : After). x.answer) e) in
        let steps = steps_of table in
        let once = table_once table fits in
        let over = sym (begin_over_lem table fits i l work store) ∙ e in
        let ok : (begin_over steps i l work store).answer ≡ none = ap (λ (x : After). x.answer) over in
        let s : Shape r = subst (λ (x : After). Shape x.rec) over (begin_shape steps once i l work store ok) in
        let is : record { answer = none; rec = r; work = work'; store = store' } ≡ left steps once i l begun work store = sym over ∙ begin_is steps once i l work store ok in
        let areas = long i l store (begun_found i l work store (begun_passed steps i l work store ok)).store_long in
        let kept = points_kept i l begun store (record_of (length i.places) begun) refl (omega arith) areas.points in
        record {
          routes = s.routes;
          lengths = s.lengths;
          nexts = s.nexts;
          few = omega (arith, few, kept, ap (λ (x : After). length x.store.points) is);
          room = room;
        }

    pub search_finished : (before out : List ℕ) (n : ℕ) → Front (step_text table i l (record { answer = none; rec = r; work = work'; store = store' })) before out n
        → Front (step_text table i l (begin_call table i l work store)) before out n
    search_finished before out n h = subst (λ (x : After). Front (step_text table i l x) before out n) (sym e) h
