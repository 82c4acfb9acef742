-- One step of a begun search and the text of what it leaves. Assumes nothing.
use Prim.Native.Nat.{ℕ, ◌≤◌, ◌<◌}
use mathlib.Core.Path.{◌≡◌, refl, sym, ap, ◌∙◌, subst}
use mathlib.Core.Option.{none, some}
use mathlib.Core.List.{List}
use lib.IntN.{ℤ}
use native.Mathlib.Omega.{arith}
use lib.ListN.{length}
use Rattle.base_model.specs.Answers.{said_of}
use Rattle.base_model.specs.declared.Refusal.{Refusal}
use Rattle.base_model.specs.declared.Limits.{Limits}
use Rattle.base_model.specs.declared.Record.{Record}
use Rattle.rule_routes.specs.Edges.{steps_of}
use Rattle.rule_layouts.specs.Inputs.{Inputs}
use Rattle.rule_search.specs.Frames.{step}
use Rattle.rule_search.specs.State.{State}
use Rattle.rule_calls.specs.Areas.{Work, Store, state_of}
use Rattle.rule_calls.specs.Calls.{After, plan_of, step_call}
use Rattle.rule_calls.proofs.Whole.{Shape}
use Rattle.rule_calls.proofs.Sound.{sound, long}
use Rattle.rule_calls.proofs.StepLaws.{left, step_checks_lem, step_is, step_passed}
use Rattle.rule_calls.proofs.Tables.{table_once, step_over_lem, step_table, call_step_accepted}
use Rattle.sheet_texts.specs.Parts.{enough, Front, Writable}
use Rattle.sheet_texts.specs.Texts.{refusal_text, result_text}
use Rattle.sheet_texts.proofs.Lengths.{Words, result_short}
use Rattle.text_forms.specs.Writing.{Put}
use Rattle.sheet_rule.specs.Drive.{step_text}
use Rattle.sheet_finish.specs.Inner.{Steppable}
use Rattle.sheet_finish.proofs.Kept.{points_kept}
use Rattle.sheet_texts.proofs.Fronts.{in_front, refusal_short}

-- what an accepted step leaves can be written
after_leaves : (table : List ℤ) (i : Inputs) (l : Limits) (r : Record) (n : ℕ) (work : Work) (store : Store) (a : After) → Shape r
    → step_call table i l r n work store ≡ a → a.answer ≡ none → length store.points ≤ 16384
    → Writable a.rec.layouts a.rec.routes a.store.layouts a.store.points
unfolding left
after_leaves table i l r n work store a shape e ok few =
    let yes : (step_call table i l r n work store).answer ≡ none = ap (λ (x : After). x.answer) e ∙ ok in
    let again : (step_call table i l a.rec 0 a.work a.store).answer ≡ none =
    subst (λ (x : After). (step_call table i l x.rec 0 x.work x.store).answer ≡ none) e (call_step_accepted table i l r work store shape n yes n 0) in
    let fits = step_table table i l r n work store yes in
    let over = sym (ap (λ (x : After). x.answer) (step_over_lem table fits i l a.rec 0 a.work a.store)) ∙ again in
    let steps = steps_of table in
    let once = table_once table fits in
    let before = step_checks_lem steps once i l r work store n (sym (ap (λ (x : After). x.answer) (step_over_lem table fits i l r n work store)) ∙ yes) in
    let p = step_passed steps once i l a.rec a.work a.store (step_checks_lem steps once i l a.rec a.work a.store 0 over) in
    let s = sound i a.rec a.store l p.fits in
    let g = long i l a.store p.areas in
    let to : State = step (plan_of steps i l) n (state_of r store) in
    let is : a ≡ left steps once i l to work store = sym e ∙ step_over_lem table fits i l r n work store ∙ step_is steps once i l r work store before n in
    let room = (long i l store (step_passed steps once i l r work store before).areas).points in
    let kept = points_kept i l to store a.rec (ap (λ (x : After). x.rec) is) s.points room in
    record {
      few = omega (arith, s.shown, p.fair.few);
      rows = omega (arith, s.shown, g.layouts);
      members = s.walls;
      kept = omega (arith, s.points, g.points);
      bounded = omega (arith, few, kept, ap (λ (x : After). length x.store.points) is);
    }

-- ---- a step of a begun search, written
module _ (table : List ℤ) (i : Inputs) (l : Limits) (r : Record) (work : Work) (store : Store) (r' : Record) (work' : Work) (store' : Store) (before out : List ℕ) (n : ℕ) where
  abbrev begun_by : After
  begun_by = record { answer = none; rec = r; work = work; store = store }

  pub finish_refused : (x : Refusal) → step_call table i l r l.states work store ≡ record { answer = some (said_of x); rec = r'; work = work'; store = store' }
      → enough ≤ length before → Put (refusal_text (said_of x)) before 0 out n → Front (step_text table i l begun_by) before out n
  unfolding step_text
  finish_refused x e room h =
      let same : step_text table i l begun_by ≡ refusal_text (said_of x) = rw (step_text, e) in
      subst (λ (w : List ℕ). Front w before out n) (sym same) (in_front (refusal_text (said_of x)) before out n (omega (arith, refusal_short x)) h)

  module _ (e : step_call table i l r l.states work store ≡ record { answer = none; rec = r'; work = work'; store = store' }) where
    pub finish_writable : Steppable r store.points before → Writable r'.layouts r'.routes store'.layouts store'.points
    finish_writable h =
        after_leaves table i l r l.states work store (record { answer = none; rec = r'; work = work'; store = store' })
        (record { routes = h.routes; lengths = h.lengths; nexts = h.nexts }) e refl h.few

    pub finish_written : Front (result_text r' store') before out n → Front (step_text table i l begun_by) before out n
    unfolding step_text
    finish_written k =
        let same : step_text table i l begun_by ≡ result_text r' store' = rw (step_text, e) (ap (λ (z : After). result_text z.rec z.store) e) in
        subst (λ (w : List ℕ). Front w before out n) (sym same) k

-- ---- a result written
pub result_written : (r : Record) (layouts points before out : List ℕ) (n : ℕ) → Writable r.layouts r.routes layouts points → Words layouts points
    → r.evaluations < 4294967296 → r.placements < 4294967296 → enough ≤ length before
    → ((a : Store) → a.layouts ≡ layouts → a.points ≡ points → Put (result_text r a) before 0 out n)
    → (a : Store) → a.layouts ≡ layouts → a.points ≡ points → Front (result_text r a) before out n
result_written r layouts points before out n w v x y room k a e f =
    let u : Writable r.layouts r.routes a.layouts a.points = rw (e, f) w in
    let z : Words a.layouts a.points = rw (e, f) v in
    in_front (result_text r a) before out n (omega (arith, room, result_short r a u z x y)) (k a e f)
