-- The calls that take a table of steps: where the table fits each is the call over its order, and where it does not each is refused with 19 and leaves all as it was. So
-- an accepted call has a table that fits, at the original's table the calls are those over the original's order, and the laws of step hold of the call itself.
use Prim.Native.Nat.{ℕ, ◌+◌, ◌<◌}
use mathlib.Core.Path.{◌≡◌, refl, sym, ◌∙◌, ap, subst}
use mathlib.Core.Bool.{Bool, true, false}
use mathlib.Core.Logic.{◌⊎◌, ◌≢◌}
use mathlib.Core.Option.{none, some, none-ne-some}
use mathlib.Core.List.{List}
use lib.Dec.{eqb}
use lib.IntN.{ℤ}
use lib.ListN.{length}
use Rattle.base_laws.specs.Lists.{all_of, select}
use Rattle.base_laws.proofs.Members.{both}
use Rattle.base_model.specs.Answers.{refusal}
use Rattle.base_model.specs.declared.Limits.{Limits}
use Rattle.base_model.specs.declared.Record.{Record}
use Rattle.rule_routes.specs.Edges.{steps_of, step_by, same_step, eq_z, eight_steps, each_once, table_fits, original_steps}
use Rattle.rule_layouts.specs.Inputs.{Inputs}
use Rattle.rule_calls.specs.Areas.{Work, Store, number_of, state_of}
use Rattle.rule_search.specs.State.{Running}
use Rattle.rule_calls.specs.Calls.{
  Preparation,
  Prepared,
  prepare_over,
  prepare_call,
  After,
  no_record,
  begin_over,
  begin_call,
  step_over,
  step_call,
  read_call,
  refuses,
  judge_over,
  judge_call,
}
use Rattle.rule_calls.proofs.Whole.{Shape}
use Rattle.rule_calls.proofs.StepLaws.{step_accepted, step_readable, step_joins, step_stays, begin_accepted}

module _ (table : List ℤ) where
  pub table_once : table_fits table ≡ true → each_once (steps_of table) ≡ true
  unfolding table_fits
  table_once e = (both (eqb (length table) 16) (each_once (steps_of table)) e).1

  -- ---- the table fits
  module _ (fits : table_fits table ≡ true) where
    pub prepare_fits : prepare_call table ≡ prepare_over (steps_of table)
    unfolding prepare_call
    prepare_fits =
        ap (λ (b : Bool). λ (q : Preparation) (baseline : List ℕ) (work : Work). elim b [
          | false ↦ record { answer = some (refusal 19); baseline = baseline; work = work }
          | true ↦ prepare_over (steps_of table) q baseline work
        ]) fits

    pub begin_fits : begin_call table ≡ begin_over (steps_of table)
    unfolding begin_call
    begin_fits =
        ap (λ (b : Bool). λ (i : Inputs) (l : Limits) (work : Work) (store : Store). elim b [
          | false ↦ record { answer = some (refusal 19); rec = no_record; work = work; store = store }
          | true ↦ begin_over (steps_of table) i l work store
        ]) fits

    pub step_fits : step_call table ≡ step_over (steps_of table)
    unfolding step_call
    step_fits =
        ap (λ (b : Bool). λ (i : Inputs) (l : Limits) (r : Record) (n : ℕ) (work : Work) (store : Store). elim b [
          | false ↦ record { answer = some (refusal 19); rec = r; work = work; store = store }
          | true ↦ step_over (steps_of table) i l r n work store
        ]) fits

    pub judge_fits : judge_call table ≡ judge_over (steps_of table)
    unfolding judge_call
    judge_fits =
        ap (λ (b : Bool). λ (i : Inputs) (s : List ℕ) (work : Work). elim b [
          | false ↦ record { answer = refuses (refusal 19); work = work }
          | true ↦ judge_over (steps_of table) i s work
        ]) fits

    -- at one input
    pub prepare_over_lem : (q : Preparation) (baseline : List ℕ) (work : Work) → prepare_call table q baseline work ≡ prepare_over (steps_of table) q baseline work
    prepare_over_lem q baseline work = λ j. prepare_fits j q baseline work

    pub begin_over_lem : (i : Inputs) (l : Limits) (work : Work) (store : Store) → begin_call table i l work store ≡ begin_over (steps_of table) i l work store
    begin_over_lem i l work store = λ j. begin_fits j i l work store

    pub step_over_lem : (i : Inputs) (l : Limits) (r : Record) (n : ℕ) (work : Work) (store : Store)
        → step_call table i l r n work store ≡ step_over (steps_of table) i l r n work store
    step_over_lem i l r n work store = λ j. step_fits j i l r n work store

    pub judge_over_lem : (i : Inputs) (s : List ℕ) (work : Work) → judge_call table i s work ≡ judge_over (steps_of table) i s work
    judge_over_lem i s work = λ j. judge_fits j i s work

  -- ---- it does not
  module _ (not : table_fits table ≡ false) where
    pub prepare_turned : (q : Preparation) (baseline : List ℕ) (work : Work)
        → prepare_call table q baseline work ≡ record { answer = some (refusal 19); baseline = baseline; work = work }
    unfolding prepare_call
    prepare_turned q baseline work = rw (prepare_call, not)

    pub begin_turned : (i : Inputs) (l : Limits) (work : Work) (store : Store)
        → begin_call table i l work store ≡ record { answer = some (refusal 19); rec = no_record; work = work; store = store }
    unfolding begin_call
    begin_turned i l work store = rw (begin_call, not)

    pub step_turned : (i : Inputs) (l : Limits) (r : Record) (n : ℕ) (work : Work) (store : Store)
        → step_call table i l r n work store ≡ record { answer = some (refusal 19); rec = r; work = work; store = store }
    unfolding step_call
    step_turned i l r n work store = rw (step_call, not)

    pub judge_turned : (i : Inputs) (s : List ℕ) (work : Work) → judge_call table i s work ≡ record { answer = refuses (refusal 19); work = work }
    unfolding judge_call
    judge_turned i s work = rw (judge_call, not)

  -- ---- an accepted call has a table that fits
  pub prepare_table : (q : Preparation) (baseline : List ℕ) (work : Work) → (prepare_call table q baseline work).answer ≡ none → table_fits table ≡ true
  prepare_table q baseline work e = go (table_fits table) refl
    where
      go : (b : Bool) → table_fits table ≡ b → table_fits table ≡ true
      go true f = f
      go false f = absurd (none-ne-some (refusal 19) (sym e ∙ ap (λ (x : Prepared). x.answer) (prepare_turned f q baseline work)))

  pub begin_table : (i : Inputs) (l : Limits) (work : Work) (store : Store) → (begin_call table i l work store).answer ≡ none → table_fits table ≡ true
  begin_table i l work store e = go (table_fits table) refl
    where
      go : (b : Bool) → table_fits table ≡ b → table_fits table ≡ true
      go true f = f
      go false f = absurd (none-ne-some (refusal 19) (sym e ∙ ap (λ (x : After). x.answer) (begin_turned f i l work store)))

  pub step_table : (i : Inputs) (l : Limits) (r : Record) (n : ℕ) (work : Work) (store : Store) → (step_call table i l r n work store).answer ≡ none
      → table_fits table ≡ true
  step_table i l r n work store e = go (table_fits table) refl
    where
      go : (b : Bool) → table_fits table ≡ b → table_fits table ≡ true
      go true f = f
      go false f = absurd (none-ne-some (refusal 19) (sym e ∙ ap (λ (x : After). x.answer) (step_turned f i l r n work store)))

  -- ---- the laws of step
  module _ (i : Inputs) (l : Limits) where
    -- what an accepted begin leaves is accepted by the next step
    pub call_begin_accepted : (work : Work) (store : Store) → (begin_call table i l work store).answer ≡ none
        → (n : ℕ) → (step_call table i l (begin_call table i l work store).rec n (begin_call table i l work store).work (begin_call table i l work store).store).answer ≡ none
    call_begin_accepted work store taken n =
        let fits = begin_table i l work store taken in
        let B = begin_over (steps_of table) i l work store in
        ap (λ (x : After). (step_call table i l x.rec n x.work x.store).answer) (begin_over_lem fits i l work store)
        ∙ ap (λ (x : After). x.answer) (step_over_lem fits i l B.rec n B.work B.store)
        ∙ begin_accepted (steps_of table) (table_once fits) i l work store (sym (ap (λ (x : After). x.answer) (begin_over_lem fits i l work store)) ∙ taken) n

    module _ (r : Record) (work : Work) (store : Store) (shape : Shape r) (n₀ : ℕ) (yes₀ : (step_call table i l r n₀ work store).answer ≡ none) where
      fits : table_fits table ≡ true
      fits = step_table i l r n₀ work store yes₀

      over : (step_over (steps_of table) i l r n₀ work store).answer ≡ none
      over = sym (ap (λ (x : After). x.answer) (step_over_lem fits i l r n₀ work store)) ∙ yes₀

      -- what a step leaves is accepted by the next, and each of its layouts can be read
      pub call_step_accepted : (n m : ℕ)
          → (step_call table i l (step_call table i l r n work store).rec m (step_call table i l r n work store).work (step_call table i l r n work store).store).answer ≡ none
      call_step_accepted n m =
          subst (λ (f : Inputs → Limits → Record → ℕ → Work → Store → After).
          (f i l (f i l r n work store).rec m (f i l r n work store).work (f i l r n work store).store).answer ≡ none) (sym (step_fits fits))
          (step_accepted (steps_of table) (table_once fits) i l r work store shape n₀ over n m)

      pub call_step_readable : (n k : ℕ) → k < (step_call table i l r n work store).rec.layouts
          → (read_call i l (step_call table i l r n work store).rec k (step_call table i l r n work store).store).answer ≡ none
      call_step_readable n k =
          subst (λ (f : Inputs → Limits → Record → ℕ → Work → Store → After).
          k < (f i l r n work store).rec.layouts → (read_call i l (f i l r n work store).rec k (f i l r n work store).store).answer ≡ none) (sym (step_fits fits))
          (step_readable (steps_of table) (table_once fits) i l r work store shape n₀ over n k)

      -- a and then b is a + b
      pub call_step_joins : (a b : ℕ)
          → step_call table i l (step_call table i l r a work store).rec b (step_call table i l r a work store).work (step_call table i l r a work store).store
          ≡ step_call table i l r (a + b) work store
      call_step_joins a b =
          subst (λ (f : Inputs → Limits → Record → ℕ → Work → Store → After).
          f i l (f i l r a work store).rec b (f i l r a work store).work (f i l r a work store).store ≡ f i l r (a + b) work store) (sym (step_fits fits))
          (step_joins (steps_of table) (table_once fits) i l r work store shape n₀ over a b)

      -- after a stop and for zero no used entry changes
      pub call_step_stays : (n : ℕ) → (n ≡ 0) ⊎ (r.reason ≢ number_of Running)
          → state_of (step_call table i l r n work store).rec (step_call table i l r n work store).store ≡ state_of r store
      call_step_stays n o =
          subst (λ (f : Inputs → Limits → Record → ℕ → Work → Store → After).
          state_of (f i l r n work store).rec (f i l r n work store).store ≡ state_of r store) (sym (step_fits fits))
          (step_stays (steps_of table) (table_once fits) i l r work store shape n₀ over n o)

-- ---- the original's table: the calls of the original
pub original_fits : table_fits original_steps ≡ true
unfolding table_fits original_steps steps_of each_once eight_steps step_by same_step eq_z all_of select
original_fits = refl

pub original_order : steps_of original_steps ≡ eight_steps
unfolding steps_of original_steps eight_steps step_by
original_order = refl

pub prepare_original : prepare_call original_steps ≡ prepare_over eight_steps
prepare_original = prepare_fits original_steps original_fits ∙ ap prepare_over original_order

pub begin_original : begin_call original_steps ≡ begin_over eight_steps
begin_original = begin_fits original_steps original_fits ∙ ap begin_over original_order

pub step_original : step_call original_steps ≡ step_over eight_steps
step_original = step_fits original_steps original_fits ∙ ap step_over original_order

pub judge_original : judge_call original_steps ≡ judge_over eight_steps
judge_original = judge_fits original_steps original_fits ∙ ap judge_over original_order
