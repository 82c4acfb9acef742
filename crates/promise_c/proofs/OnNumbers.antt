-- What the C functions leave, read as a record: an accepted call lays fifty numbers with a pending of 0 or 1, which read back as its record, and a refused one
-- leaves the numbers that it was given. So each C call is the call on that record.
use Prim.Native.Nat.{ℕ, ◌≤◌}
use mathlib.Core.Path.{◌≡◌, refl, sym, ◌∙◌, ap, subst}
use mathlib.Core.Bool.{Bool, true, false}
use mathlib.Core.Option.{Option, none, some, none-ne-some}
use mathlib.Core.List.{List}
use lib.IntN.{ℤ}
use lib.ListN.{length, get_or, drop}
use Rattle.base_model.specs.Answers.{Said, first}
use Rattle.base_model.specs.declared.Limits.{Limits}
use Rattle.base_model.specs.declared.Record.{Record}
use Rattle.rule_routes.specs.Edges.{steps_of, table_fits}
use Rattle.rule_layouts.specs.Inputs.{Inputs}
use Rattle.rule_calls.specs.Areas.{Work, Store}
use Rattle.rule_calls.specs.Calls.{After, begin_call, step_checks, step_over, step_call, read_call}
use Rattle.rule_calls.proofs.Whole.{Shape}
use Rattle.rule_calls.proofs.Shapes.{begin_shape, step_shape}
use Rattle.rule_calls.proofs.Tables.{table_once, begin_fits, step_fits, begin_table, step_table}
use Rattle.call_read.specs.Told.{number_in}
use Rattle.promise.specs.Promise.{Call, stepping, reading, Held, leaves, answer_to, after}
use Rattle.walls_numbers.specs.Numbers.{record_from, numbers_after}
use Rattle.walls_numbers.specs.Left.{Left, left_by, begin_on, step_on, LeftRead, place_of}
use Rattle.walls_numbers.proofs.Fifty.{laid_long, laid_pending, record_back, shape_of}
use Rattle.walls_numbers.proofs.Accepted.{place_answer, begin_whole, step_whole, read_whole, begin_accepted}
use Rattle.promise_c.specs.PromiseOn.{HeldOn, leaves_on, answer_on, after_on}

-- ---- numbers read as a record
abbrev pub held_of : HeldOn → Held
held_of h = record { rec = record_from h.numbers; store = h.store }

pub record Whole (ns : List ℕ) : Type 0 where
  pub long : 50 ≤ length ns
  pub low : get_or ns 5 0 ≤ 1

module _ (o : After) (ns : List ℕ) where
  module _ (yes : o.answer ≡ none) (shape : Shape o.rec) where
    accepted_held : held_of (leaves_on (left_by o ns)) ≡ leaves o
    unfolding leaves_on leaves left_by numbers_after
    accepted_held =
        ap (λ (r : Record). record { rec = r; store = o.store })
        (ap (λ (x : Option Said). record_from (numbers_after x o.rec ns)) yes ∙ record_back o.rec (drop 50 ns) shape)

    accepted_whole : Whole (left_by o ns).numbers
    unfolding left_by numbers_after
    accepted_whole =
        subst (λ (x : Option Said). Whole (numbers_after x o.rec ns)) (sym yes)
        (record { long = laid_long o.rec (drop 50 ns) shape; low = laid_pending o.rec (drop 50 ns) shape })

  module _ (x : Said) (no : o.answer ≡ some x) where
    refused_held : o.rec ≡ record_from ns → held_of (leaves_on (left_by o ns)) ≡ leaves o
    unfolding leaves_on leaves left_by numbers_after
    refused_held e =
        ap (λ (r : Record). record { rec = r; store = o.store }) (ap (λ (y : Option Said). record_from (numbers_after y o.rec ns)) no ∙ sym e)

    refused_whole : Whole ns → Whole (left_by o ns).numbers
    unfolding left_by numbers_after
    refused_whole v = subst (λ (y : Option Said). Whole (numbers_after y o.rec ns)) (sym no) v

-- ---- begin
module _ (table : List ℤ) (i : Inputs) (l : Limits) (ns : List ℕ) (w : Work) (a : Store) (yes : (begin_on table i l ns w a).answer ≡ 0) where
  pub begin_yes : (begin_call table i l w a).answer ≡ none
  begin_yes = (begin_accepted table i l w a ns yes).1

  begin_is_call : begin_on table i l ns w a ≡ left_by (begin_call table i l w a) ns
  begin_is_call = begin_whole i l ns a (begin_accepted table i l w a ns yes).0 table w

  begin_shaped : Shape (begin_call table i l w a).rec
  begin_shaped =
      let fits = begin_table table i l w a begin_yes in
      subst (λ (f : Inputs → Limits → Work → Store → After). (f i l w a).answer ≡ none → Shape (f i l w a).rec) (sym (begin_fits table fits))
      (begin_shape (steps_of table) (table_once table fits) i l w a) begin_yes

  pub begin_held : held_of (leaves_on (begin_on table i l ns w a)) ≡ leaves (begin_call table i l w a)
  begin_held = ap (λ (x : Left). held_of (leaves_on x)) begin_is_call ∙ accepted_held (begin_call table i l w a) ns begin_yes begin_shaped

  pub begin_kept : Whole (leaves_on (begin_on table i l ns w a)).numbers
  unfolding leaves_on
  begin_kept = subst (λ (x : Left). Whole x.numbers) (sym begin_is_call) (accepted_whole (begin_call table i l w a) ns begin_yes begin_shaped)

-- ---- calls after begin
module _ (h : HeldOn) (v : Whole h.numbers) where
  pub answer_held : (c : Call) → answer_on h c ≡ number_in (answer_to (held_of h) c)
  unfolding answer_on answer_to left_by place_of number_in
  answer_held (stepping table i l n w) = ap (λ (x : Left). x.answer) (step_whole i l h.numbers h.store v.long v.low table n w)
  answer_held (reading i l k) =
      ap (λ (x : LeftRead). x.answer) (read_whole i l h.numbers h.store v.long v.low k)
      ∙ place_answer (read_call i l (record_from h.numbers) k h.store).answer (record_from h.numbers) k

  module _ (table : List ℤ) (i : Inputs) (l : Limits) (n : ℕ) (w : Work) where
    abbrev made : After
    made = step_call table i l (record_from h.numbers) n w h.store

    step_is_call : step_on table i l h.numbers n w h.store ≡ left_by made h.numbers
    step_is_call = step_whole i l h.numbers h.store v.long v.low table n w

    step_shaped : made.answer ≡ none → Shape made.rec
    step_shaped e =
        let r = record_from h.numbers in
        let fits = step_table table i l r n w h.store e in
        subst (λ (f : Inputs → Limits → Record → ℕ → Work → Store → After). (f i l r n w h.store).answer ≡ none → Shape (f i l r n w h.store).rec) (sym (step_fits table fits))
        (step_shape (steps_of table) (table_once table fits) i l r n w h.store (shape_of h.numbers v.long)) e

    refused_record : (x : Said) → made.answer ≡ some x → made.rec ≡ record_from h.numbers
    unfolding step_call step_over
    refused_record x e = go (table_fits table) refl (first (step_checks i l (record_from h.numbers) w h.store)) refl
      where
        go : (b : Bool) → table_fits table ≡ b → (o : Option Said) → first (step_checks i l (record_from h.numbers) w h.store) ≡ o → made.rec ≡ record_from h.numbers
        go false t o f = rw (step_call, t)
        go true t none f = absurd (none-ne-some x (rw (step_call, t, step_over, f) at e))
        go true t (some y) f = rw (step_call, t, step_over, f)

    step_held : held_of (leaves_on (step_on table i l h.numbers n w h.store)) ≡ leaves made
    step_held = ap (λ (x : Left). held_of (leaves_on x)) step_is_call ∙ go made.answer refl
      where
        go : (o : Option Said) → made.answer ≡ o → held_of (leaves_on (left_by made h.numbers)) ≡ leaves made
        go none e = accepted_held made h.numbers e (step_shaped e)
        go (some x) e = refused_held made h.numbers x e (refused_record x e)

    step_kept : Whole (leaves_on (step_on table i l h.numbers n w h.store)).numbers
    unfolding leaves_on
    step_kept = subst (λ (x : Left). Whole x.numbers) (sym step_is_call) (go made.answer refl)
      where
        go : (o : Option Said) → made.answer ≡ o → Whole (left_by made h.numbers).numbers
        go none e = accepted_whole made h.numbers e (step_shaped e)
        go (some x) e = refused_whole made h.numbers x e v

  pub after_held : (c : Call) → held_of (after_on h c) ≡ after (held_of h) c
  unfolding after_on after
  after_held (stepping table i l n w) = step_held table i l n w
  after_held (reading i l k) = refl

  pub after_kept : (c : Call) → Whole (after_on h c).numbers
  unfolding after_on
  after_kept (stepping table i l n w) = step_kept table i l n w
  after_kept (reading i l k) = v
