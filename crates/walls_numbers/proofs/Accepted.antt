-- On numbers that are a record the calls are those on that record. An answer of 0 is an accepted call, since no refusal has the number 0
-- (`rule_calls/proofs/Named`); an accepted reading tells the part of the points that the call gives.
use Prim.Native.Nat.{ℕ, ◌*◌, ◌≤◌}
use mathlib.Core.Path.{◌≡◌, refl, sym, ◌∙◌, ap}
use mathlib.Core.Bool.{Bool, true, false, ◌&&◌}
use mathlib.Core.Option.{Option, none, some, none-ne-some}
use mathlib.Core.List.{List, [], ◌++◌}
use native.Mathlib.Omega.{arith}
use lib.IntN.{ℤ}
use lib.ListN.{length, get_or, take, drop}
use borrow.Author.Tests.{leb-true, le-leb}
use Rattle.base_model.specs.Answers.{Said, refusal, ask, first}
use Rattle.base_model.specs.declared.Limits.{Limits}
use Rattle.base_model.specs.declared.Record.{Record}
use Rattle.rule_routes.specs.Edges.{steps_of, table_fits}
use Rattle.rule_layouts.specs.Inputs.{Inputs}
use Rattle.rule_calls.specs.Areas.{Work, Store, store_in, store_fits, points_of}
use Rattle.rule_calls.specs.Checks.{group_checks, limit_checks, query_checks, place_checks}
use Rattle.rule_calls.specs.Calls.{begin_checks, begin_over, begin_call, step_checks, step_over, step_call, read_checks, ReadOut, read_call}
use Rattle.rule_calls.proofs.Named.{Named, Named·passed, Named·refused, last_named, then_named, asks_named, place_named, query_named, begin_named, step_named}
use Rattle.rule_calls.proofs.Reading.{read_checks_lem, read_is, read_refused}
use Rattle.call_read.specs.Told.{number_in, index_in}
use Rattle.walls_numbers.specs.Numbers.{record_from, numbers_after}
use Rattle.walls_numbers.specs.Left.{Left, fifty, begin_checks_on, step_checks_on, turned, left_by, begin_on, step_on, read_checks_on, place_of, read_on}
use Rattle.walls_numbers.specs.Lent.{lent_of, record_in}
use Rattle.walls_numbers.proofs.Fifty.{lent_whole, in_whole}
use Rattle.walls_numbers.proofs.Lent.{lent_is, begin_fifty, begin_same, step_same, read_read, read_same}

-- an answer of 0 is an accepted call
passed : (o : Option Said) → Named o → number_in o ≡ 0 → o ≡ none
unfolding number_in
passed none (Named·passed) e = refl
passed (some r) (Named·refused h) e = absurd (omega arith)

-- no refusal has the number 0
module _ (table : List ℤ) (i : Inputs) (l : Limits) (w : Work) (a : Store) where
  begin_answers : Named (begin_call table i l w a).answer
  unfolding begin_call refusal
  begin_answers = go (table_fits table) refl
    where
      go : (b : Bool) → table_fits table ≡ b → Named (begin_call table i l w a).answer
      go false t = rw (begin_call, t) (Named·refused {e = refusal 19} (omega arith))
      go true t = rw (begin_call, t) (begin_named (steps_of table) i l w a)

  step_answers : (r : Record) (n : ℕ) → Named (step_call table i l r n w a).answer
  unfolding step_call refusal
  step_answers r n = go (table_fits table) refl
    where
      go : (b : Bool) → table_fits table ≡ b → Named (step_call table i l r n w a).answer
      go false t = rw (step_call, t) (Named·refused {e = refusal 19} (omega arith))
      go true t = rw (step_call, t) (step_named (steps_of table) i l w a r n)

-- ---- readings
pub place_answer : (o : Option Said) (r : Record) (k : ℕ) → (place_of o r k).answer ≡ number_in o
unfolding place_of number_in
place_answer none r k = refl
place_answer (some e) r k = refl

answer_is : (i : Inputs) (l : Limits) (r : Record) (k : ℕ) (a : Store) → (read_call i l r k a).answer ≡ first (read_checks i l r k a)
answer_is i l r k a = go (first (read_checks i l r k a)) refl
  where
    go : (o : Option Said) → first (read_checks i l r k a) ≡ o → (read_call i l r k a).answer ≡ first (read_checks i l r k a)
    go none e = ap (λ (y : ReadOut). y.answer) (read_is i l r k a e) ∙ sym e
    go (some d) e = ap (λ (y : ReadOut). y.answer) (read_refused i l r k a d e) ∙ sym e

-- ---- fifty numbers
module _ (i : Inputs) (l : Limits) (ns : List ℕ) (a : Store) (whole : 50 ≤ length ns) where
  room_is : length a.visited ≡ lent_of (length ns) (length a.visited)
  room_is = sym (lent_whole (length ns) (length a.visited) whole)

  all_is : store_in a.lists (take (length a.visited) a.visited) a.layouts a.points ≡ a
  unfolding fifty
  all_is = lent_is i l ns a (length a.visited) room_is (le-leb 50 (length ns) whole)

  -- begin is the call
  pub begin_whole : (table : List ℤ) (w : Work) → begin_on table i l ns w a ≡ left_by (begin_call table i l w a) ns
  unfolding begin_on begin_call begin_over turned left_by numbers_after number_in index_in ask first
  begin_whole table w = go (table_fits table) refl (first (begin_checks_on i l ns w a)) refl
    where
      go : (b : Bool) → table_fits table ≡ b → (o : Option Said) → first (begin_checks_on i l ns w a) ≡ o → begin_on table i l ns w a ≡ left_by (begin_call table i l w a) ns
      go false t o e = rw (t, begin_on, begin_call, left_by)
      go true t none e = rw (t, e, begin_on)
      go true t (some x) e =
          let f = sym (begin_same i l ns a (length a.visited) room_is w ∙ ap (λ (s : Store). first (begin_checks i l w s)) all_is) ∙ e in
          rw (t, e, begin_on, f, begin_call, begin_over, left_by)

  read_all : (k : ℕ) → record_in ns ≡ record_from ns → first (read_checks_on i l ns k a) ≡ first (read_checks i l (record_from ns) k a)
  read_all k s =
      read_same i l ns a (length a.visited) room_is k
      ∙ ap (λ (x : Store). first (read_checks i l (record_in ns) k x)) all_is
      ∙ ap (λ (r : Record). first (read_checks i l r k a)) s

  -- with a pending of 0 or 1 step and reading are the calls on the record that they are
  module _ (flag : get_or ns 5 0 ≤ 1) where
    pub step_whole : (table : List ℤ) (n : ℕ) (w : Work) → step_on table i l ns n w a ≡ left_by (step_call table i l (record_from ns) n w a) ns
    unfolding step_on step_call step_over turned left_by numbers_after number_in index_in ask first
    step_whole table n w = go (table_fits table) refl (first (step_checks_on i l ns w a)) refl
      where
        go : (b : Bool) → table_fits table ≡ b → (o : Option Said) → first (step_checks_on i l ns w a) ≡ o
            → step_on table i l ns n w a ≡ left_by (step_call table i l (record_from ns) n w a) ns
        go false t o e = rw (t, step_on, step_call, left_by)
        go true t none e = rw (t, e, step_on)
        go true t (some x) e =
            let f =
            sym
            (step_same i l ns a (length a.visited) room_is w
            ∙ ap (λ (s : Store). first (step_checks i l (record_in ns) w s)) all_is
            ∙ ap (λ (r : Record). first (step_checks i l r w a)) (in_whole ns whole flag))
            ∙ e
            in
            rw (t, e, step_on, f, step_call, step_over, left_by)

    pub step_accepted : (table : List ℤ) (n : ℕ) (w : Work) → (step_on table i l ns n w a).answer ≡ 0 → (step_call table i l (record_from ns) n w a).answer ≡ none
    unfolding left_by
    step_accepted table n w e =
        passed (step_call table i l (record_from ns) n w a).answer (step_answers table i l w a (record_from ns) n)
        (sym (ap (λ (x : Left). x.answer) (step_whole table n w)) ∙ e)

    pub read_whole : (k : ℕ) → read_on i l ns k a ≡ place_of (read_call i l (record_from ns) k a).answer (record_from ns) k
    unfolding read_on
    read_whole k =
        ap (λ (o : Option Said). place_of o (record_from ns) k) (read_all k (in_whole ns whole flag) ∙ sym (answer_is i l (record_from ns) k a))

-- ---- an answer of 0
module _ (table : List ℤ) (i : Inputs) (l : Limits) (w : Work) (a : Store) where
  pub begin_accepted : (ns : List ℕ) → (begin_on table i l ns w a).answer ≡ 0 → (50 ≤ length ns) × ((begin_call table i l w a).answer ≡ none)
  unfolding begin_on turned left_by fifty number_in begin_checks_on ask first refusal
  begin_accepted ns e = go (table_fits table) refl (first (begin_checks_on i l ns w a)) refl
    where
      go : (b : Bool) → table_fits table ≡ b → (o : Option Said) → first (begin_checks_on i l ns w a) ≡ o → (50 ≤ length ns) × ((begin_call table i l w a).answer ≡ none)
      go false t o f = absurd (let z : 19 ≡ 0 = rw (t, begin_on) at e in let x : ⊥ = omega arith in x)
      go true t none f = (leb-true 50 (length ns) (begin_fifty i l ns a w f), passed _ (begin_answers table i l w a) (rw (t, f, begin_on) at e))
      go true t (some x) f = absurd (none-ne-some x (sym (passed _ (query_named i l _) (ap number_in f ∙ (rw (t, f, begin_on) at e))) ∙ f))

module _ (i : Inputs) (l : Limits) (ns : List ℕ) (a : Store) (k : ℕ) (e : (read_on i l ns k a).answer ≡ 0) where
  passes : first (read_checks_on i l ns k a) ≡ none
  unfolding read_on read_checks_on
  passes =
      let xs = group_checks i ++ limit_checks l ++ query_checks i (store_fits i l a && fifty ns) in
      passed _
      (then_named (xs ++ place_checks i) _ (then_named xs (place_checks i) (query_named i l _) (place_named i))
      (asks_named 16 _ _ (omega arith) (asks_named 17 _ [] (omega arith) last_named))) (sym (place_answer _ (record_from ns) k) ∙ e)

  pub read_accepted : (read_call i l (record_from ns) k a).answer ≡ none
  unfolding fifty
  read_accepted =
      let h = read_read i l ns a k passes in
      answer_is i l (record_from ns) k a ∙ sym (read_all i l ns a (leb-true 50 (length ns) h.0) k h.1) ∙ passes

  -- it tells the part of the points that the call gives
  pub read_part : (read_call i l (record_from ns) k a).points ≡ take (2 * (read_on i l ns k a).count) (drop (2 * (read_on i l ns k a).first) a.points)
  unfolding read_on place_of points_of
  read_part =
      ap (λ (y : ReadOut). y.points) (read_is i l (record_from ns) k a (read_checks_lem i l (record_from ns) k a read_accepted))
      ∙ ap (λ (x : Option Said). take (2 * (place_of x (record_from ns) k).count) (drop (2 * (place_of x (record_from ns) k).first) a.points)) (sym passes)
