-- The theorem of specs/PromiseOn: a run of C calls is a run of the calls on the records that the numbers are (OnNumbers), so what promise says of one holds of the other.
use Prim.Native.Nat.{ℕ, ◌<◌}
use mathlib.Core.Path.{◌≡◌, refl, sym, ◌∙◌, ap, subst}
use mathlib.Core.Logic.{◌↔◌}
use mathlib.Core.List.{List, [], ◌∷◌}
use lib.IntN.{ℤ}
use Rattle.base_model.specs.declared.Limits.{Limits}
use Rattle.rule_routes.specs.Edges.{steps_of}
use Rattle.rule_layouts.specs.Inputs.{Inputs, exchanged, board_of}
use Rattle.rule_layouts.specs.Walls.{IsWall}
use Rattle.rule_calls.specs.Areas.{number_of}
use Rattle.rule_calls.specs.Calls.{begin_call}
use Rattle.call_read.specs.Told.{number_in}
use Rattle.promise.specs.Promise.{Call, stepping, reading, Held, leaves, layout_at, Listed, HasExhausted, SameList, run, Along, Faithful, Search, begins, ends, HandsBack, Reads}
use Rattle.promise.proofs.Kept.{promise}
use Rattle.walls_numbers.specs.Numbers.{record_from}
use Rattle.walls_numbers.proofs.Accepted.{read_accepted, read_part}
use Rattle.promise_c.specs.PromiseOn.{
  HeldOn,
  layouts_on,
  layout_on,
  ListedOn,
  HasExhaustedOn,
  SameListOn,
  after_on,
  run_on,
  AlongOn,
  FaithfulOn,
  SearchOn,
  begins_on,
  ends_on,
  points_told,
  ReadsOn,
  PromiseOn,
}
use Rattle.promise_c.proofs.OnNumbers.{held_of, Whole, begin_yes, begin_held, begin_kept, answer_held, after_held, after_kept}

-- ---- along a list of calls
pub run_held : (h : HeldOn) (cs : List Call) → Whole h.numbers → held_of (run_on h cs) ≡ run (held_of h) cs
unfolding run_on run
run_held h [] v = refl
run_held h (c ∷ cs) v = run_held (after_on h c) cs (after_kept h v c) ∙ ap (λ (x : Held). run x cs) (after_held h v c)

run_kept : (h : HeldOn) (cs : List Call) → Whole h.numbers → Whole (run_on h cs).numbers
unfolding run_on
run_kept h [] v = v
run_kept h (c ∷ cs) v = run_kept (after_on h c) cs (after_kept h v c)

module _ (table : List ℤ) (i : Inputs) (l : Limits) where
  pub faithful_held : (h : HeldOn) (cs : List Call) → Whole h.numbers → AlongOn (FaithfulOn table i l) h cs → Along (Faithful table i l) (held_of h) cs
  unfolding AlongOn Along FaithfulOn Faithful number_in
  faithful_held h [] v f = tt
  faithful_held h (c ∷ cs) v f = (
    (λ e. f.0 (answer_held h v c ∙ ap number_in e)),
    subst (λ (x : Held). Along (Faithful table i l) x cs) (after_held h v c) (faithful_held (after_on h c) cs (after_kept h v c) f.1),
  )

  reads_held : (h : HeldOn) (c : Call) → Reads table i (held_of h) c → ReadsOn table i h c
  unfolding Reads ReadsOn layout_at layout_on points_told
  reads_held h (stepping t j m n w) r = tt
  reads_held h (reading j m k) r = λ e.
      let t = r (read_accepted j m h.numbers h.store k e) in
      (t.0, subst (HandsBack table i (board_of (steps_of table) i).allow (layout_on h k)) (read_part j m h.numbers h.store k e) t.1)

  readings_held : (h : HeldOn) (cs : List Call) → Whole h.numbers → Along (Reads table i) (held_of h) cs → AlongOn (ReadsOn table i) h cs
  unfolding AlongOn Along
  readings_held h [] v r = tt
  readings_held h (c ∷ cs) v r = (
    reads_held h c r.0,
    readings_held (after_on h c) cs (after_kept h v c) (subst (λ (x : Held). Along (Reads table i) x cs) (sym (after_held h v c)) r.1),
  )

-- ---- the search that the C calls make
module _ (table : List ℤ) (i : Inputs) (l : Limits) (s : SearchOn table i l) where
  pub begun_held : held_of (begins_on s) ≡ leaves (begin_call table i l s.work s.store)
  unfolding begins_on
  begun_held = begin_held table i l s.numbers s.work s.store s.accepted

  pub begun_kept : Whole (begins_on s).numbers
  unfolding begins_on
  begun_kept = begin_kept table i l s.numbers s.work s.store s.accepted

  unfoldable pub searched : Search table i l
  unfolding begins_on
  searched = record {
    work = s.work;
    store = s.store;
    accepted = begin_yes table i l s.numbers s.work s.store s.accepted;
    calls = s.calls;
    faithful = subst (λ (x : Held). Along (Faithful table i l) x s.calls) begun_held
        (faithful_held table i l (begins_on s) s.calls begun_kept s.faithful);
  }

  pub ends_held : held_of (ends_on s) ≡ ends table searched
  unfolding ends_on ends begins searched
  ends_held = run_held (begins_on s) s.calls begun_kept ∙ ap (λ (x : Held). run x s.calls) begun_held

  pub ends_kept : Whole (ends_on s).numbers
  unfolding ends_on
  ends_kept = run_kept (begins_on s) s.calls begun_kept

  pub exhausted_held : HasExhaustedOn (ends_on s) → HasExhausted (ends table searched)
  unfolding HasExhaustedOn HasExhausted record_from number_of
  exhausted_held e = subst HasExhausted ends_held e

-- listed by its numbers, listed by its record
listed_held : (h : HeldOn) (x : Held) (set : List ℕ) → held_of h ≡ x → ListedOn h set ↔ Listed x set
unfolding layouts_on layout_on layout_at record_from
listed_held h x set e =
    subst (λ (y : Held). ListedOn h set ↔ Listed y set) e
    ((λ m. record { at = m.at; among = m.among; same = m.same }), (λ m. record { at = m.at; among = m.among; same = m.same }))

same_held : {one other : HeldOn} {x y : Held} → held_of one ≡ x → held_of other ≡ y → SameList x y → SameListOn one other
unfolding layouts_on record_from
same_held {one} {other} {x} {y} a b same = record {
  count = ap (λ (z : Held). z.rec.layouts) a ∙ same.count ∙ sym (ap (λ (z : Held). z.rec.layouts) b);
  sets = λ set.
      let m = listed_held one x set a in
      let n = listed_held other y set b in
      ((λ k. n.1 ((same.sets set).0 (m.0 k))), (λ k. m.1 ((same.sets set).1 (n.0 k))));
}

-- the promise (RULES 10, 14) over the C functions
pub promise_on : (table : List ℤ) (i : Inputs) (l : Limits) (s : SearchOn table i l) → PromiseOn table i l s
unfolding layouts_on layout_on layout_at record_from begins_on begins searched
promise_on table i l s =
    let p = promise table i l (searched table i l s) in
    let at = ends_held table i l s in
    record {
      walls = subst (λ (x : Held). (k : ℕ) → k < x.rec.layouts → IsWall (board_of (steps_of table) i) (layout_at x k)) (sym at) p.walls;
      once = subst (λ (x : Held). (j k : ℕ) → j < x.rec.layouts → k < x.rec.layouts → layout_at x j ≡ layout_at x k → j ≡ k) (sym at) p.once;
      readings = readings_held table i l (begins_on s) s.calls (begun_kept table i l s)
          (subst (λ (x : Held). Along (Reads table i) x s.calls) (sym (begun_held table i l s)) p.readings);
      exhausted = λ e set.
          let w = p.exhausted (exhausted_held table i l s e) set in
          let m = listed_held (ends_on s) (ends table (searched table i l s)) set at in
          ((λ x. m.1 (w.0 x)), (λ x. w.1 (m.0 x)));
      orders = λ other m t d e.
          same_held at (ends_held other i m t)
          (p.orders other m (searched other i m t) (exhausted_held table i l s d) (exhausted_held other i m t e));
      return = λ other m t d e.
          same_held at (ends_held other (exchanged i) m t)
          (p.return other m (searched other (exchanged i) m t) (exhausted_held table i l s d) (exhausted_held other (exchanged i) m t e));
    }
