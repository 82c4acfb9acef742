-- What the code finds after a call is what the definitions leave.
use Prim.Native.Nat.{ℕ}
use mathlib.Core.Path.{◌≡◌, refl, sym, ◌∙◌, ap}
use mathlib.Core.Bool.{Bool, true, false, not, true≢false}
use mathlib.Core.Option.{Option, none, some}
use mathlib.Core.List.{List, [], ◌++◌, append-nil}
use lib.IntN.{ℤ}
use lib.ListN.{length, get_or, take, drop, take-append-drop}
use lib.Seq.{drop-length}
use borrow.Author.Tests.{leb-true}
use Rattle.base_laws.specs.Lists.{total, is_some}
use Rattle.base_model.specs.Answers.{Said, refusal, ask, first}
use Rattle.base_model.specs.declared.Rect.{Rect}
use Rattle.base_model.specs.declared.Bounds.{Bounds}
use Rattle.base_model.specs.declared.Limits.{Limits}
use Rattle.base_model.specs.declared.Record.{Record}
use Rattle.rule_covers.specs.Covers.{AfterChange, cover_call, lift_call}
use Rattle.rule_routes.specs.Edges.{table_fits}
use Rattle.rule_layouts.specs.Inputs.{Inputs}
use Rattle.rule_calls.specs.Areas.{Work, Store, store_in}
use Rattle.rule_calls.specs.Calls.{Preparation, Prepared, prepare_call, After, no_record, begin_over, begin_call, step_over, step_call, read_checks, AfterJudge, judge_call}
use Rattle.call_read.specs.Told.{number_in, index_in}
use Rattle.walls_numbers.specs.Numbers.{record_from, numbers_after, judged_answer, judged_index, judged_verdict, judged_ground}
use Rattle.walls_numbers.specs.Left.{
  prepare_on,
  changed_by,
  cover_on,
  lift_on,
  fifty,
  Left,
  begin_checks_on,
  step_checks_on,
  turned,
  left_by,
  begin_on,
  step_on,
  read_checks_on,
  place_of,
  read_on,
  judge_on,
}
use Rattle.walls_numbers.specs.Lent.{lent_of, record_in, numbers_left}
use Rattle.walls_numbers.proofs.Fifty.{left_laid}
use Rattle.walls_numbers.proofs.Lent.{all_lent, lent_is, begin_fifty, begin_same, step_read, step_same, read_read, read_same}

-- ---- preparing, covering and lifting, judging
pub prepare_left : (table : List ℤ) (q : Preparation) (b : List ℕ) (w : Work) (o : Prepared) (n : ℕ) → prepare_call table q b w ≡ o → n ≡ number_in o.answer
    → prepare_on table q b w ≡ record { answer = n; baseline = o.baseline; work = o.work }
unfolding prepare_on
prepare_left table q b w o n e f = rw (e, f)

module _ (w : Rect) (m : Bounds) (r : Rect) (b : List ℕ) (o : AfterChange) (n : ℕ) where
  pub cover_left : cover_call w m r b ≡ o → n ≡ number_in o.answer → cover_on w m r b ≡ record { answer = n; baseline = o.baseline }
  unfolding cover_on changed_by
  cover_left e f = rw (e, f)

  pub lift_left : lift_call w m r b ≡ o → n ≡ number_in o.answer → lift_on w m r b ≡ record { answer = n; baseline = o.baseline }
  unfolding lift_on changed_by
  lift_left e f = rw (e, f)

pub judge_left : (table : List ℤ) (i : Inputs) (s : List ℕ) (w : Work) (o : AfterJudge) (n x v g : ℕ) → judge_call table i s w ≡ o
    → n ≡ judged_answer o.answer → x ≡ judged_index o.answer → v ≡ judged_verdict o.answer → g ≡ judged_ground o.answer
    → judge_on table i s w ≡ record { answer = n; index = x; verdict = v; ground = g; work = o.work }
unfolding judge_on
judge_left table i s w o n x v g e en ex ev eg = rw (e, en, ex, ev, eg)

-- ---- a search
after_is : (o : Option Said) (r : Record) (ns : List ℕ) → fifty ns ≡ true → numbers_after o r ns ≡ numbers_left o r ns
unfolding numbers_after numbers_left fifty
after_is none r ns h = left_laid r ns (leb-true 50 (length ns) h)
after_is (some e) r ns h = refl

module _ (table : List ℤ) (i : Inputs) (l : Limits) (ns : List ℕ) (w : Work) (lists visited layouts points : List ℕ) (room : ℕ)
    (r : room ≡ lent_of (length ns) (length visited)) where
  abbrev given : Store
  given = store_in lists visited layouts points

  abbrev lent : Store
  lent = store_in lists (take room visited) layouts points

  -- the areas with what was not lent of the visited area behind
  abbrev after : Store → Store
  after a = store_in a.lists (a.visited ++ drop room visited) a.layouts a.points

  abbrev found : After → Left
  found o = record {
    answer = number_in o.answer;
    index = index_in o.answer;
    numbers = numbers_left o.answer o.rec ns;
    work = o.work;
    store = after o.store;
  }

  on_refusal : (e : Said) (s : Record) → turned e ns w given ≡ found (record { answer = some e; rec = s; work = w; store = lent })
  unfolding turned numbers_left number_in index_in
  on_refusal e s = ap (λ (v : List ℕ). turned e ns w (store_in lists v layouts points)) (sym (take-append-drop room visited))

  on_whole : fifty ns ≡ true → (o : After) → left_by o ns ≡ found o
  unfolding left_by
  on_whole h o =
      let g : drop room visited ≡ [] = ap (λ (k : ℕ). drop k visited) (all_lent i l ns given room r h) ∙ drop-length visited in
      ap (λ (ms : List ℕ). record { answer = number_in o.answer; index = index_in o.answer; numbers = ms; work = o.work; store = o.store })
      (after_is o.answer o.rec ns h)
      ∙ ap (λ (v : List ℕ). record {
        answer = number_in o.answer;
        index = index_in o.answer;
        numbers = numbers_left o.answer o.rec ns;
        work = o.work;
        store = store_in o.store.lists v o.store.layouts o.store.points;
      }) (sym (append-nil o.store.visited) ∙ ap (λ (v : List ℕ). o.store.visited ++ v) (sym g))

  begin_found : begin_on table i l ns w given ≡ found (begin_call table i l w lent)
  unfolding begin_on begin_call begin_over ask first
  begin_found = go (table_fits table) refl (first (begin_checks_on i l ns w given)) refl
    where
      go : (b : Bool) → table_fits table ≡ b → (o : Option Said) → first (begin_checks_on i l ns w given) ≡ o
          → begin_on table i l ns w given ≡ found (begin_call table i l w lent)
      go false t o e = rw (t, begin_on, begin_call) (on_refusal (refusal 19) no_record)
      go true t none e =
          let h = begin_fifty i l ns given w e in
          rw (t, e, begin_on) (on_whole h (begin_call table i l w given) ∙ ap (λ (a : Store). found (begin_call table i l w a)) (sym (lent_is i l ns given room r h)))
      go true t (some x) e = rw (t, e, begin_on, sym (begin_same i l ns given room r w) ∙ e, begin_call, begin_over) (on_refusal x no_record)

  step_found : (k : ℕ) → step_on table i l ns k w given ≡ found (step_call table i l (record_in ns) k w lent)
  unfolding step_on step_call step_over ask first
  step_found k = go (table_fits table) refl (first (step_checks_on i l ns w given)) refl
    where
      go : (b : Bool) → table_fits table ≡ b → (o : Option Said) → first (step_checks_on i l ns w given) ≡ o
          → step_on table i l ns k w given ≡ found (step_call table i l (record_in ns) k w lent)
      go false t o e = rw (t, step_on, step_call) (on_refusal (refusal 19) (record_in ns))
      go true t none e =
          let h = step_read i l ns given w e in
          rw (t, e, step_on)
          (on_whole h.0 (step_call table i l (record_from ns) k w given)
          ∙ ap (λ (x : Record). found (step_call table i l x k w given)) (sym h.1)
          ∙ ap (λ (a : Store). found (step_call table i l (record_in ns) k w a)) (sym (lent_is i l ns given room r h.0)))
      go true t (some x) e = rw (t, e, step_on, sym (step_same i l ns given room r w) ∙ e, step_call, step_over) (on_refusal x (record_in ns))

  pub begin_left : (o : After) (n x : ℕ) (ms : List ℕ) → begin_call table i l w lent ≡ o
      → n ≡ number_in o.answer → x ≡ index_in o.answer → ms ≡ numbers_left o.answer o.rec ns
      → begin_on table i l ns w given ≡ record { answer = n; index = x; numbers = ms; work = o.work; store = after o.store }
  begin_left o n x ms e en ex em = begin_found ∙ ap found e ∙ rw (en, ex, em)

  pub step_left : (k : ℕ) (o : After) (n x : ℕ) (ms : List ℕ) → step_call table i l (record_in ns) k w lent ≡ o
      → n ≡ number_in o.answer → x ≡ index_in o.answer → ms ≡ numbers_left o.answer o.rec ns
      → step_on table i l ns k w given ≡ record { answer = n; index = x; numbers = ms; work = o.work; store = after o.store }
  step_left k o n x ms e en ex em = step_found k ∙ ap found e ∙ rw (en, ex, em)

-- ---- reading
module _ (i : Inputs) (l : Limits) (ns : List ℕ) (k : ℕ) (lists visited layouts points : List ℕ) where
  pub read_place : (room : ℕ) → room ≡ lent_of (length ns) (length visited) → (o : Option Said)
      → o ≡ first (read_checks i l (record_in ns) k (store_in lists (take room visited) layouts points))
      → read_on i l ns k (store_in lists visited layouts points) ≡ place_of o (record_in ns) k
  unfolding read_on place_of
  read_place room r o said =
      go (first (read_checks_on i l ns k given)) refl ∙ ap (λ (x : Option Said). place_of x (record_in ns) k) (read_same i l ns given room r k ∙ sym said)
    where
      given : Store
      given = store_in lists visited layouts points

      go : (x : Option Said) → first (read_checks_on i l ns k given) ≡ x
          → place_of (first (read_checks_on i l ns k given)) (record_from ns) k ≡ place_of (first (read_checks_on i l ns k given)) (record_in ns) k
      go none e = ap (λ (x : Record). place_of (first (read_checks_on i l ns k given)) x k) (sym (read_read i l ns given k e).1)
      go (some x) e = rw e

pub place_refused : (o : Option Said) (r : Record) (k n x : ℕ) → not (is_some o) ≡ false → n ≡ number_in o → x ≡ index_in o
    → place_of o r k ≡ record { answer = n; index = x; first = 0; count = 0 }
unfolding place_of number_in index_in is_some
place_refused none r k n x e en ex = absurd (true≢false e)
place_refused (some d) r k n x e en ex = rw (en, ex)

pub place_accepted : (o : Option Said) (r : Record) (k x f c : ℕ) → not (is_some o) ≡ true → x ≡ index_in o → f ≡ total (take k r.routes)
    → c ≡ get_or r.routes k 0 → place_of o r k ≡ record { answer = 0; index = x; first = f; count = c }
unfolding place_of number_in index_in is_some
place_accepted none r k x f c e ex ef ec = rw (ex, ef, ec)
place_accepted (some d) r k x f c e ex ef ec = absurd (true≢false (sym e))
