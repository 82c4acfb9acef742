-- The theorem of specs/LongerAnswers. Other limits change no preparation and no input, so both drives come to begin with the same; where both go on, each is
-- a search of one step by its state limit, which stops it, and promise's `longer` says that the layouts of the first begin those of the second.
use Prim.Native.Nat.{ℕ}
use mathlib.Core.Path.{◌≡◌, refl, sym, ◌∙◌, ap, subst}
use mathlib.Core.Option.{Option, none, some}
use mathlib.Core.List.{List, [], ◌∷◌, ◌++◌}
use native.Mathlib.Omega.{arith}
use Rattle.base_model.specs.Answers.{Said}
use Rattle.base_model.specs.declared.Limits.{Limits}
use Rattle.rule_routes.specs.Edges.{original_steps}
use Rattle.rule_layouts.specs.Inputs.{Inputs}
use Rattle.rule_calls.specs.Areas.{Work, Store, points_of}
use Rattle.rule_calls.specs.Calls.{Prepared, prepare_call, After, begin_call, step_call}
use Rattle.rule_calls.proofs.Tables.{call_begin_accepted}
use Rattle.promise.specs.Promise.{stepping, inputs_in, limits_in, HasTable, Held, layout_at, leaves, answer_to, after, run, Along, Faithful, Search, begins, ends}
use Rattle.promise.specs.Longer.{NoSmaller, HasStopped, route_at, StopsInTime}
use Rattle.promise.proofs.Extended.{longer, stops_in_time}
use Rattle.sheet_form.specs.Sheets.{Sheet}
use Rattle.sheet_texts.specs.Texts.{refusal_text, result_text}
use Rattle.sheet_texts.specs.Parts.{row_text}
use Rattle.sheet_texts.proofs.Texts.{result_parts}
use Rattle.sheet_rule.specs.Drive.{start_of, end_of, limits_of, query_of, preparation_of, inputs_for, no_bytes, no_work, no_store, step_text, search_text, allow_text, drive_text, driven}
use Rattle.sheet_rule.proofs.One.{answer_one}
use Rattle.promise_sheet.specs.LongerAnswers.{with_limits, result_line, layout_lines, Tells, LongerAnswer, refused, refused_later, lengthened, LongerAnswers}
use Rattle.promise_sheet.proofs.Lines.{more_lines}

-- the line of the result, and the lines of the layouts after it
held_parts : (h : Held) → result_text h.rec h.store ≡ result_line h ++ layout_lines h
unfolding result_line layout_lines layout_at route_at row_text points_of
held_parts h = result_parts h.rec h.store

-- ---- one search: begun, and stepped once by its state limit
module _ (i : Inputs) (l : Limits) (work : Work) (store : Store) where
  abbrev begun_by_lem : After
  begun_by_lem = begin_call original_steps i l work store

  abbrev stepped_by : After
  stepped_by = step_call original_steps i l begun_by_lem.rec l.states begun_by_lem.work begun_by_lem.store

  refused_by_lem : (r : Said) → begun_by_lem.answer ≡ some r → step_text original_steps i l begun_by_lem ≡ refusal_text r
  unfolding step_text
  refused_by_lem r e = rw (step_text, e) refl

  module _ (taken : begun_by_lem.answer ≡ none) where
    one_step : Search original_steps i l
    unfolding Along Faithful HasTable inputs_in limits_in
    one_step = record {
      work = work;
      store = store;
      accepted = taken;
      calls = stepping original_steps i l l.states begun_by_lem.work ∷ [];
      faithful = ((λ e. (refl, refl, refl)), tt);
    }

    one_ends : ends original_steps one_step ≡ leaves stepped_by
    unfolding ends begins run after leaves one_step
    one_ends = refl

    -- begun and not yet stepped
    not_stepped : Search original_steps i l
    unfolding Along
    not_stepped = record { work = work; store = store; accepted = taken; calls = []; faithful = tt }

    one_stops : HasStopped (leaves stepped_by)
    unfolding StopsInTime not_stepped ends begins run answer_to after leaves
    one_stops =
        stops_in_time original_steps i not_stepped l.states begun_by_lem.work (omega arith) (call_begin_accepted original_steps i l work store taken l.states)

    one_tells : Tells (step_text original_steps i l begun_by_lem) (ends original_steps one_step)
    unfolding step_text leaves
    one_tells = record {
      stopped = subst HasStopped (sym one_ends) one_stops;
      text = told ∙ held_parts (leaves stepped_by) ∙ ap (λ (h : Held). result_line h ++ layout_lines h) (sym one_ends);
    }
      where
        told : step_text original_steps i l begun_by_lem ≡ result_text stepped_by.rec stepped_by.store
        told = rw (step_text, taken, call_begin_accepted original_steps i l work store taken l.states) refl

-- ---- two searches over the same inputs
module _ (l m : Limits) (n : NoSmaller l m) where
  longer_step : (i : Inputs) (work : Work) (store : Store)
      → LongerAnswer (step_text original_steps i l (begin_call original_steps i l work store)) (step_text original_steps i m (begin_call original_steps i m work store))
  longer_step i work store = go (begin_call original_steps i l work store).answer refl (begin_call original_steps i m work store).answer refl
    where
      go : (o : Option Said) → (begin_call original_steps i l work store).answer ≡ o → (q : Option Said) → (begin_call original_steps i m work store).answer ≡ q
          → LongerAnswer (step_text original_steps i l (begin_call original_steps i l work store)) (step_text original_steps i m (begin_call original_steps i m work store))
      go (some r) e q f = refused r (refused_by_lem i l work store r e)
      go none e (some r) f = refused_later r (refused_by_lem i m work store r f)
      go none e none f =
          let s = one_step i l work store e in
          let t = one_step i m work store f in
          let told = one_tells i m work store f in
          let b = (longer original_steps i s t).extends n told.stopped in
          let rest = more_lines (ends original_steps t) (ends original_steps s) b in
          lengthened (record {
            inputs = i;
            limits = l;
            raised = m;
            earlier = s;
            later = t;
            told = one_tells i l work store e;
            told_later = told;
            extended = b;
            more = rest.0;
            lines = rest.1;
          })

-- ---- two drives of one sheet: what is prepared and what is handed to begin beside the limits are the same
module _ (s : Sheet) (limits : List ℕ) (n : NoSmaller (limits_of s) (limits_of (with_limits s limits))) where
  abbrev t : Sheet
  t = with_limits s limits

  longer_search : (block_base allow_base : List ℕ) (work : Work)
      → LongerAnswer (search_text original_steps s block_base allow_base work) (search_text original_steps t block_base allow_base work)
  unfolding search_text inputs_for query_of start_of end_of with_limits
  longer_search block_base allow_base work = longer_step (limits_of s) (limits_of t) n (inputs_for s block_base allow_base) work no_store

  longer_allow : (movers : List (List ℕ)) (block_base : List ℕ) (work : Work)
      → LongerAnswer (allow_text original_steps s movers block_base work) (allow_text original_steps t movers block_base work)
  unfolding allow_text preparation_of start_of end_of with_limits
  longer_allow [] block_base work = longer_search block_base no_bytes work
  longer_allow (m ∷ ms) block_base work = let p = prepare_call original_steps (preparation_of s m) no_bytes work in go p p.answer
    where
      go : (p : Prepared) (o : Option Said)
          → LongerAnswer (elim o [ some r ↦ refusal_text r | none ↦ search_text original_steps s block_base p.baseline p.work ])
          (elim o [ some r ↦ refusal_text r | none ↦ search_text original_steps t block_base p.baseline p.work ])
      go p (some r) = refused r refl
      go p none = longer_search block_base p.baseline p.work

  pub longer_drive : LongerAnswer (drive_text original_steps s) (drive_text original_steps t)
  unfolding drive_text preparation_of start_of end_of with_limits
  longer_drive = let p = prepare_call original_steps (preparation_of s s.block) no_bytes no_work in go p p.answer
    where
      go : (p : Prepared) (o : Option Said)
          → LongerAnswer (elim o [ some r ↦ refusal_text r | none ↦ allow_text original_steps s s.allow p.baseline p.work ])
          (elim o [ some r ↦ refusal_text r | none ↦ allow_text original_steps t s.allow p.baseline p.work ])
      go p (some r) = refused r refl
      go p none = longer_allow s.allow p.baseline p.work

-- longer runs extend the earlier list (RULES 11), in the answers to two sheets
pub longer_answers : LongerAnswers
unfolding LongerAnswers
longer_answers s limits n text raised a b x y f g =
    let t = with_limits s limits in
    subst (λ (z : List ℕ). LongerAnswer z y) (answer_one text (drive_text original_steps s) x (driven s a) f)
    (subst (LongerAnswer (drive_text original_steps s)) (answer_one raised (drive_text original_steps t) y (driven t b) g) (longer_drive s limits n))
