-- The theorems of specs/Longer. What a search holds at any moment is its begun search, stepped and laid out (Carried). Stepped under larger limits until it stops it
-- begins with what it comes to under the smaller ones (rule_search's Raised), and so do the layouts and points that are read back from the areas.
use Prim.Native.Nat.{ℕ, ◌+◌, ◌-◌, ◌<◌}
use mathlib.Core.Path.{◌≡◌, refl, sym, ◌∙◌, ap, subst}
use mathlib.Core.Bool.{true}
use mathlib.Core.Logic.{◌≢◌}
use mathlib.Core.Option.{none}
use mathlib.Core.List.{List, [], ◌∷◌, ◌++◌}
use native.Mathlib.Omega.{arith}
use lib.IntN.{ℤ}
use lib.ListN.{length, get_or}
use Rattle.base_laws.proofs.Starts.{starts_length, starts_at}
use Rattle.base_model.specs.declared.Limits.{Limits}
use Rattle.rule_routes.specs.Edges.{steps_of, table_fits}
use Rattle.rule_layouts.specs.Inputs.{Inputs, board_of}
use Rattle.rule_search.specs.State.{Reason, Running, Exhausted, Layout, State}
use Rattle.rule_search.specs.Frames.{step, begun}
use Rattle.rule_search.specs.Formed.{Good}
use Rattle.rule_search.proofs.Steps.{step_add, step_full}
use Rattle.rule_search.proofs.Raised.{Grows, Raised, grows_none, step_grows, stopped_longer, exhausted_longer, layouts_agree}
use Rattle.rule_calls.specs.Areas.{Store, number_of, reason_of, numbers, record_of}
use Rattle.rule_calls.specs.Calls.{plan_of, ReadOut, read_call}
use Rattle.rule_calls.proofs.Back.{no_layout, reason_back}
use Rattle.rule_calls.proofs.Reading.{read_checks_lem, read_is, read_among}
use Rattle.promise.specs.Promise.{Call, Held, HasExhausted, after, run, Along, Faithful, Search, begins, ends}
use Rattle.promise.specs.Longer.{NoSmaller, HasStopped, route_at, BeginsWith, Moment, Longer, OnlyGrows, StopsInTime}
use Rattle.promise.proofs.Carried.{searched, shown, Carried, good, stepped}
use Rattle.promise.proofs.Kept.{row_read, points_read, carried_on, search_fits, search_fair, begins_carried, ends_carried}

-- ---- lists of calls in two parts
along_first : (P : Held → Call → Type 0) (h : Held) (cs ds : List Call) → Along P h (cs ++ ds) → Along P h cs
unfolding Along
along_first P h [] ds f = tt
along_first P h (c ∷ cs) ds f = (f.0, along_first P (after h c) cs ds f.1)

along_rest : (P : Held → Call → Type 0) (h : Held) (cs ds : List Call) → Along P h (cs ++ ds) → Along P (run h cs) ds
unfolding Along run
along_rest P h [] ds f = f
along_rest P h (c ∷ cs) ds f = along_rest P (after h c) cs ds f.1

run_on : (h : Held) (cs ds : List Call) → run h (cs ++ ds) ≡ run (run h cs) ds
unfolding run
run_on h [] ds = refl
run_on h (c ∷ cs) ds = run_on (after h c) cs ds

-- ---- one search at any moment
module _ (table : List ℤ) (fits : table_fits table ≡ true) (i : Inputs) (l : Limits) (s : Search table i l) (h : Held) (o : Moment table s h) where
  faithful_parts : Along (Faithful table i l) (begins table s) (o.before ++ o.later)
  unfolding begins
  faithful_parts = subst (λ (cs : List Call). Along (Faithful table i l) (begins table s) cs) o.all s.faithful

  moment_carried : Carried table fits i l 0 h
  moment_carried =
      subst (Carried table fits i l 0) o.held
      (carried_on table fits i l (search_fair table fits i l s) 0 (begins table s) o.before (begins_carried table fits i l s)
      (along_first (Faithful table i l) (begins table s) o.before o.later faithful_parts))

  ends_later : ends table s ≡ run h o.later
  unfolding ends
  ends_later =
      ap (run (begins table s)) o.all ∙ run_on (begins table s) o.before o.later
      ∙ ap (λ (x : Held). run x o.later) o.held

  -- from there the calls left carry it on
  carried_later : (least : ℕ) → Carried table fits i l least h → Carried table fits i l least (ends table s)
  carried_later least v =
      subst (Carried table fits i l least) (sym ends_later)
      (carried_on table fits i l (search_fair table fits i l s) least h o.later v
      (subst (λ (x : Held). Along (Faithful table i l) x o.later) o.held
      (along_rest (Faithful table i l) (begins table s) o.before o.later faithful_parts)))

-- an accepted reading of layout k: k is listed, and the points are those kept with it
reads_route : (a : Inputs) (x : Limits) (h : Held) (k : ℕ) → (read_call a x h.rec k h.store).answer ≡ none
    → (k < h.rec.layouts) × ((read_call a x h.rec k h.store).points ≡ route_at h k)
unfolding route_at
reads_route a x h k e =
    let p = read_checks_lem a x h.rec k h.store e in
    (read_among a x h.rec k h.store p, ap (λ (z : ReadOut). z.points) (read_is a x h.rec k h.store p))

-- ---- searches laid out
module _ (table : List ℤ) (fits : table_fits table ≡ true) (i : Inputs) where
  module _ (l m : Limits) (s t : State) (g : Good (board_of (steps_of table) i) (plan_of (steps_of table) i l) s)
      (d : Good (board_of (steps_of table) i) (plan_of (steps_of table) i m) t) (a b : Store) where
    laid_extends : Grows s t → BeginsWith (shown table fits i m t b) (shown table fits i l s a)
    unfolding record_of route_at
    laid_extends w =
        let long = starts_length w.layouts in
        record {
          layouts = omega arith;
          evaluations = (let used = starts_length w.visited in omega arith);
          same = λ k h.
              row_read table fits i m t d b k (omega arith)
              ∙ ap (λ (y : Layout). y.members) (sym (starts_at no_layout w.layouts k h))
              ∙ sym (row_read table fits i l s g a k h);
          routes = λ k h.
              points_read table fits i m t d b k (omega arith)
              ∙ ap (λ (y : Layout). numbers y.route) (sym (starts_at no_layout w.layouts k h))
              ∙ sym (points_read table fits i l s g a k h);
        }

    laid_route : (k : ℕ) → k < length s.layouts → k < length t.layouts → get_or s.layouts k no_layout ≡ get_or t.layouts k no_layout
        → route_at (shown table fits i l s a) k ≡ route_at (shown table fits i m t b) k
    unfolding route_at
    laid_route k h j e =
        points_read table fits i l s g a k h ∙ ap (λ (y : Layout). numbers y.route) e ∙ sym (points_read table fits i m t d b k j)

  -- ---- searches carried
  module _ (l m : Limits) {x y : ℕ} {h u : Held} (v : Carried table fits i l x h) (w : Carried table fits i m y u) where
    abbrev s : State
    s = searched table fits i l v.evaluations

    abbrev t : State
    t = searched table fits i m w.evaluations

    module _ (g : Good (board_of (steps_of table) i) (plan_of (steps_of table) i l) s) (d : Good (board_of (steps_of table) i) (plan_of (steps_of table) i m) t) where
      carried_extends : Grows s t → BeginsWith u h
      carried_extends f =
          subst (λ (z : Held). BeginsWith z h) (sym w.same)
          (subst (λ (z : Held). BeginsWith (shown table fits i m t w.over) z) (sym v.same) (laid_extends l m s t g d v.over w.over f))

      -- whatever the limits
      carried_route : (k : ℕ) → k < h.rec.layouts → k < u.rec.layouts → route_at h k ≡ route_at u k
      unfolding record_of plan_of
      carried_route k =
          subst (λ (z : Held). k < h.rec.layouts → k < z.rec.layouts → route_at h k ≡ route_at z k) (sym w.same)
          (subst (λ (z : Held). k < z.rec.layouts → k < length t.layouts → route_at z k ≡ route_at (shown table fits i m t w.over) k) (sym v.same)
          (λ p q.
          laid_route l m s t g d v.over w.over k p q
          (layouts_agree (plan_of (steps_of table) i l) (plan_of (steps_of table) i m) (λ r. refl) no_layout v.evaluations w.evaluations begun k p q)))

  -- the reason that record and search have
  module _ {l : Limits} {x : ℕ} {h : Held} (v : Carried table fits i l x h) where
    reason_of_lem : h.rec.reason ≡ number_of (searched table fits i l v.evaluations).reason
    unfolding record_of
    reason_of_lem = ap (λ (z : Held). z.rec.reason) v.same

    of_reason : (r : Reason) → h.rec.reason ≡ number_of r → (searched table fits i l v.evaluations).reason ≡ r
    of_reason r e = sym (reason_back (searched table fits i l v.evaluations).reason) ∙ ap reason_of (sym reason_of_lem ∙ e) ∙ reason_back r

  plans_raised : (l m : Limits) → NoSmaller l m → Raised (plan_of (steps_of table) i l) (plan_of (steps_of table) i m)
  unfolding plan_of NoSmaller
  plans_raised l m n = let h = n.0 in let j = n.1 in record { alike = λ w. refl; states = omega arith; results = omega arith }

  -- ---- two searches
  module _ {l m : Limits} (s : Search table i l) (t : Search table i m) where
    abbrev v : Carried table fits i l 0 (ends table s)
    v = ends_carried table fits i l s

    abbrev w : Carried table fits i m 0 (ends table t)
    w = ends_carried table fits i m t

    first_good : (n : ℕ) → Good (board_of (steps_of table) i) (plan_of (steps_of table) i l) (searched table fits i l n)
    first_good = good table fits i l (search_fair table fits i l s)

    second_good : (n : ℕ) → Good (board_of (steps_of table) i) (plan_of (steps_of table) i m) (searched table fits i m n)
    second_good = good table fits i m (search_fair table fits i m t)

    second_stopped : HasStopped (ends table t) → (searched table fits i m w.evaluations).reason ≢ Running
    unfolding HasStopped
    second_stopped h e = h (reason_of_lem w ∙ ap number_of e)

    -- the second extends the first
    extended : Longer table s t
    unfolding HasExhausted
    extended = record {
      extends = λ n h.
          carried_extends l m v w (first_good v.evaluations) (second_good w.evaluations)
          (stopped_longer (plan_of (steps_of table) i l) (plan_of (steps_of table) i m) (plans_raised l m n) v.evaluations w.evaluations begun (second_stopped h));
      exhausted = λ n h x.
          let e = of_reason v Exhausted x in
          let same = exhausted_longer (plan_of (steps_of table) i l) (plan_of (steps_of table) i m) (plans_raised l m n) v.evaluations w.evaluations begun e (second_stopped h) in (
            reason_of_lem w ∙ ap (λ (z : State). number_of z.reason) same ∙ ap number_of e,
            carried_extends m l w v (second_good w.evaluations) (first_good v.evaluations)
                (subst (Grows (searched table fits i m w.evaluations)) same (grows_none (searched table fits i m w.evaluations))),
          );
      readings = λ h u o r k a b x y e f.
          let c = moment_carried table fits i l s h o in
          let d = moment_carried table fits i m t u r in
          let p = reads_route a x h k e in
          let q = reads_route b y u k f in
          p.1 ∙ carried_route l m c d (first_good c.evaluations) (second_good d.evaluations) k p.0 q.0 ∙ sym q.1;
    }

  -- ---- one search
  module _ {l : Limits} (s : Search table i l) where
    -- stepped further
    grown : OnlyGrows table s
    unfolding OnlyGrows
    grown h o =
        let v = moment_carried table fits i l s h o in
        let n : ℕ = v.evaluations in
        let w = carried_later table fits i l s h o n (record { evaluations = n; enough = omega arith; over = v.over; same = v.same }) in
        let p = plan_of (steps_of table) i l in
        let g = good table fits i l (search_fair table fits i l s) in
        let more : ℕ = w.evaluations - n in
        let sum : n + more ≡ w.evaluations = (let k = w.enough in omega arith) in
        carried_extends l l v w (g n) (g w.evaluations)
        (subst (Grows (step p n begun)) (sym (step_add p n more begun) ∙ ap (λ (c : ℕ). step p c begun) sum) (step_grows p more (step p n begun)))

    -- stepped by its state limit
    stopped : StopsInTime table s
    unfolding StopsInTime HasStopped plan_of
    stopped n work j e r =
        let h : Held = ends table s in
        let f = search_fair table fits i l s in
        let w = stepped table fits i l f 0 h n work e (ends_carried table fits i l s) in
        step_full (plan_of (steps_of table) i l) f.room w.evaluations (let k = w.enough in omega arith) (of_reason w Running r)

-- ---- the theorems: the table of a begun search fits
module _ (table : List ℤ) (i : Inputs) {l : Limits} (s : Search table i l) where
  -- longer runs extend the earlier list (RULES 11)
  pub longer : {m : Limits} (t : Search table i m) → Longer table s t
  longer t = extended table (search_fits table s) i s t

  pub only_grows : OnlyGrows table s
  only_grows = grown table (search_fits table s) i s

  pub stops_in_time : StopsInTime table s
  stops_in_time = stopped table (search_fits table s) i s
