-- Placements past the first 6,145 change no call: there are too many of them either way,
-- and the lists area that is lent on is too short just where the whole one is.
-- First over an order of steps, then over the caller's table: one that does not fit is refused, whatever the placements.
use Prim.Native.Nat.{ℕ, ◌*◌, ◌≤◌, ◌<◌}
use mathlib.Core.Path.{◌≡◌, refl, sym, ◌∙◌, ap, ap₂, subst}
use mathlib.Core.Bool.{Bool, true, false, ◌&&◌}
use mathlib.Core.Option.{Option, none, some}
use mathlib.Core.List.{List, [], ◌∷◌, ◌++◌, append-nil}
use native.Mathlib.Omega.{arith}
use lib.Dec.{leb}
use lib.IntN.{ℤ}
use lib.ListN.{length, take, drop, take-append-drop}
use lib.Seq.{take_all, take-length, drop-length, length-take-le}
use borrow.Author.Tests.{leb-true, leb-false, lt-leb, le-leb}
use Rattle.base_laws.specs.Lists.{any_of}
use Rattle.base_laws.proofs.Members.{either}
use Rattle.base_model.specs.Answers.{Said, refusal, first}
use Rattle.base_model.proofs.Asking.{first_fails}
use Rattle.base_model.specs.Allow.{Allow}
use Rattle.std.specs.Prelude.{None, Some}
use Rattle.base_model.specs.declared.Placement.{Placement}
use Rattle.base_model.specs.declared.Query.{Query}
use Rattle.base_model.specs.declared.Limits.{Limits}
use Rattle.base_model.specs.declared.Record.{Record}
use Rattle.rule_routes.specs.Edges.{Step, steps_of, table_fits}
use Rattle.rule_layouts.specs.Boards.{leaves_open, route_past}
use Rattle.rule_layouts.specs.Inputs.{Inputs, mover_of, allowed_of, board_of}
use Rattle.rule_calls.specs.Areas.{Work, Store, store_in, bases_fit, work_fits, store_fits, points_length, cleared}
use Rattle.rule_calls.specs.Checks.{group_checks, limit_checks, query_checks, movers_small, route_checks, place_checks}
use Rattle.rule_calls.specs.Calls.{
  refuses,
  After,
  no_record,
  begin_checks,
  both_routes,
  begin_over,
  begin_call,
  step_checks,
  step_over,
  step_call,
  judge_checks,
  judge_over,
  judge_call,
  AfterJudge,
  read_checks,
  read_call,
}
use Rattle.rule_calls.proofs.Tables.{begin_fits, begin_turned, step_fits, step_turned, judge_fits, judge_turned}
use Rattle.walls_lent.specs.Given.{given, lent_where, lent}

-- ---- how much of the lists area is lent on
pub lent_few : (lists places : ℕ) → places ≤ 6145 → lent lists places ≡ lists
unfolding lent lent_where
lent_few lists places h = ap (λ (t : Bool). lent_where t (leb (6 * places) lists) lists) (le-leb places 6145 h)

pub lent_long : (lists places : ℕ) → 6145 < places → 6 * places ≤ lists → lent lists places ≡ lists
unfolding lent lent_where
lent_long lists places h k = ap₂ (λ (u v : Bool). lent_where u v lists) (lt-leb places 6145 h) (le-leb (6 * places) lists k)

pub lent_short : (lists places : ℕ) → 6145 < places → lists < 6 * places → lent lists places ≡ 0
unfolding lent lent_where
lent_short lists places h k = ap₂ (λ (u v : Bool). lent_where u v lists) (lt-leb places 6145 h) (lt-leb (6 * places) lists k)

at_most : (u v : Bool) (lists : ℕ) → lent_where u v lists ≤ lists
unfolding lent_where
at_most true v lists = omega arith
at_most false true lists = omega arith
at_most false false lists = omega arith

pub lent_at_most : (lists places : ℕ) → lent lists places ≤ lists
unfolding lent
lent_at_most lists places = at_most (leb places 6145) (leb (6 * places) lists) lists

pub part_le : (lists : List ℕ) (places : ℕ) {n : ℕ} → n ≡ lent (length lists) places → n ≤ length lists
part_le lists places e = omega (arith, e, lent_at_most (length lists) places)

-- ---- lists of checks
-- what is said where 14 follows
met : Option Said → Said
met none = refusal 14
met (some e) = e

first_met : (xs ys : List (Option Said)) → first ys ≡ some (refusal 14) → first (xs ++ ys) ≡ some (met (first xs))
unfolding first met
first_met [] ys e = e
first_met (none ∷ xs) ys e = first_met xs ys e
first_met (some r ∷ xs) ys e = refl

first_some : (xs ys : List (Option Said)) (d : Said) → first xs ≡ some d → first (xs ++ ys) ≡ some d
unfolding first
first_some [] ys d e = absurd (let z : ◌≡◌ {A = ℕ} 0 1 = cc in let w : ⊥ = omega arith in w)
first_some (none ∷ xs) ys d e = first_some xs ys d e
first_some (some r ∷ xs) ys d e = e

-- ---- too many placements
many : (i : Inputs) → 6144 < length i.places → first (place_checks i) ≡ some (refusal 14)
unfolding place_checks
many i h = first_fails 14 _ _ (lt-leb (length i.places) 6144 h)

step_refused : (steps : List Step) (i : Inputs) (l : Limits) (r : Record) (n : ℕ) (w : Work) (s : Store) (d : Said) → first (step_checks i l r w s) ≡
    some d
    → step_over steps i l r n w s ≡ record { answer = some d; rec = r; work = w; store = s }
unfolding step_over
step_refused steps i l r n w s d e = rw (e, step_over)

begin_refused : (steps : List Step) (i : Inputs) (l : Limits) (w : Work) (s : Store) (d : Said) → first (begin_checks i l w s) ≡ some d
    → begin_over steps i l w s ≡ record { answer = some d; rec = no_record; work = w; store = s }
unfolding begin_over
begin_refused steps i l w s d e = rw (e, begin_over)

begin_late : (steps : List Step) (i : Inputs) (l : Limits) (w : Work) (s : Store) (d : Said) → first (begin_checks i l w s) ≡ none
    → first (both_routes (board_of steps i) ++ place_checks i) ≡ some d → begin_over steps i l w s ≡ record
    { answer = some d; rec = no_record; work = cleared i.query.window w; store = s }
unfolding begin_over
begin_late steps i l w s d e k = rw (e, k, begin_over)

read_refused : (i : Inputs) (l : Limits) (r : Record) (k : ℕ) (s : Store) (d : Said) → first (read_checks i l r k s) ≡ some d → read_call i l r k s ≡
    record
    { answer = some d; points = [] }
unfolding read_call
read_refused i l r k s d e = rw (e, read_call)

judge_refused : (steps : List Step) (i : Inputs) (s : List ℕ) (w : Work) (d : Said) → first (judge_checks i s w) ≡ some d → judge_over steps i s w ≡
    record
    { answer = refuses d; work = w }
unfolding judge_over
judge_refused steps i s w d e = rw (e, judge_over)

read_met : (i : Inputs) (l : Limits) (r : Record) (k : ℕ) (s : Store) → first (place_checks i) ≡ some (refusal 14)
    → first (read_checks i l r k s) ≡ some (met (first (group_checks i ++ limit_checks l ++ query_checks i (store_fits i l s))))
unfolding read_checks
read_met i l r k s e =
    first_some (group_checks i ++ limit_checks l ++ query_checks i (store_fits i l s) ++ place_checks i) _ _
    (first_met (group_checks i ++ limit_checks l ++ query_checks i (store_fits i l s)) (place_checks i) e)

judge_met : (i : Inputs) (s : List ℕ) (w : Work) → first (place_checks i) ≡ some (refusal 14)
    → first (judge_checks i s w) ≡ some (met (first (group_checks i ++ query_checks i (work_fits i.query.window w))))
unfolding judge_checks
judge_met i s w e =
    first_some (group_checks i ++ query_checks i (work_fits i.query.window w) ++ place_checks i) _ _
    (first_met (group_checks i ++ query_checks i (work_fits i.query.window w)) (place_checks i) e)

-- what a call leaves, with the rest of the lists area behind
unfoldable pub joined : List ℕ → After → After
joined rest a = record {
  answer = a.answer;
  rec = a.rec;
  work = a.work;
  store = store_in (a.store.lists ++ rest) a.store.visited a.store.layouts
      a.store.points;
}

joined_none : (a : After) → a ≡ joined [] a
unfolding joined
joined_none a = ap (λ (l : List ℕ). record {
  answer = a.answer;
  rec = a.rec;
  work = a.work;
  store = store_in l a.store.visited a.store.layouts
      a.store.points;
}) (sym (append-nil a.store.lists))

module _ (q : Query) (groups block_base allow_base : List ℕ) (ps : List Placement) where
  abbrev all : Inputs
  all = given q groups ps block_base allow_base

  abbrev cut : Inputs
  cut = given q groups (take 6145 ps) block_base allow_base

  -- the empty set leaves open what the baselines do
  block_same : (steps : List Step) → route_checks (board_of steps all) (board_of steps all).block ≡ route_checks (board_of steps cut)
      (board_of steps cut).block
  unfolding board_of mover_of route_checks leaves_open route_past any_of given
  block_same steps = refl

  abbrev allowed : List Step → Inputs → Allow → List (Option Said)
  allowed steps i m = elim (allowed_of i.query.window i.places m i.allow_base) [ none ↦ [] | some x ↦ route_checks (board_of steps i) x ]

  allow_same : (steps : List Step) (m : Allow) → allowed steps all m ≡ allowed steps cut m
  unfolding board_of allowed_of mover_of route_checks leaves_open route_past any_of given
  allow_same steps None = refl
  allow_same steps (Some b) = refl

  routes_same : (steps : List Step) → both_routes (board_of steps all) ≡ both_routes (board_of steps cut)
  unfolding both_routes board_of given
  routes_same steps = ap₂ (λ (x y : List (Option Said)). x ++ y) (block_same steps) (allow_same steps q.allow)

  few : length ps ≤ 6145 → cut ≡ all
  few h = ap (λ (l : List Placement). given q groups l block_base allow_base) (take_all 6145 ps h)

  module _ (lists visited layouts points : List ℕ) where
    abbrev part : ℕ
    part = lent (length lists) (length ps)

    abbrev whole : Store
    whole = store_in lists visited layouts points

    abbrev some_of : Store
    some_of = store_in (take part lists) visited layouts points

    few_same : length ps ≤ 6145 → some_of ≡ whole
    few_same h = ap (λ (l : List ℕ). store_in l visited layouts points)
        (ap (λ (k : ℕ). take k lists) (lent_few (length lists) (length ps) h) ∙ take-length lists)

    few_rest : length ps ≤ 6145 → drop part lists ≡ []
    few_rest h = ap (λ (k : ℕ). drop k lists) (lent_few (length lists) (length ps) h) ∙ drop-length lists

    -- a refusal that wrote nothing
    refused_joined : (answer : Option Said) (r : Record) (w : Work)
        → ◌≡◌ {A = After} (record { answer = answer; rec = r; work = w; store = whole })
        (joined (drop part lists) (record { answer = answer; rec = r; work = w; store = some_of }))
    unfolding joined
    refused_joined answer r w = ap (λ (x : List ℕ). record { answer = answer; rec = r; work = w; store = store_in x visited layouts points })
        (sym (take-append-drop part lists))

    module _ (l : Limits) (more : 6145 < length ps) where
      cut_length : length (take 6145 ps) ≡ 6145
      cut_length = length-take-le 6145 ps (omega arith)

      room : leb (6 * length ps) (length lists) ≡ leb (6 * length (take 6145 ps)) (length (take part lists))
      room =
          either (leb (6 * length ps) (length lists))
          (λ t.
          let h = leb-true (6 * length ps) (length lists) t in
          let same : length (take part lists) ≡ length lists = ap (λ (k : ℕ). length (take k lists)) (lent_long (length lists) (length ps) more h) ∙
          ap
          (λ (x : List ℕ). length x) (take-length lists) in
          t ∙ sym (le-leb (6 * length (take 6145 ps)) (length (take part lists)) (omega (arith, cut_length, same))))
          (λ t.
          let none_lent : length (take part lists) ≡ 0 = ap (λ (k : ℕ). length (take k lists))
          (lent_short (length lists) (length ps) more (leb-false (6 * length ps) (length lists) t)) in
          t ∙ sym (lt-leb (6 * length (take 6145 ps)) (length (take part lists)) (omega (arith, cut_length, none_lent))))

      store_same : store_fits all l whole ≡ store_fits cut l some_of
      unfolding store_fits points_length given
      store_same = ap (λ (t : Bool). t && leb (7 * l.states) (length visited) && leb (7 * l.results) (length layouts) && leb (points_length all l)
          (length points)) room

      begin_same : (w : Work) → begin_checks all l w whole ≡ begin_checks cut l w some_of
      unfolding begin_checks group_checks query_checks movers_small bases_fit given
      begin_same w = ap (λ (t : Bool). group_checks all ++ limit_checks l ++ query_checks all (work_fits q.window w && t)) store_same

      all_many : first (place_checks all) ≡ some (refusal 14)
      unfolding given
      all_many = many all (omega arith)

      cut_many : first (place_checks cut) ≡ some (refusal 14)
      unfolding given
      cut_many = many cut (omega (arith, cut_length))

      -- step
      step_all : (r : Record) (w : Work) → first (step_checks all l r w whole) ≡ some (met (first (begin_checks all l w whole)))
      unfolding step_checks
      step_all r w = first_some (begin_checks all l w whole ++ place_checks all) _ _ (first_met (begin_checks all l w whole) (place_checks all) all_many)

      step_cut : (r : Record) (w : Work) → first (step_checks cut l r w some_of) ≡ some (met (first (begin_checks all l w whole)))
      unfolding step_checks
      step_cut r w =
          first_some (begin_checks cut l w some_of ++ place_checks cut) _ _ (first_met (begin_checks cut l w some_of) (place_checks cut) cut_many)
          ∙ ap (λ (x : List (Option Said)). some (met (first x))) (sym (begin_same w))

      step_more : (steps : List Step) (r : Record) (n : ℕ) (w : Work) → step_over steps all l r n w whole ≡ joined (drop part lists)
          (step_over steps cut l r n w some_of)
      step_more steps r n w =
          step_refused steps all l r n w whole _ (step_all r w)
          ∙ refused_joined (some (met (first (begin_checks all l w whole)))) r w
          ∙ ap (joined (drop part lists)) (sym (step_refused steps cut l r n w some_of _ (step_cut r w)))

      -- begin
      begin_more : (steps : List Step) (w : Work) → begin_over steps all l w whole ≡ joined (drop part lists) (begin_over steps cut l w some_of)
      unfolding given
      begin_more steps w = go (first (begin_checks all l w whole)) refl
        where
          go : (x : Option Said) → first (begin_checks all l w whole) ≡ x → begin_over steps all l w whole ≡ joined (drop part lists)
              (begin_over steps cut l w some_of)
          go (some d) e =
              begin_refused steps all l w whole d e ∙ refused_joined (some d) no_record w
              ∙ ap (joined (drop part lists)) (sym (begin_refused steps cut l w some_of d
              (ap (λ (x : List (Option Said)). first x) (sym (begin_same w)) ∙ e)))
          go none e =
              begin_late steps all l w whole _ e (first_met (both_routes (board_of steps all)) (place_checks all) all_many)
              ∙ refused_joined (some (met (first (both_routes (board_of steps all))))) no_record (cleared q.window w)
              ∙ ap (joined (drop part lists))
              (sym (begin_late steps cut l w some_of _ (ap (λ (x : List (Option Said)). first x) (sym (begin_same w)) ∙ e)
              (first_met (both_routes (board_of steps cut)) (place_checks cut) cut_many ∙ ap (λ (x : List (Option Said)). some (met (first x)))
              (sym (routes_same steps)))))

      -- reading
      read_same : group_checks all ++ limit_checks l ++ query_checks all (store_fits all l whole) ≡ group_checks cut ++ limit_checks l ++ query_checks cut
          (store_fits cut l some_of)
      unfolding group_checks query_checks movers_small bases_fit given
      read_same = ap (λ (t : Bool). group_checks all ++ limit_checks l ++ query_checks all t) store_same

      read_more : (r : Record) (k : ℕ) → read_call all l r k whole ≡ read_call cut l r k some_of
      read_more r k =
          read_refused all l r k whole _ (read_met all l r k whole all_many)
          ∙ ap (λ (x : List (Option Said)). record { answer = some (met (first x)); points = [] }) read_same
          ∙ sym (read_refused cut l r k some_of _ (read_met cut l r k some_of cut_many))

    -- ---- for any number of placements, over an order of steps
    step_over_is : (l : Limits) (steps : List Step) (r : Record) (n : ℕ) (w : Work) → step_over steps all l r n w whole ≡ joined (drop part lists)
        (step_over steps cut l r n w some_of)
    step_over_is l steps r n w =
        either (leb (length ps) 6145)
        (λ t.
        let h = leb-true (length ps) 6145 t in
        ap₂ (λ (i : Inputs) (s : Store). step_over steps i l r n w s) (sym (few h)) (sym (few_same h)) ∙ joined_none
        (step_over steps cut l r n w some_of)
        ∙ ap (λ (x : List ℕ). joined x (step_over steps cut l r n w some_of)) (sym (few_rest h)))
        (λ t. step_more l (leb-false (length ps) 6145 t) steps r n w)

    begin_over_is : (l : Limits) (steps : List Step) (w : Work) → begin_over steps all l w whole ≡ joined (drop part lists)
        (begin_over steps cut l w some_of)
    begin_over_is l steps w =
        either (leb (length ps) 6145)
        (λ t.
        let h = leb-true (length ps) 6145 t in
        ap₂ (λ (i : Inputs) (s : Store). begin_over steps i l w s) (sym (few h)) (sym (few_same h)) ∙ joined_none (begin_over steps cut l w some_of)
        ∙ ap (λ (x : List ℕ). joined x (begin_over steps cut l w some_of)) (sym (few_rest h)))
        (λ t. begin_more l (leb-false (length ps) 6145 t) steps w)

    -- ---- over a table
    pub step_cut_is : (l : Limits) (table : List ℤ) (r : Record) (n : ℕ) (w : Work) → step_call table all l r n w whole ≡ joined (drop part lists)
        (step_call table cut l r n w some_of)
    step_cut_is l table r n w =
        either (table_fits table)
        (λ t. subst (λ (f : Inputs → Limits → Record → ℕ → Work → Store → After). f all l r n w whole ≡ joined (drop part lists) (f cut l r n w some_of))
        (sym (step_fits table t)) (step_over_is l (steps_of table) r n w))
        (λ t.
        step_turned table t all l r n w whole ∙ refused_joined (some (refusal 19)) r w
        ∙ ap (joined (drop part lists)) (sym (step_turned table t cut l r n w some_of)))

    pub begin_cut_is : (l : Limits) (table : List ℤ) (w : Work) → begin_call table all l w whole ≡ joined (drop part lists)
        (begin_call table cut l w some_of)
    begin_cut_is l table w =
        either (table_fits table)
        (λ t. subst (λ (f : Inputs → Limits → Work → Store → After). f all l w whole ≡ joined (drop part lists) (f cut l w some_of))
        (sym (begin_fits table t)) (begin_over_is l (steps_of table) w))
        (λ t.
        begin_turned table t all l w whole ∙ refused_joined (some (refusal 19)) no_record w
        ∙ ap (joined (drop part lists)) (sym (begin_turned table t cut l w some_of)))

    pub read_cut_is : (l : Limits) (r : Record) (k : ℕ) → read_call all l r k whole ≡ read_call cut l r k some_of
    read_cut_is l r k =
        either (leb (length ps) 6145)
        (λ t. let h = leb-true (length ps) 6145 t in ap₂ (λ (i : Inputs) (s : Store). read_call i l r k s) (sym (few h)) (sym (few_same h)))
        (λ t. read_more l (leb-false (length ps) 6145 t) r k)

  -- ---- judging
  judge_same : (w : Work) → group_checks all ++ query_checks all (work_fits all.query.window w) ≡ group_checks cut ++ query_checks cut
      (work_fits cut.query.window w)
  unfolding group_checks query_checks movers_small bases_fit given
  judge_same w = refl

  judge_more : 6145 < length ps → (steps : List Step) (s : List ℕ) (w : Work) → judge_over steps all s w ≡ judge_over steps cut s w
  unfolding given
  judge_more h steps s w =
      judge_refused steps all s w _ (judge_met all s w (many all (omega arith)))
      ∙ ap (λ (x : List (Option Said)). record { answer = refuses (met (first x)); work = w }) (judge_same w)
      ∙ sym (judge_refused steps cut s w _ (judge_met cut s w (many cut (omega (arith, length-take-le 6145 ps (omega arith))))))

  judge_over_is : (steps : List Step) (s : List ℕ) (w : Work) → judge_over steps all s w ≡ judge_over steps cut s w
  judge_over_is steps s w =
      either (leb (length ps) 6145)
      (λ t. ap (λ (i : Inputs). judge_over steps i s w) (sym (few (leb-true (length ps) 6145 t))))
      (λ t. judge_more (leb-false (length ps) 6145 t) steps s w)

  pub judge_cut_is : (table : List ℤ) (s : List ℕ) (w : Work) → judge_call table all s w ≡ judge_call table cut s w
  judge_cut_is table s w =
      either (table_fits table)
      (λ t. subst (λ (f : Inputs → List ℕ → Work → AfterJudge). f all s w ≡ f cut s w) (sym (judge_fits table t)) (judge_over_is (steps_of table) s w))
      (λ t. judge_turned table t all s w ∙ sym (judge_turned table t cut s w))
