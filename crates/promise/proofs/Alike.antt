-- The theorem of specs/Alike. These calls ask of a route only whether there is one, or how many centres have one, and that does not depend on the order of the steps
-- (rule_layouts' Alike); check 3 has found the ends in the window.
use Prim.Native.Nat.{ℕ}
use mathlib.Core.Path.{◌≡◌, refl, sym, ◌∙◌}
use mathlib.Core.Bool.{Bool, true, ◌&&◌}
use mathlib.Core.Option.{Option, none, some}
use mathlib.Core.List.{List, [], ◌∷◌, ◌++◌}
use lib.IntN.{ℤ}
use Rattle.base_laws.proofs.Members.{both}
use Rattle.base_model.specs.Answers.{Said, ask, first}
use Rattle.base_model.proofs.Asking.{ask_passes, first_passes}
use Rattle.base_model.specs.declared.Limits.{Limits}
use Rattle.base_model.specs.declared.Rect.{Rect}
use Rattle.base_model.specs.declared.Position.{Position}
use Rattle.ground_rects.specs.Rects.{rects_of}
use Rattle.ground_rects.specs.Windows.{window_fits, in_window}
use Rattle.ground_baseline.specs.Baseline.{map_fits, baseline_of}
use Rattle.rule_routes.specs.Edges.{Step, steps_of, each_once, table_fits}
use Rattle.rule_layouts.specs.Boards.{Mover, leaves_open}
use Rattle.rule_layouts.specs.Inputs.{Inputs, board_of}
use Rattle.rule_layouts.proofs.Alike.{ground_order, route_order, verdict_order}
use Rattle.rule_calls.specs.Areas.{Work, Store, work_fits, store_fits, cleared}
use Rattle.rule_calls.specs.Checks.{group_checks, limit_checks, route_checks, query_checks, place_checks}
use Rattle.rule_calls.specs.Calls.{Preparation, bare, prepare_checks, prepare_over, begin_checks, both_routes, begin_over, judges, judge_checks, judge_over}
use Rattle.rule_calls.proofs.StepLaws.{first_both}
use Rattle.rule_calls.proofs.Tables.{table_once, prepare_over_lem, begin_over_lem, judge_over_lem}
use Rattle.promise.specs.Alike.{AlikeBy}

-- ---- what check 3 has found
abbrev pub EndsIn : Rect → (start end : Position) → Type 0
EndsIn w start end = (in_window w start ≡ true) × (in_window w end ≡ true)

third : (w : Rect) (start end : Position) (cs : List (Option Said)) → first (ask 3 (in_window w start && in_window w end) ∷ cs) ≡ none → EndsIn w start end
third w start end cs e = both (in_window w start) (in_window w end) (ask_passes 3 _ (first_passes _ cs e).0)

pub query_ends : (i : Inputs) (long : Bool) → first (query_checks i long) ≡ none → EndsIn i.query.window i.query.start i.query.end
unfolding query_checks
query_ends i long e = third i.query.window i.query.start i.query.end _ (first_passes (ask 2 (window_fits 8192 8192 i.query.window)) _ e).1

begin_ends : (i : Inputs) (l : Limits) (work : Work) (store : Store) → first (begin_checks i l work store) ≡ none
    → EndsIn i.query.window i.query.start i.query.end
unfolding begin_checks
begin_ends i l work store e =
    let long : Bool = work_fits i.query.window work && store_fits i l store in
    query_ends i long (first_both (group_checks i ++ limit_checks l) (query_checks i long) e).1

pub judge_ends : (i : Inputs) (s : List ℕ) (work : Work) → first (judge_checks i s work) ≡ none → EndsIn i.query.window i.query.start i.query.end
unfolding judge_checks
judge_ends i s work e =
    let long : Bool = work_fits i.query.window work in
    let a = first_both (group_checks i ++ query_checks i long ++ place_checks i) _ e in
    query_ends i long (first_both (group_checks i) (query_checks i long) (first_both (group_checks i ++ query_checks i long) (place_checks i) a.0).0).1

prepare_ends : (q : Preparation) (baseline : List ℕ) (work : Work) → first (prepare_checks q baseline work) ≡ none → EndsIn q.window q.start q.end
unfolding prepare_checks
prepare_ends q baseline work e = third q.window q.start q.end _ (first_passes _ _ (first_passes (ask 1 (map_fits q.map)) _ e).1).1

-- ---- two orders of the eight steps
module _ (a b : List Step) (p : each_once a ≡ true) (q : each_once b ≡ true) where
  routes_order : (i : Inputs) → EndsIn i.query.window i.query.start i.query.end → (m : Mover) → route_checks (board_of a i) m ≡ route_checks (board_of b i) m
  unfolding route_checks board_of
  routes_order i ends m = λ x.
      ask 7 (leaves_open m [] (board_of a i).start) ∷ ask 8 (leaves_open m [] (board_of a i).end) ∷ ask 9 (route_order i a b p q ends m [] x) ∷ []

  both_order : (i : Inputs) → EndsIn i.query.window i.query.start i.query.end → both_routes (board_of a i) ≡ both_routes (board_of b i)
  unfolding both_routes board_of
  both_order i ends = λ x. routes_order i ends (board_of a i).block x ++ go (board_of a i).allow x
    where
      go : (m : Option Mover) → ◌≡◌ {A = List (Option Said)} (elim m [ none ↦ [] | some m ↦ route_checks (board_of a i) m ])
          (elim m [ none ↦ [] | some m ↦ route_checks (board_of b i) m ])
      go none = refl
      go (some m) = routes_order i ends m

  prepared_alike : (g : Preparation) (baseline : List ℕ) (work : Work) → prepare_over a g baseline work ≡ prepare_over b g baseline work
  unfolding prepare_over bare board_of
  prepared_alike g baseline work = go (first (prepare_checks g baseline work)) refl
    where
      go : (o : Option Said) → first (prepare_checks g baseline work) ≡ o → prepare_over a g baseline work ≡ prepare_over b g baseline work
      go (some x) e = rw (prepare_over, e)
      go none e =
          let i : Inputs = bare g (baseline_of g.map (rects_of g.obstacles) g.mover g.window) in
          let same = routes_order i (prepare_ends g baseline work e) (board_of a i).block in
          rw (prepare_over, e, same)

  begun_alike : (i : Inputs) (l : Limits) (work : Work) (store : Store) → begin_over a i l work store ≡ begin_over b i l work store
  unfolding begin_over
  begun_alike i l work store = go (first (begin_checks i l work store)) refl
    where
      go : (o : Option Said) → first (begin_checks i l work store) ≡ o → begin_over a i l work store ≡ begin_over b i l work store
      go (some x) e = rw (begin_over, e)
      go none e = let same = both_order i (begin_ends i l work store e) in rw (begin_over, e, same)

  judged_alike : (i : Inputs) (s : List ℕ) (work : Work) → judge_over a i s work ≡ judge_over b i s work
  unfolding judge_over
  judged_alike i s work = go (first (judge_checks i s work)) refl
    where
      go : (o : Option Said) → first (judge_checks i s work) ≡ o → judge_over a i s work ≡ judge_over b i s work
      go (some x) e = rw (judge_over, e)
      go none e =
          let ends = judge_ends i s work e in
          let v = verdict_order i a b p q ends s in
          let n = ground_order i a b p q ends s in
          rw (judge_over, e) (λ x. record { answer = judges (v x) (n x); work = cleared i.query.window work })

-- whatever the order of the steps (RULES 14.5)
pub alike : (a b : List ℤ) → table_fits a ≡ true → table_fits b ≡ true → AlikeBy a b
alike a b f g =
    let p = table_once a f in
    let q = table_once b g in
    record {
      prepare = λ x baseline work. prepare_over_lem a f x baseline work ∙ prepared_alike (steps_of a) (steps_of b) p q x baseline work ∙ sym (prepare_over_lem b g x baseline work);
      begin = λ i l work store. begin_over_lem a f i l work store ∙ begun_alike (steps_of a) (steps_of b) p q i l work store ∙ sym (begin_over_lem b g i l work store);
      judge = λ i s work. judge_over_lem a f i s work ∙ judged_alike (steps_of a) (steps_of b) p q i s work ∙ sym (judge_over_lem b g i s work);
    }
