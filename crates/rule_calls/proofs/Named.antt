-- No refusal has the number 0, so an answer of 0 is an accepted call: each check is asked with a number above 0, and the first that fails is one of them.
use Prim.Native.Nat.{ℕ, suc, ◌<◌}
use mathlib.Core.Path.{◌≡◌, refl}
use mathlib.Core.Bool.{Bool, true, false}
use mathlib.Core.Option.{Option, none, some}
use mathlib.Core.List.{List, [], ◌∷◌, ◌++◌}
use native.Mathlib.Omega.{arith}
use Rattle.base_model.specs.Answers.{Said, refusal, ask, first}
use Rattle.base_model.specs.declared.Rect.{Rect}
use Rattle.base_model.specs.declared.Placement.{Placement}
use Rattle.base_model.specs.declared.Limits.{Limits}
use Rattle.base_model.specs.declared.Record.{Record}
use Rattle.rule_routes.specs.Edges.{Step}
use Rattle.rule_layouts.specs.Boards.{Mover, Board}
use Rattle.rule_layouts.specs.Inputs.{Inputs, board_of}
use Rattle.rule_calls.specs.Areas.{Work, Store, work_fits}
use Rattle.rule_calls.specs.Checks.{group_checks, limit_checks, query_checks, route_checks, placement_fits, first_misplaced, place_checks}
use Rattle.rule_calls.specs.Calls.{begin_checks, both_routes, begin_over, step_checks, step_over, judge_checks}

pub data Named : Option Said → Type 0 where
  Named·passed : Named none
  Named·refused : {e : Said} → 0 < e.number → Named (some e)

-- ---- lists of checks
ask_named : (n : ℕ) (b : Bool) → 0 < n → Named (ask n b)
unfolding ask refusal
ask_named n true h = Named·passed
ask_named n false h = Named·refused h

pub last_named : Named (first [])
unfolding first
last_named = Named·passed

first_named : (c : Option Said) (cs : List (Option Said)) → Named c → Named (first cs) → Named (first (c ∷ cs))
unfolding first
first_named none cs f g = g
first_named (some r) cs f g = f

pub then_named : (xs ys : List (Option Said)) → Named (first xs) → Named (first ys) → Named (first (xs ++ ys))
unfolding first
then_named [] ys f g = g
then_named (none ∷ xs) ys f g = then_named xs ys f g
then_named (some r ∷ xs) ys f g = f

pub asks_named : (n : ℕ) (b : Bool) (cs : List (Option Said)) → 0 < n → Named (first cs) → Named (first (ask n b ∷ cs))
asks_named n b cs h = first_named (ask n b) cs (ask_named n b h)

-- ---- the checks of the calls
misplaced_named : (w : Rect) (groups : List ℕ) (k : ℕ) (ps : List Placement) → Named (first_misplaced w groups k ps)
unfolding first_misplaced
misplaced_named w groups k [] = Named·passed
misplaced_named w groups k (p ∷ ps) =
    go (placement_fits w groups p) (misplaced_named w groups (suc k) ps)
  where
    go : (b : Bool) → Named (first_misplaced w groups (suc k) ps)
        → Named (elim b [ true ↦ first_misplaced w groups (suc k) ps | false ↦ some (record { number = 15; values = k ∷ [] }) ])
    go true h = h
    go false h = Named·refused {e = record { number = 15; values = k ∷ [] }} (omega arith)

module _ (i : Inputs) where
  pub place_named : Named (first (place_checks i))
  unfolding place_checks
  place_named = asks_named 14 _ _ (omega arith) (first_named _ [] (misplaced_named i.query.window i.groups 0 i.places) last_named)

  pub query_named : (l : Limits) (b : Bool) → Named (first (group_checks i ++ limit_checks l ++ query_checks i b))
  unfolding group_checks limit_checks query_checks
  query_named l b =
      then_named (group_checks i ++ limit_checks l) (query_checks i b)
      (asks_named 10 _ _ (omega arith) (asks_named 11 _ _ (omega arith) (asks_named 12 _ [] (omega arith) last_named)))
      (asks_named 2 _ _ (omega arith)
      (asks_named 3 _ _ (omega arith) (asks_named 4 _ _ (omega arith) (asks_named 6 _ [] (omega arith) last_named))))

route_named : (g : Board) (m : Mover) → Named (first (route_checks g m))
unfolding route_checks
route_named g m = asks_named 7 _ _ (omega arith) (asks_named 8 _ _ (omega arith) (asks_named 9 _ [] (omega arith) last_named))

routes_named : (g : Board) → Named (first (both_routes g))
unfolding both_routes
routes_named g = then_named (route_checks g g.block) _ (route_named g g.block) (go g.allow)
  where
    go : (o : Option Mover) → Named (first (elim o [ none ↦ [] | some m ↦ route_checks g m ]))
    go none = last_named
    go (some m) = route_named g m

-- ---- begin, step
module _ (steps : List Step) (i : Inputs) (l : Limits) (w : Work) (a : Store) where
  pub begin_named : Named (begin_over steps i l w a).answer
  unfolding begin_over begin_checks
  begin_named =
      let late = then_named (both_routes (board_of steps i)) (place_checks i) (routes_named (board_of steps i)) (place_named i) in
      go (first (begin_checks i l w a)) refl (query_named i l _) (first (both_routes (board_of steps i) ++ place_checks i)) refl late
    where
      go : (o : Option Said) → first (begin_checks i l w a) ≡ o → Named o → (p : Option Said) → first (both_routes (board_of steps i) ++ place_checks i) ≡ p
          → Named p → Named (begin_over steps i l w a).answer
      go none e f none g h = rw (begin_over, e, g) Named·passed
      go none e f (some x) g h = rw (begin_over, e, g) h
      go (some x) e f p g h = rw (begin_over, e) f

  pub step_named : (r : Record) (n : ℕ) → Named (step_over steps i l r n w a).answer
  unfolding step_over step_checks begin_checks
  step_named r n = go (first (step_checks i l r w a)) refl
      (then_named (begin_checks i l w a ++ place_checks i) _ (then_named (begin_checks i l w a) (place_checks i) (query_named i l _) (place_named i))
      (asks_named 16 _ [] (omega arith) last_named))
    where
      go : (o : Option Said) → first (step_checks i l r w a) ≡ o → Named o → Named (step_over steps i l r n w a).answer
      go none e h = rw (step_over, e) Named·passed
      go (some x) e h = rw (step_over, e) h

-- ---- judging
pub judge_named : (i : Inputs) (s : List ℕ) (w : Work) → Named (first (judge_checks i s w))
unfolding judge_checks group_checks query_checks
judge_named i s w =
    let long : Bool = work_fits i.query.window w in
    then_named (group_checks i ++ query_checks i long ++ place_checks i) _
    (then_named (group_checks i ++ query_checks i long) (place_checks i)
    (asks_named 10 _ _ (omega arith)
    (asks_named 2 _ _ (omega arith) (asks_named 3 _ _ (omega arith) (asks_named 4 _ _ (omega arith) (asks_named 6 _ [] (omega arith) last_named))))) (place_named i))
    (asks_named 17 _ [] (omega arith) last_named)
