-- Boards by two orders of the eight steps have the same ground and the same verdicts, since these ask of a route only whether there is one.
use Prim.Native.Nat.{ℕ}
use mathlib.Core.Path.{◌≡◌, refl, ap, fun_ext}
use mathlib.Core.Bool.{Bool, true, not}
use mathlib.Core.Option.{Option, none, some}
use mathlib.Core.List.{List, [], ◌∷◌}
use Rattle.base_laws.specs.Lists.{all_of, first_of, is_some, without}
use Rattle.base_laws.proofs.Members.{same_truth}
use Rattle.base_laws.proofs.HowMany.{many_same}
use Rattle.base_model.specs.declared.Verdict.TheVariants.{Slots, Overlap, EndCovered, Open, Spare, Shut, Wall}
use Rattle.ground_rects.specs.Windows.{width, height, in_window}
use Rattle.rule_routes.specs.Edges.{Step, each_once}
use Rattle.rule_routes.proofs.WindowLaws.{joined_order}
use Rattle.rule_layouts.specs.Boards.{Mover, Board, leaves_open, open_ends, route_past}
use Rattle.rule_layouts.specs.Explore.{is_minimal_block, allowed_route}
use Rattle.rule_layouts.specs.Inputs.{Inputs, board_of}
use Rattle.rule_layouts.specs.Judge.{over_slots, overlaps, verdict, ground_left}
use Rattle.rule_layouts.specs.Regular.{Regular}
use Rattle.rule_layouts.proofs.Regular.{regular_board}
use Rattle.rule_layouts.proofs.Explored.{is_some_passes, passes_is_some}
use Rattle.rule_layouts.proofs.SameWalls.{passes_steps}
use Rattle.rule_layouts.proofs.Ground.{ground_joined}

module _ (i : Inputs) (a b : List Step) (p : each_once a ≡ true) (q : each_once b ≡ true)
    (ends : (in_window i.query.window i.query.start ≡ true) × (in_window i.query.window i.query.end ≡ true)) where
  abbrev one : Board
  one = board_of a i

  abbrev other : Board
  other = board_of b i

  one_regular : Regular one
  one_regular = regular_board a i p ends.0 ends.1

  other_regular : Regular other
  other_regular = regular_board b i q ends.0 ends.1

  -- as many centres are joined to the start
  pub ground_order : (s : List ℕ) → ground_left one s ≡ ground_left other s
  unfolding board_of
  ground_order s =
      let w = i.query.window in
      many_same
      (λ c. (
        joined_order (width w) (height w) a b p q (leaves_open one.block s),
        joined_order (width w) (height w) b a q p (leaves_open one.block s),
      ))
      (ground_joined one one_regular s) (ground_joined other other_regular s)

  -- there is a route by one exactly when there is one by the other
  pub route_order : (m : Mover) (s : List ℕ) → is_some (route_past one m s) ≡ is_some (route_past other m s)
  route_order m s =
      same_truth (is_some (route_past one m s)) (is_some (route_past other m s))
      (λ t. passes_is_some other other_regular m s (passes_steps i a b p q m s (is_some_passes one one_regular m s t)))
      (λ t. passes_is_some one one_regular m s (passes_steps i b a q p m s (is_some_passes other other_regular m s t)))

  minimal_order : (s : List ℕ) → is_minimal_block one s ≡ is_minimal_block other s
  unfolding is_minimal_block board_of
  minimal_order s = ap (λ (f : ℕ → Bool). all_of f s) (fun_ext (λ k. route_order one.block (without k s)))

  allowed_order : (s : List ℕ) → is_some (allowed_route one s) ≡ is_some (allowed_route other s)
  unfolding allowed_route board_of is_some
  allowed_order s = go one.allow
    where
      go : (m : Option Mover) → is_some {A = List ℕ} (elim m [ none ↦ some [] | some m ↦ route_past one m s ])
          ≡ is_some {A = List ℕ} (elim m [ none ↦ some [] | some m ↦ route_past other m s ])
      go none = refl
      go (some m) = route_order m s

  pub verdict_order : (s : List ℕ) → verdict one s ≡ verdict other s
  unfolding verdict over_slots overlaps open_ends board_of
  verdict_order s = λ x. first_of (
      (over_slots one s, Slots)
      ∷ (overlaps one s, Overlap)
      ∷ (not (open_ends one one.block s), EndCovered)
      ∷ (route_order one.block s x, Open)
      ∷ (not (minimal_order s x), Spare)
      ∷ (not (allowed_order s x), Shut)
      ∷ []) Wall
