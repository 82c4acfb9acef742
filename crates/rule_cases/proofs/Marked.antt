-- The marked cases (RULES 9.8), one table, computed by the checker through the calls.
use mathlib.Core.Path.{◌≡◌, refl}
use mathlib.Core.List.{List, [], ◌∷◌}
use lib.ListN.{replicate}
use Rattle.base_model.specs.declared.Rect.{Rect}
use Rattle.std.specs.Prelude.{None, Some}
use Rattle.base_model.specs.declared.Verdict.TheVariants.{Open, Wall, Overlap}
use Rattle.rule_routes.specs.Edges.{original_steps}
use Rattle.rule_search.specs.State.{Running, Exhausted, StateLimit, ResultLimit}
use Rattle.rule_calls.specs.Calls.{prepare_call, begin_call, judges}
use Rattle.rule_calls.proofs.Computing.{computing}
use Rattle.rule_calls.proofs.Drive.{
  Row,
  ◌gives◌,
  gots,
  wants,
  at,
  box,
  plain,
  limits,
  work_for,
  ShownLayout,
  layout,
  Shown,
  judged,
  passed,
  result,
  refused_with,
  answered,
  still0,
  Case,
  drive,
  judging,
  on_open_cell,
  places_p,
  P,
  P0,
  given,
  prepare_window,
  begin_window,
  driving,
}

-- the layouts (0) and (1 2), without an allowed mover
both : List ShownLayout
both = layout (0 ∷ []) [] ∷ layout (1 ∷ 2 ∷ []) [] ∷ []

first_alone : List ShownLayout
first_alone = layout (0 ∷ []) [] ∷ []

-- the window 2 by 2, the ends on opposite corners, a place on each of the other two
Q : Case
Q = on_open_cell (box 0 0 2 2) (at 0 0) (at 1 1) still0 None (limits 100 32) (2 ∷ []) (plain (box 1 0 2 1) ∷ plain (box 0 1 1 2) ∷ [])

-- prepare on a map of 128 by 129 cells, all walkable, with areas that are too short: 6 where checks 1 to 5 pass
preparing : Rect → Shown
preparing w = answered (prepare_call original_steps
    (record { map = record { across = 128; down = 129; cells = replicate 16512 1 }; obstacles = []; window = w; start = at 0 0; end = at 1 1; mover = still0 })
    [] (work_for (box 0 0 1 1))).answer

-- begin with areas that are too short: 6 where the checks before it pass
beginning : Rect → Shown
beginning w = answered (begin_call original_steps (given w (at 0 0) (at 1 1) still0 None [] [] [] []) (limits 1 1) (work_for (box 0 0 1 1))
    (record { lists = []; visited = []; layouts = []; points = [] })).answer

pub table : List (Row Shown)
table =
    (drive P0 (100 ∷ []) gives result Exhausted 4 3 both)
    ∷ (drive P0 (4 ∷ []) gives result Running 4 3 both)
    ∷ (drive P0 (4 ∷ 1 ∷ []) gives result Exhausted 4 3 both)
    ∷ (drive (P None 4 32 (2 ∷ []) places_p) (4 ∷ []) gives result StateLimit 4 3 both)
    ∷ (drive (P None 3 32 (2 ∷ []) places_p) (3 ∷ []) gives result StateLimit 3 3 first_alone)
    ∷ (drive (P None 100 1 (2 ∷ []) places_p) (100 ∷ []) gives result ResultLimit 2 3 first_alone)
    ∷ (drive (P None 100 2 (2 ∷ []) places_p) (100 ∷ []) gives result ResultLimit 4 3 both)
    ∷ (drive (P None 100 32 (1 ∷ []) places_p) (100 ∷ []) gives result Exhausted 3 3 first_alone)
    ∷ (drive (P (Some still0) 100 32 (2 ∷ []) places_p) (100 ∷ []) gives result Exhausted 4 3 [])
    ∷ (drive (P None 100 32 [] []) (100 ∷ []) gives result Exhausted 1 0 [])
    ∷ (drive (on_open_cell (box 0 0 5 3) (at 0 1) (at 0 1) still0 None (limits 100 32) (2 ∷ []) places_p) (100 ∷ []) gives result Exhausted 1 3 [])
    ∷ (judging P0 [] gives judged (judges Open 15))
    ∷ (judging P0 (0 ∷ []) gives judged (judges Wall 6))
    ∷ (judging P0 (0 ∷ 1 ∷ []) gives judged (judges Overlap 6))
    ∷ (drive Q (4 ∷ []) gives result Running 4 2 (layout (0 ∷ 1 ∷ []) [] ∷ []))
    ∷ (drive Q (4 ∷ 1 ∷ []) gives result Exhausted 4 2 (layout (0 ∷ 1 ∷ []) [] ∷ []))
    -- check 2 alone: 1,024 × 1,024 passes, 1,024 × 1,025 does not
    ∷ (answered (prepare_window 128 129 (box 0 0 1024 1024)) gives passed)
    ∷ (answered (prepare_window 128 129 (box 0 0 1024 1025)) gives refused_with 2)
    ∷ (answered (begin_window (box 0 0 1024 1024)) gives passed)
    ∷ (answered (begin_window (box 0 0 1024 1025)) gives refused_with 2)
    -- through the calls, with areas that are too short: the first window gets past 2, as far as 6; the second is refused by 2
    ∷ (preparing (box 0 0 1024 1024) gives refused_with 6)
    ∷ (preparing (box 0 0 1024 1025) gives refused_with 2)
    ∷ (beginning (box 0 0 1024 1024) gives refused_with 6)
    ∷ (beginning (box 0 0 1024 1025) gives refused_with 2)
    ∷ []

pub marked : gots table ≡ wants table
unfolding computing driving both first_alone Q preparing beginning table
marked = refl
