-- What is promised of judging (RULES 13), over the C function (RULES 7.10): the claim of promise/specs/Judging where the verdict is a number and an answer of 0 is an
-- accepted call.
use Rattle.std.specs.Prelude.{ℕ, ◌≤◌, ◌≡◌, false, ◌↔◌, ℤ}
use mathlib.Core.List.{List, Memᴰ}
use Rattle.base_laws.specs.Lists.{HowMany}
use Rattle.rule_routes.specs.Edges.{steps_of}
use Rattle.rule_layouts.specs.Boards.{leaves_open}
use Rattle.rule_layouts.specs.Inputs.{Inputs, board_of}
use Rattle.rule_layouts.specs.Walls.{IsWall}
use Rattle.rule_calls.specs.Areas.{Work}
use Rattle.promise.specs.Judging.{ComesTo}
use Rattle.walls_numbers.specs.Left.{LeftJudged, judge_on}

-- what an accepted judging has told of a selection
pub record JudgedRightOn (table : List ℤ) (i : Inputs) (s : List ℕ) (o : LeftJudged) : Type 0 where
  -- verdict 7 is Wall
  pub wall : (o.verdict ≡ 7) ↔ IsWall (board_of (steps_of table) i) s
  pub reached : HowMany (ComesTo table i s) o.ground
  -- none where the start is not left open
  pub closed : leaves_open (board_of (steps_of table) i).block s (board_of (steps_of table) i).start ≡ false → o.ground ≡ 0
  -- no more where members are added, whatever the table
  pub shrinks : (other : List ℤ) (t : List ℕ) → ((k : ℕ) → Memᴰ k s → Memᴰ k t) → (work : Work)
      → (judge_on other i t work).answer ≡ 0 → (judge_on other i t work).ground ≤ o.ground
