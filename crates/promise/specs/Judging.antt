-- What is promised of judging (RULES 13): Wall is the verdict on walls alone, and the ground left is the number of centres joined to the start. Which of the other
-- verdicts applies is said by the definition alone.
use Rattle.std.specs.Prelude.{ℕ, ◌≤◌, ◌≡◌, false, ◌↔◌, ℤ}
use mathlib.Core.List.{List, Memᴰ}
use Rattle.base_laws.specs.Lists.{HowMany}
use Rattle.base_model.specs.declared.Verdict.{Verdict}
use Rattle.base_model.specs.declared.Verdict.TheVariants.{Wall}
use Rattle.rule_routes.specs.Edges.{steps_of}
use Rattle.rule_routes.specs.Chains.{Joined}
use Rattle.rule_layouts.specs.Boards.{Board, leaves_open}
use Rattle.rule_layouts.specs.Inputs.{Inputs, board_of}
use Rattle.rule_layouts.specs.Walls.{IsWall}
use Rattle.rule_calls.specs.Areas.{Work}
use Rattle.rule_calls.specs.Calls.{judges, judge_call}

module _ (table : List ℤ) (i : Inputs) where
  -- the blocked mover comes from the start to centre c past the selection, over a chain of steps
  unfoldable pub ComesTo : List ℕ → ℕ → Type 0
  ComesTo s c = let g : Board = board_of (steps_of table) i in Joined g.edges (leaves_open g.block s) g.start c

  -- what verdict and ground say of a selection
  pub record JudgedRight (s : List ℕ) (v : Verdict) (ground : ℕ) : Type 0 where
    pub wall : (v ≡ Wall) ↔ IsWall (board_of (steps_of table) i) s
    pub reached : HowMany (ComesTo s) ground
    -- none where the start is not left open
    pub closed : leaves_open (board_of (steps_of table) i).block s (board_of (steps_of table) i).start ≡ false → ground ≡ 0
    -- no more where members are added, whatever the table
    pub shrinks : (other : List ℤ) (t : List ℕ) → ((k : ℕ) → Memᴰ k s → Memᴰ k t) → (work : Work) (u : Verdict) (less : ℕ)
        → (judge_call other i t work).answer ≡ judges u less → less ≤ ground
