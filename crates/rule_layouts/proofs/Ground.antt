-- The ground that a set leaves: as many centres as chains lead to from the start, over the centres that it leaves open to the blocked mover. So none where the
-- start is not open, and no more where members are added, for these leave no more open.
use Prim.Native.Nat.{ℕ, ◌≤◌}
use mathlib.Core.Path.{◌≡◌}
use mathlib.Core.Bool.{false}
use mathlib.Core.List.{List, Memᴰ}
use Rattle.base_laws.specs.Lists.{HowMany}
use Rattle.rule_routes.specs.Chains.{Joined}
use Rattle.rule_routes.proofs.Reach.{reach_joined, reach_closed, reach_less}
use Rattle.rule_layouts.specs.Boards.{Board, leaves_open}
use Rattle.rule_layouts.specs.Judge.{ground_left}
use Rattle.rule_layouts.specs.Regular.{Regular}
use Rattle.rule_layouts.proofs.Explored.{leaves_open_within}

module _ (g : Board) (regular : Regular g) where
  pub ground_joined : (s : List ℕ) → HowMany (Joined g.edges (leaves_open g.block s) g.start) (ground_left g s)
  unfolding ground_left
  ground_joined s = reach_joined g.edges g.nodes regular.within (leaves_open g.block s) g.start regular.from

  -- none where the start is not left open
  pub ground_closed : (s : List ℕ) → leaves_open g.block s g.start ≡ false → ground_left g s ≡ 0
  unfolding ground_left
  ground_closed s e = reach_closed g.edges g.nodes regular.within (leaves_open g.block s) g.start regular.from e

  -- no more where members are added
  pub ground_shrinks : (s t : List ℕ) → ((k : ℕ) → Memᴰ k s → Memᴰ k t) → ground_left g t ≤ ground_left g s
  unfolding ground_left
  ground_shrinks s t sub =
      reach_less g.edges g.nodes regular.within (leaves_open g.block t) (leaves_open g.block s) (leaves_open_within g.block s t sub) g.start regular.from
