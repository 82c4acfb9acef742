-- What a wall is, said by chains and not by the search for a route (RULES 3.6).
use Rattle.std.specs.Prelude.{ℕ, ◌≤◌, ◌<◌, ◌≡◌, true, false, ◌≢◌}
use Rattle.std.proofs.Math.Option.{Option, none, some}
use mathlib.Core.List.{List, Memᴰ}
use Rattle.base_laws.specs.Lists.{ascends, without}
use Rattle.rule_routes.specs.Chains.{Joined}
use Rattle.rule_layouts.specs.Boards.{Mover, Board, leaves_open, used, open_ends}

-- a set leaves a mover open ends and a chain of steps between them
unfoldable pub Passes : Board → Mover → List ℕ → Type 0
Passes g m s = Joined g.edges (leaves_open m s) g.start g.end

unfoldable pub LetsPass : Board → Option Mover → List ℕ → Type 0
LetsPass g none s = Unit {0}
LetsPass g (some m) s = Passes g m s

pub record IsWall (g : Board) (s : List ℕ) : Type 0 where
  pub is_set : ascends s ≡ true
  pub named : (i : ℕ) → Memᴰ i s → i < g.places.count
  -- within each group's slots
  pub slotted : (k : ℕ) → used g.places k s ≤ g.places.slots k
  -- no footprints overlap
  pub apart : (i j : ℕ) → Memᴰ i s → Memᴰ j s → i ≢ j → g.places.overlap i j ≡ false
  -- both ends open to the blocked mover, no route, and one again when any single member is lifted
  pub ends_open : open_ends g g.block s ≡ true
  pub shut : Passes g g.block s → ⊥
  pub minimal : (i : ℕ) → Memᴰ i s → Passes g g.block (without i s)
  -- the allowed mover, if there is one, has open ends and a route
  pub allows : LetsPass g g.allow s
