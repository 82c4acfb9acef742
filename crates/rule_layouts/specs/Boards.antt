-- What sets of placements are set on: nodes with edges, two movers, and placements told apart by index (RULES 3.3, 3.4, 3.5).
use Rattle.std.specs.Prelude.{ℕ, Bool, not, ◌&&◌, List, eqb, ltb, length}
use Rattle.std.proofs.Math.Option.{Option}
use Rattle.base_laws.specs.Lists.{any_of, select, member}
use Rattle.rule_routes.specs.Edges.{Edge}
use Rattle.rule_routes.specs.Routes.{route}

-- a mover: the nodes that its baseline blocks, and those that the collision rectangle of placement i keeps it off
pub record Mover : Type 0 where
  pub blocked : ℕ → Bool
  pub kept_off : (i c : ℕ) → Bool

-- the placements: how many, the group of each, the slot count of a group, and whose footprints overlap
pub record Places : Type 0 where
  pub count : ℕ
  pub group : ℕ → ℕ
  pub slots : ℕ → ℕ
  pub overlap : (i j : ℕ) → Bool

pub record Board : Type 0 where
  pub nodes : ℕ
  pub edges : ℕ → List Edge
  pub start : ℕ
  pub end : ℕ
  pub block : Mover
  pub allow : Option Mover
  pub places : Places

module _ (p : Places) where
  -- how many members are of group k
  unfoldable pub used : ℕ → List ℕ → ℕ
  used k s = length (select (λ (i : ℕ). eqb (p.group i) k) s)

  -- placement i may join the set: no member, a free slot, no member's footprint overlapped
  unfoldable pub may_join : List ℕ → ℕ → Bool
  may_join s i =
      not (member i s) && ltb (used (p.group i) s) (p.slots (p.group i)) && not (any_of (λ (j : ℕ). p.overlap i j) s)

-- a set leaves a centre open to a mover where the mover's baseline has 0 and no member's collision rectangle keeps it off
unfoldable pub leaves_open : Mover → List ℕ → ℕ → Bool
leaves_open m s c = not (m.blocked c) && not (any_of (λ (i : ℕ). m.kept_off i c) s)

module _ (g : Board) where
  unfoldable pub open_ends : Mover → List ℕ → Bool
  open_ends m s = leaves_open m s g.start && leaves_open m s g.end

  -- the route that a set leaves a mover; none where an end is blocked
  unfoldable pub route_past : Mover → List ℕ → Option (List ℕ)
  route_past m s = route g.edges g.nodes (leaves_open m s) g.start g.end
