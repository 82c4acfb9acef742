-- The form that a search on a board has, and what is asked of its plan.
use Rattle.std.specs.Prelude.{ℕ, ◌≤◌, ◌<◌, ◌≡◌, Bool, true, length}
use Rattle.std.proofs.Math.Option.{none}
use mathlib.Core.List.{List, [], ◌∷◌, Memᴰ}
use Rattle.base_laws.specs.Lists.{ascends}
use Rattle.base_model.specs.declared.Position.{Position}
use Rattle.rule_layouts.specs.Boards.{Board}
use Rattle.rule_layouts.specs.Explore.{map_points, explore}
use Rattle.rule_layouts.specs.Fits.{MayJoin}
use Rattle.rule_search.specs.State.{Running, Extensions, Layout, State, set_on, points_kept}
use Rattle.rule_search.specs.Frames.{Plan}

-- the plan evaluates sets on the board g, and hands out the route's centres as positions
pub record PlanOn (g : Board) (at : ℕ → Position) (p : Plan) : Type 0 where
  pub evaluates : (s : List ℕ) → p.evaluate s ≡ map_points at (explore g s)

-- the pending set has not been evaluated, and may be
pub record Fresh (p : Plan) (ls : List Extensions) (v : List (List ℕ)) : Type 0 where
  pub room : length v < p.states
  pub new : Memᴰ (set_on ls) v → ⊥

-- a set as it is entered
pub record FormedRow (g : Board) (s : List ℕ) : Type 0 where
  pub is_set : ascends s ≡ true
  pub named : (i : ℕ) → Memᴰ i s → i < g.places.count
  pub six : length s ≤ 6

-- a list above others; b says that a list or a pending set stands on it
pub record FormedList (g : Board) (b : Bool) (l : Extensions) (ls : List Extensions) : Type 0 where
  pub joins : (i : ℕ) → Memᴰ i l.entries → (i < g.places.count) × MayJoin g.places (set_on ls) i
  pub short : length l.entries ≤ g.places.count
  pub inside : l.next ≤ length l.entries
  pub used : b ≡ true → 0 < l.next

abbrev pub FormedLists : Board → Bool → List Extensions → Type 0
FormedLists g b [] = Unit {0}
FormedLists g b (l ∷ ls) = FormedList g b l ls × FormedLists g true ls

pub record FormedLayout (g : Board) (y : Layout) : Type 0 where
  pub row : FormedRow g y.members
  pub short : length y.route ≤ g.nodes
  pub unless : g.allow ≡ none → y.route ≡ []

pub record Formed (g : Board) (s : State) : Type 0 where
  pub visited : (w : List ℕ) → Memᴰ w s.visited → FormedRow g w
  pub listed : (y : Layout) → Memᴰ y s.layouts → FormedLayout g y
  pub lists : FormedLists g s.pending s.lists
  pub deep : length s.lists ≤ 6

-- the limits on layouts and kept points
pub record InLimits (p : Plan) (s : State) : Type 0 where
  pub results : length s.layouts ≤ p.results
  pub running : s.reason ≡ Running → length s.layouts < p.results
  pub points : points_kept s.layouts ≤ 1000000

-- formed, and within all limits
pub record Good (g : Board) (p : Plan) (s : State) : Type 0 where
  pub formed : Formed g s
  pub limits : InLimits p s
  pub states : length s.visited ≤ p.states
