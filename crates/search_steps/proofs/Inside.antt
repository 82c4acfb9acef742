-- The route of a wall keeps to the board.
use Prim.Native.Nat.{ℕ, ◌<◌}
use mathlib.Core.Path.{◌≡◌, sym, subst}
use mathlib.Core.Option.{Option, none, some, some-injective}
use mathlib.Core.List.Memᴰ
use mathlib.Core.List.{List, [], Memᴰ}
use Rattle.rule_routes.proofs.RouteTheorem.{route_is_road}
use Rattle.rule_layouts.specs.Boards.{Mover, Board, leaves_open, route_past}
use Rattle.rule_layouts.specs.Explore.{Wall, allowed_route, explore}
use Rattle.rule_layouts.specs.Regular.{Regular}
use Rattle.rule_layouts.proofs.Explored.{explore_wall}

pub wall_inside : (g : Board) → Regular g → (s r : List ℕ) → explore g s ≡ Wall r → (c : ℕ) → Memᴰ c r → c < g.nodes
unfolding allowed_route route_past
wall_inside g laid s r e c m = go g.allow (explore_wall g s r e).allowed
  where
    go : (a : Option Mover) → ◌≡◌ {A = Option (List ℕ)} (elim a [ none ↦ some [] | some m ↦ route_past g m s ]) (some r) → c < g.nodes
    go none q = absurd (Memᴰ.not-nil (subst (λ (r : List ℕ). Memᴰ c r) (sym (some-injective [] r q)) m))
    go (some x) q = (route_is_road g.edges g.nodes laid.within (leaves_open x s) g.start g.end laid.from r q).small c m
