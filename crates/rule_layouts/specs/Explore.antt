-- The evaluation of a set, `explore` (RULES 4.1, 4.2, 4.3).
use Rattle.std.specs.Prelude.{ℕ, Bool, true, false, ◌&&◌, List, [], map}
use Rattle.std.proofs.Math.Option.{Option, none, some}
use Rattle.base_laws.specs.Lists.{any_of, all_of, select, below, without, is_some}
use Rattle.rule_routes.specs.Routes.{leans_on}
use Rattle.rule_layouts.specs.Boards.{Board, open_ends, route_past, may_join}

-- what the evaluation of a set comes to: nothing follows, its extensions, or a wall with the points of the allowed route
pub data Outcome (Point : Type 0) : Type 0 where
  Nothing : Outcome Point
  Extend : List ℕ → Outcome Point
  Wall : List Point → Outcome Point

unfoldable pub map_points : {A B : Type 0} → (A → B) → Outcome A → Outcome B
map_points f Nothing = Nothing
map_points f (Extend es) = Extend es
map_points f (Wall r) = Wall (map f r)

module _ (g : Board) where
  -- placement i touches the route: it covers a route point, or a side centre of a diagonal route step
  unfoldable pub touches : List ℕ → ℕ → Bool
  touches r i = any_of (λ (c : ℕ). g.block.kept_off i c) (leans_on g.edges r)

  -- the extensions, in index order. With at most six slots together a set of six members has no free slot, so it has none.
  unfoldable pub extensions : List ℕ → List ℕ → List ℕ
  extensions s r = select (λ (i : ℕ). may_join g.places s i && touches r i) (below g.places.count)

  -- lifting any one member gives open ends and a route
  unfoldable pub is_minimal_block : List ℕ → Bool
  is_minimal_block s = all_of (λ (i : ℕ). is_some (route_past g g.block (without i s))) s

  -- the allowed mover's route, none where it lacks an end or a route; no points where there is no allowed mover
  unfoldable pub allowed_route : List ℕ → Option (List ℕ)
  allowed_route s = elim g.allow [ none ↦ some [] | some m ↦ route_past g m s ]

  unfoldable pub wall_by : Option (List ℕ) → Outcome ℕ
  wall_by none = Nothing
  wall_by (some r) = Wall r

  unfoldable pub explore : List ℕ → Outcome ℕ
  explore s =
      elim (open_ends g g.block s) [
        | false ↦ Nothing
        | true ↦
            elim (route_past g g.block s) [
              | some r ↦ Extend (extensions s r)
              | none ↦ elim (is_minimal_block s) [ false ↦ Nothing | true ↦ wall_by (allowed_route s) ]
            ]
      ]
