-- What a map holds once routes past a set have been looked for.
use Rattle.std.specs.Prelude.{ℕ, ◌-◌, not, List, [], ◌∷◌, map, length}
use Rattle.std.proofs.Math.Option.{Option, none, some}
use Rattle.base_laws.specs.Lists.{below, first_of, is_some}
use Rattle.base_model.specs.declared.Rect.{Rect}
use Rattle.ground_rects.specs.Windows.{centres}
use Rattle.rule_routes.specs.Edges.{Step}
use Rattle.rule_layouts.specs.Boards.{Mover}
use Rattle.set_blocked.specs.Blocked.{blocked_map, without_at}
use Rattle.set_pass.specs.Pass.{passed}

module _ (w : Rect) (steps : List Step) (start end : ℕ) where
  -- the number of the first member whose lifting leaves no open ends and route, or of the last member where each leaves them
  unfoldable pub last_lifted : Mover → List ℕ → ℕ
  last_lifted m s = first_of (map (λ (k : ℕ). (not (is_some (passed w steps start end m (without_at k s))), k)) (below (length s))) (length s - 1)

  -- members are lifted in turn, up to that one: what the set without it blocks; with no member the map is as it was
  unfoldable pub map_after_lifting : Mover → (s cells : List ℕ) → List ℕ
  map_after_lifting m [] cells = cells
  map_after_lifting m (x ∷ s) cells = blocked_map m (centres w) (without_at (last_lifted m (x ∷ s)) (x ∷ s))

-- what the set blocks to the allowed mover; with no such mover the map is as it was
unfoldable pub map_after_allowed : Rect → Option Mover → (s cells : List ℕ) → List ℕ
map_after_allowed w none s cells = cells
map_after_allowed w (some m) s cells = blocked_map m (centres w) s
