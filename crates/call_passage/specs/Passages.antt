-- Whether a mover passes from end to end over its baseline alone: refusals 7, 8 and 9.
use Rattle.std.specs.Prelude.{◌≡◌, true, List, [], ◌∷◌, ℕ, ◌≤◌, length, take, replicate}
use Rattle.std.proofs.Math.Option.{Option}
use Rattle.base_laws.specs.Lists.{is_some}
use Rattle.base_model.specs.Answers.{Said, ask, first}
use Rattle.base_model.specs.declared.Rect.{Rect}
use Rattle.base_model.specs.declared.Position.{Position}
use Rattle.ground_rects.specs.Windows.{width, height, centres, window_fits, in_window, centre_at}
use Rattle.rule_routes.specs.Edges.{Step, window_edges}
use Rattle.rule_routes.specs.Routes as routes
use Rattle.route_find.specs.Ground.{open_in}

-- the route over the baseline alone
unfoldable pub route_over : List Step → Rect → Position → Position → List ℕ → Option (List ℕ)
route_over steps w start end base =
    routes.route (window_edges (width w) (height w) steps) (centres w) (open_in base) (centre_at w start) (centre_at w end)

-- 7: start blocked; 8: end blocked; 9: no route exists
unfoldable pub passage_over : List Step → Rect → Position → Position → List ℕ → Option Said
passage_over steps w start end base =
    first (ask 7 (open_in base (centre_at w start)) ∷ ask 8 (open_in base (centre_at w end)) ∷ ask 9 (is_some (route_over steps w start end base)) ∷ [])

-- the ends lie in a window that passes 2, the baseline is long enough, and the working areas are zero
pub record PassageReady (w : Rect) (start end : Position) (base queue predecessors route : List ℕ) : Type 0 where
  pub window : window_fits 8192 8192 w ≡ true
  pub start_in : in_window w start ≡ true
  pub end_in : in_window w end ≡ true
  pub base_room : centres w ≤ length base
  pub queue_clear : take (centres w) queue ≡ replicate (centres w) 0
  pub predecessors_clear : take (centres w) predecessors ≡ replicate (centres w) 0
  pub route_clear : take (centres w) route ≡ replicate (centres w) 0
