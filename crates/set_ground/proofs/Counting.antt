-- The map that the code lays is the set's, so the centres reached over it are those to which there is a route past the set.
use Prim.Native.Nat.{ℕ, ◌*◌, ◌<◌}
use mathlib.Core.Path.{◌≡◌, refl, ap, ap₂, ◌∙◌}
use mathlib.Core.Option.{Option}
use mathlib.Core.List.{List}
use lib.ListN.{length}
use Rattle.base_laws.specs.Lists.{is_some, below}
use Rattle.base_laws.proofs.Lists.{below_out}
use Rattle.base_laws.proofs.Turns.{filter_same}
use Rattle.base_model.specs.declared.Rect.{Rect}
use Rattle.ground_rects.specs.Windows.{width, height, centres}
use Rattle.rule_routes.specs.Edges.{Step, window_edges}
use Rattle.rule_routes.specs.Routes as routes
use Rattle.rule_routes.specs.Routes.{reach_count}
use Rattle.rule_layouts.specs.Boards.{Mover, leaves_open}
use Rattle.set_blocked.specs.Blocked.{blocked_map}
use Rattle.set_pass.proofs.Passing.{past_is}
use Rattle.set_pass.specs.Pass.{passed}
use Rattle.route_find.specs.Ground.{open_in}

pub reach_past : (w : Rect) (steps : List Step) (start : ℕ) (m : Mover) (s cells : List ℕ) (W H : ℕ) → W ≡ width w → H ≡ height w → cells ≡ blocked_map m (centres w) s
    → start < centres w → reach_count (window_edges W H steps) (W * H) (open_in cells) start ≡ reach_count (window_edges (width w) (height w) steps) (centres w) (leaves_open m s) start
unfolding reach_count centres passed
reach_past w steps start m s cells W H p q e h =
    ap₂ (λ (x y : ℕ). reach_count (window_edges x y steps) (x * y) (open_in cells) start) p q
    ∙ ap length
    (filter_same (λ (v : ℕ). is_some (routes.route (window_edges (width w) (height w) steps) (centres w) (open_in cells) start v))
    (λ (v : ℕ). is_some (passed w steps start v m s)) (below (centres w))
    (λ v k. ap (λ (o : Option (List ℕ)). is_some o) (past_is w steps start v m s cells (width w) (height w) refl refl e h (below_out (centres w) v k))))
