-- The set that leaves a route: its points are a trail in the window, so the placements listed are the set's extensions.
use Rattle.std.specs.Prelude.{Some}
use Rattle.std.specs.Prelude as std
use Prim.Native.Nat.{ℕ, ◌*◌, ◌<◌}
use mathlib.Core.Path.{◌≡◌, refl, sym, ap, ◌∙◌, subst}
use mathlib.Core.Bool.{true}
use mathlib.Core.Option.{some}
use mathlib.Core.List.{List}
use lib.ListN.{take}
use Rattle.base_model.specs.declared.Rect.{Rect}
use Rattle.ground_rects.specs.Windows.{width, height, centres}
use Rattle.rule_routes.specs.Edges.{Step, steps_of, each_once, window_edges}
use Rattle.rule_routes.proofs.RouteTheorem.{route_is_road}
use Rattle.rule_routes.proofs.WindowLaws.{window_within}
use Rattle.rule_layouts.specs.Boards.{Mover, leaves_open}
use Rattle.set_places.specs.declared.Given.{Given}
use Rattle.set_places.specs.Given.{places_at}
use Rattle.rule_layouts.specs.Explore.{Extend, touches, extensions, explore}
use Rattle.set_blocked.specs.Blocked.{mover_in}
use Rattle.set_extend.specs.Touch.{Trail, touched}
use Rattle.set_extend.specs.Join.{extending, ListWritten}
use Rattle.set_extend.proofs.Touching.{walk_linked}
use Rattle.route_find.specs.Results.{Routed}
use Rattle.set_board.specs.Board.{flat_board}
use Rattle.set_pass.specs.Pass.{passed}
use Rattle.set_pass.specs.declared.Ground.{Ground}
use Rattle.set_pass.specs.Lent.{block_on, block_past}
use Rattle.set_pass.proofs.Routed.{laid_by, free_written}
use Rattle.set_explore.specs.declared.Explored as answer
use Rattle.set_explore.specs.Evaluation.{Evaluated, board_on}
use Rattle.set_explore.proofs.Evaluating.{explore_route, eval_extend, flat_block}

pub trail_of : (w : Rect) (steps : List Step) (start end : ℕ) (m : Mover) (s r : List ℕ) → each_once steps ≡ true → start < centres w → passed w steps start end m s ≡ some r → Trail w steps r
unfolding passed centres
trail_of w steps start end m s r once h e =
    let road = route_is_road (window_edges (width w) (height w) steps) (width w * height w) (window_within (width w) (height w) steps) (leaves_open m s) start end h r e in
    record { once = once; small = road.small; linked = walk_linked (window_edges (width w) (height w) steps) (leaves_open m s) road.walk }

module _ (g : Ground) (i : Given) (n : ℕ) (s : List ℕ) where
  flat_extensions : (r : List ℕ) → extensions (board_on g i n) s r ≡ extending (places_at n g.places) g.places.edges.now i.query.block g.window (steps_of g.steps.now) s r
  unfolding extensions touches extending touched flat_board mover_in
  flat_extensions r = refl

  pub eval_extended : each_once (steps_of g.steps.now) ≡ true → g.start < centres g.window → {route route₁ route₂ list list' : List ℕ} {r : std.Option ℕ} {k found : ℕ} → r ≡ Some k
      → Routed (block_past g i s) route route₁ r
      → ((steps : List Step) → Trail g.window steps (take k route₁)
      → ListWritten (extending (places_at n g.places) g.places.edges.now i.query.block g.window steps s (take k route₁)) list list' found)
      → route₂ ≡ route
      → Evaluated (explore (board_on g i n) s) (answer.TheVariants.Extend found) list list' route route₂
  unfolding flat_board
  eval_extended once h {route} {route₁} {route₂} {list} {list'} {r} {k} {found} e t es kept =
      let steps = steps_of g.steps.now in
      let l = free_written (laid_by t) k e in
      let trail = trail_of g.window steps g.start g.end (block_on g i) s l.points once h l.is in
      let found_in = es steps (subst (λ (x : List ℕ). Trail g.window steps x) (sym l.first) trail) in
      eval_extend (explore (board_on g i n) s)
      (extending (places_at n g.places) g.places.edges.now i.query.block g.window steps s l.points) list list' route route₂ found
      (explore_route (board_on g i n) s l.points (flat_block g i n s ∙ l.is) ∙ ap Extend (flat_extensions l.points))
      (subst (λ (x : List ℕ). ListWritten (extending (places_at n g.places) g.places.edges.now i.query.block g.window steps s x) list list' found) l.first found_in)
      kept
