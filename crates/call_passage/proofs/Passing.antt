-- What the search for a route over a baseline comes to, as the three checks give it; and an area of zeros into which a route was laid is zero again when its first
-- entries are cleared.
use mathlib.Core.Path.{◌≡◌, refl, sym, ◌∙◌, subst}
use mathlib.Core.Bool.{true, false}
use mathlib.Core.Option.{Option, none, some}
use mathlib.Core.List.{List, ◌++◌}
use Prim.Native.Nat.{ℕ, ◌*◌, ◌≤◌}
use native.Mathlib.Omega.{arith}
use borrow.Author.Tests.{eq-eqb}
use lib.ListN.{length, get_or, take, drop, replicate, length-append}
use Rattle.base_laws.specs.Lists.{is_some}
use Rattle.base_laws.proofs.Stores.{laid_cleared}
use Rattle.base_model.specs.Answers.{refusal, ask, first}
use Rattle.base_model.specs.declared.Rect.{Rect}
use Rattle.base_model.specs.declared.Position.{Position}
use Rattle.ground_rects.specs.Windows.{width, height, centres, window_fits, in_window, centre_at}
use Rattle.ground_rects.proofs.Windows.{framed}
use Rattle.rule_routes.specs.Edges.{Step, window_edges}
use Rattle.rule_routes.specs.Routes as routes
use Rattle.rule_routes.proofs.RouteTheorem.{route_is_road}
use Rattle.rule_routes.proofs.WindowLaws.{window_within}
use Rattle.route_find.specs.Ground.{open_in, Window}
use Rattle.route_find.specs.Results.{LentAll, Routed, counted, point_count, laid_into}
use Rattle.std.specs.Prelude as std
use Rattle.std.specs.Prelude.{None, Some}
use Rattle.route_find.proofs.Clears.{clear_room}
use Rattle.rule_layouts.proofs.Regular.{centre_at_below}
use Rattle.call_passage.specs.Passages.{route_over, passage_over, PassageReady}

-- ---- the three checks
module _ (steps : List Step) (w : Rect) (start end : Position) (base : List ℕ) where
  pub no_route_lem : open_in base (centre_at w start) ≡ true → open_in base (centre_at w end) ≡ true → is_some (route_over steps w start end base) ≡ false
      → some (refusal 9) ≡ passage_over steps w start end base
  unfolding passage_over ask first
  no_route_lem d e f = rw (d, e, f) refl

  pub a_route : open_in base (centre_at w start) ≡ true → open_in base (centre_at w end) ≡ true → is_some (route_over steps w start end base) ≡ true
      → none ≡ passage_over steps w start end base
  unfolding passage_over ask first
  a_route d e f = rw (d, e, f) refl

  -- ---- the route's area
  fits : window_fits 8192 8192 w ≡ true → in_window w start ≡ true → (o : Option (List ℕ)) → route_over steps w start end base ≡ o → point_count o ≤ centres w
  unfolding route_over point_count centres
  fits h i none e = omega arith
  fits h i (some r) e =
      (route_is_road (window_edges (width w) (height w) steps) (width w * height w) (window_within (width w) (height w) steps) (open_in base) (centre_at w start) (centre_at w end)
      (unfold centres in centre_at_below w start i) r e).short

  -- the route fits into the window's centres
  pub route_fits : window_fits 8192 8192 w ≡ true → in_window w start ≡ true → point_count (route_over steps w start end base) ≤ centres w
  route_fits h i = fits h i (route_over steps w start end base) refl

-- an area of zeros is as it was when the route that was laid into it is cleared
route_cleared : (c : ℕ) (route : List ℕ) → take c route ≡ replicate c 0 → (o : Option (List ℕ)) → point_count o ≤ c
    → replicate (point_count o) 0 ++ drop (point_count o) (laid_into o route) ≡ route
unfolding point_count laid_into
route_cleared c route z none h = refl
route_cleared c route z (some r) h = laid_cleared 0 c route z r h

-- ---- the call of the search for a route, on areas that are ready
module _ (steps : List Step) {w : Rect} {start end : Position} {base queue predecessors route : List ℕ} (r : PassageReady w start end base queue predecessors route)
    (m n from to : ℕ) (across : m ≡ width w) (down : n ≡ height w) (starts : from ≡ centre_at w start) (ends : to ≡ centre_at w end) where
  pub grid_whole : Window base m n
  unfolding centres
  grid_whole = let few = (framed 8192 8192 w r.window).few in rw (across, down) (record { bytes = r.base_room; small = omega arith })

  pub route_ready : LentAll (m * n) from to queue predecessors route
  unfolding centres
  route_ready =
      let s = centre_at_below w start r.start_in in
      let e = centre_at_below w end r.end_in in
      rw (across, down, starts, ends) (
      record { working = record { queue_clear = r.queue_clear; predecessors_clear = r.predecessors_clear; start_below = s }; end_below = e; route_room = clear_room (centres w) route r.route_clear }
      )

  -- what the search finds is the route over the baseline
  over : routes.route (window_edges m n steps) (m * n) (open_in base) from to ≡ route_over steps w start end base
  unfolding route_over centres
  over = rw (across, down, starts, ends) refl

  module _ {route' : List ℕ} {k : std.Option ℕ} (d : Routed (routes.route (window_edges m n steps) (m * n) (open_in base) from to) route route' k)
      (from_open : get_or base from 0 ≡ 0) (to_open : get_or base to 0 ≡ 0) where
    so : open_in base (centre_at w start) ≡ true
    unfolding open_in
    so = rw starts at (eq-eqb (get_or base from 0) 0 from_open)

    eo : open_in base (centre_at w end) ≡ true
    unfolding open_in
    eo = rw ends at (eq-eqb (get_or base to 0) 0 to_open)

    found : Routed (route_over steps w start end base) route route' k
    found = subst (λ (o : Option (List ℕ)). Routed o route route' k) over d

    missing : (o : Option (List ℕ)) → counted o ≡ None → (is_some o ≡ false) × (laid_into o route ≡ route)
    unfolding is_some laid_into counted
    missing none e = (refl, refl)
    missing (some p) e = absurd (cc)

    pub passes_not : k ≡ None → (some (refusal 9) ≡ passage_over steps w start end base) × (route' ≡ route)
    passes_not z =
        let none' = missing (route_over steps w start end base) (sym found.count ∙ z) in
        (no_route_lem steps w start end base so eo none'.0, found.points ∙ none'.1)

    there : (o : Option (List ℕ)) (j : ℕ) → counted o ≡ Some j → (is_some o ≡ true) × (point_count o ≡ j) × (j ≤ length (laid_into o route))
    unfolding is_some laid_into counted point_count
    there none j e = absurd (cc)
    there (some p) j e =
        let l : length p ≡ j = cc in
        (refl, l, omega (arith, l, length-append p (drop (length p) route)))

    module _ {j : ℕ} (z : k ≡ Some j) where
      pub passes : none ≡ passage_over steps w start end base
      passes = a_route steps w start end base so eo (there (route_over steps w start end base) j (sym found.count ∙ z)).0

      pub route_room : j ≤ length route'
      route_room = rw found.points (there (route_over steps w start end base) j (sym found.count ∙ z)).2

      pub route_restored : replicate j 0 ++ drop j route' ≡ route
      route_restored =
          rw (← (there (route_over steps w start end base) j (sym found.count ∙ z)).1, found.points)
          (route_cleared (centres w) route r.route_clear (route_over steps w start end base) (route_fits steps w start end base r.window r.start_in))
