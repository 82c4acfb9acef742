-- From the parts of a call to the route: wiped areas are as before, and what the walks give is the definition's route.
use mathlib.Core.Path.{◌≡◌, refl, sym, ap, ap₂, ◌∙◌}
use mathlib.Core.Bool.{Bool, true, false, ◌&&◌, true≢false, and-false}
use mathlib.Core.Logic.{⊎_elim}
use mathlib.Core.Option.{Option, none, some}
use mathlib.Core.List.{List, [], ◌∷◌, ◌++◌, reverse}
use Prim.Native.Nat.{ℕ, suc, ◌+◌, ◌≤◌}
use native.Mathlib.Omega.{arith}
use borrow.Author.Tests.{lt-ltb}
use lib.Dec.{eqb}
use lib.ListN.{length, take, drop, replicate, length-drop, length-reverse, take-append-drop}
use lib.Seq.{ext_get_or, get_or-drop, take-take}
use Rattle.std.specs.Prelude as std
use Rattle.std.specs.Prelude.{None, Some, unwrap_or}
use Rattle.std.proofs.lemmas.Option.{none-some, same_Some}
use Rattle.base_laws.specs.Lists.{is_some}
use Rattle.base_laws.proofs.Stores.{take_replicate}
use Rattle.rule_routes.specs.Edges.{Edge}
use Rattle.rule_routes.specs.Routes as routes
use Rattle.rule_routes.specs.Routes.{Route, Searched, search_from, nodes_of}
use Rattle.route_step.specs.Ground.{open_in}
use Rattle.route_find.specs.Results.{SearchLent, SearchLeft, SearchFound, point_count, counted, laid_into, RouteFound, Routed, SearchRestored}
use Rattle.route_back.specs.Ways.{Leads, BackCounted, RouteLaid}

-- ---- wiped areas
module _ (c start : ℕ) (queue predecessors : List ℕ) (lent : SearchLent c start queue predecessors) (tail : ℕ) (queue' predecessors' : List ℕ)
    (left : SearchLeft c tail queue predecessors queue' predecessors') (lq : length queue' ≡ length queue) (lp : length predecessors' ≡ length predecessors) where
  -- past the c centres no predecessor was written
  rest_kept : drop c predecessors' ≡ drop c predecessors
  rest_kept =
      ext_get_or 0 (drop c predecessors') (drop c predecessors) (omega (arith, length-drop c predecessors', length-drop c predecessors))
      (λ i h. get_or-drop c predecessors' i 0 ∙ ⊎_elim (λ m. absurd (let b = left.below (c + i) m in omega arith)) (λ e. e) (left.predecessors_kept (c + i)) ∙ sym (get_or-drop c predecessors i 0))

  pub restored : (queue'' predecessors'' : List ℕ) → queue'' ≡ replicate tail 0 ++ drop tail queue' → predecessors'' ≡ replicate c 0 ++ drop c predecessors'
      → SearchRestored queue predecessors queue'' predecessors''
  restored queue'' predecessors'' eq ep = record {
    queue_same =
        eq ∙ ap (λ (l : List ℕ). replicate tail 0 ++ l) left.queue_kept
        ∙ ap (λ (l : List ℕ). l ++ drop tail queue)
        (sym (sym (take-take tail c queue left.short) ∙ ap (take tail) lent.queue_clear ∙ take_replicate 0 tail c left.short))
        ∙ take-append-drop tail queue;
    predecessors_same = ep ∙ ap₂ (λ (x y : List ℕ). x ++ y) (sym lent.predecessors_clear) rest_kept ∙ take-append-drop c predecessors;
  }

-- ---- the route
module _ (edges : ℕ → List Edge) (c : ℕ) (cells : List ℕ) (start end : ℕ) (route : List ℕ) where
  abbrev found : Searched
  found = search_from edges c (open_in cells) (λ (v : ℕ). eqb v end) start

  abbrev answer : Option (List ℕ)
  answer = routes.route edges c (open_in cells) start end

  shut : open_in cells start && open_in cells end ≡ false → answer ≡ none
  unfolding routes.route
  shut e = rw (routes.route, e)

  open_ends_lem : open_in cells start ≡ true → open_in cells end ≡ true → answer ≡ nodes_of found.hit
  unfolding routes.route
  open_ends_lem s e = rw (routes.route, s, e)

  no_route_lem : answer ≡ none → Routed answer route route None
  unfolding counted laid_into
  no_route_lem e = rw e (record { count = refl; points = refl; some = λ q. none-some 0 q })

  pub blocked_start : open_in cells start ≡ false → Routed answer route route None
  blocked_start n = no_route_lem (shut (rw n))

  pub blocked_end : open_in cells end ≡ false → Routed answer route route None
  blocked_end n = no_route_lem (shut (rw (n, and-false (open_in cells start))))

  module _ (s : open_in cells start ≡ true) (e : open_in cells end ≡ true)
      (queue predecessors : List ℕ) (hit : Bool) (tail : ℕ) (f : SearchFound found queue predecessors start (Some end) hit tail) where
    pub routed_none : hit ≡ false → Routed answer route route None
    unfolding nodes_of is_some
    routed_none h = no_route_lem (open_ends_lem s e ∙ ap nodes_of (missing found.hit (sym f.ended ∙ h)))
      where
        missing : (o : Option Route) → is_some o ≡ false → o ≡ none
        missing none k = refl
        missing (some r) k = absurd (true≢false k)

    pub routed_some : hit ≡ true → (n : ℕ) → BackCounted predecessors start end n
        → (route' : List ℕ) → RouteLaid predecessors start end n route route' → Routed answer route route' (Some n)
    unfolding nodes_of counted laid_into
    routed_some h n c route' l =
        let way = f.way end refl h in
        let b = way.0.back in
        let is : answer ≡ some (reverse (end ∷ b)) = open_ends_lem s e ∙ ap nodes_of way.1 in
        let more : n ≡ suc (length b) = c b way.0.traced in
        let size : n ≡ length (reverse (end ∷ b)) = more ∙ sym (length-reverse (end ∷ b)) in
        rw is
        (record {
          count = ap (λ (k : ℕ). Some k) size;
          points = l b way.0.traced ∙ ap (λ (k : ℕ). reverse (end ∷ b) ++ drop k route) size;
          some = λ q. let z = same_Some n 0 q in omega arith;
        })

pub leads_more : {predecessors : List ℕ} {start end m : ℕ} (n : ℕ) → Leads predecessors start end m → m ≤ n → Leads predecessors start end n
leads_more n l h = record { back = l.back; traced = l.traced; fits = let f = l.fits in omega arith }

-- the answer as a number that is 0 where there is no route
pub routed_number : {o : Option (List ℕ)} {route route' : List ℕ} {r : std.Option ℕ} → Routed o route route' r → RouteFound o route route' (unwrap_or r 0)
unfolding counted point_count is_some
routed_number {o = none} f = record { count = rw f.count; points = f.points; exists = rw f.count }
routed_number {o = some []} f = absurd (f.some f.count)
routed_number {o = some (x ∷ p)} f = record { count = rw f.count; points = f.points; exists = rw f.count (sym (lt-ltb 0 (suc (length p)) (omega arith))) }
