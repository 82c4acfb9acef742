-- Routes past a set: the map that the code lays is the set's, so the route over it is the route past the set. A route that was clear is clear again when its points
-- are wiped.
use Prim.Native.Nat.{ℕ, ◌*◌, ◌≤◌, ◌<◌}
use Rattle.std.specs.Prelude as std
use Rattle.std.specs.Prelude.{Some, None}
use mathlib.Core.Path.{◌≡◌, refl, sym, ap, ap₂, ◌∙◌}
use mathlib.Core.Bool.{Bool, true, false, not, ◌&&◌}
use mathlib.Core.Option.{Option, none, some}
use mathlib.Core.List.{List, ◌++◌}
use native.Mathlib.Omega.{arith}
use lib.Dec.{eqb}
use lib.ListN.{length, get_or, drop, replicate, length-append, length-drop}
use Rattle.base_laws.proofs.Stores.{all_length, all_front, laid_cleared}
use Rattle.base_model.specs.declared.Rect.{Rect}
use Rattle.ground_rects.specs.Windows.{width, height, centres}
use Rattle.rule_routes.specs.Edges.{Step, window_edges}
use Rattle.rule_routes.specs.Routes as routes
use Rattle.rule_layouts.specs.Boards.{Mover, leaves_open}
use Rattle.set_blocked.specs.Blocked.{bit, blocked_map}
use Rattle.set_blocked.proofs.Members.{blocked_at_lem, length_blocked}
use Rattle.route_find.specs.Ground.{open_in}
use Rattle.route_find.specs.Results.{counted, point_count, laid_into}
use Rattle.set_pass.specs.Pass.{RouteLent, AreasKept, passed}
use Rattle.set_pass.specs.Allowed.{Allowed}
use Rattle.set_pass.proofs.Nearby.{window_route_same}

open_bit : (b : Bool) → eqb (bit (not b)) 0 ≡ b
unfolding bit
open_bit true = refl
open_bit false = refl

-- a byte of the map is zero where the set leaves the centre open
pub open_is : (m : Mover) (n : ℕ) (s cells : List ℕ) → cells ≡ blocked_map m n s → (c : ℕ) → c < n → open_in cells c ≡ leaves_open m s c
unfolding open_in
open_is m n s cells e c h = ap (λ (x : ℕ). eqb x 0) (ap (λ (l : List ℕ). get_or l c 0) e ∙ blocked_at_lem m n s c h) ∙ open_bit (leaves_open m s c)

-- the ends on the map, and past the set
pub ends_are : (w : Rect) (start end : ℕ) (m : Mover) (s cells : List ℕ) → cells ≡ blocked_map m (centres w) s → start < centres w → end < centres w
    → open_in cells start && open_in cells end ≡ leaves_open m s start && leaves_open m s end
ends_are w start end m s cells e a b = ap₂ ◌&&◌ (open_is m (centres w) s cells e start a) (open_is m (centres w) s cells e end b)

pub past_is : (w : Rect) (steps : List Step) (start end : ℕ) (m : Mover) (s cells : List ℕ) (W H : ℕ) → W ≡ width w → H ≡ height w → cells ≡ blocked_map m (centres w) s
    → start < centres w → end < centres w → routes.route (window_edges W H steps) (W * H) (open_in cells) start end ≡ passed w steps start end m s
unfolding passed centres
past_is w steps start end m s cells W H p q e a b =
    ap₂ (λ (x y : ℕ). routes.route (window_edges x y steps) (x * y) (open_in cells) start end) p q
    ∙ window_route_same (width w) (height w) steps (open_in cells) (leaves_open m s) (open_is m (centres w) s cells e) start end a b

-- ---- wiping a route
pub record Wiped (route route' : List ℕ) (r : ℕ) : Type 0 where
  pub room : r ≤ length route'
  pub clear : replicate r 0 ++ drop r route' ≡ route

counted_is : (o : Option (List ℕ)) (n : ℕ) → counted o ≡ Some n → n ≡ point_count o
unfolding counted point_count
counted_is none n e = cc
counted_is (some p) n e = cc

wiped_by : (o : Option (List ℕ)) (c : ℕ) (route route' : List ℕ) → route ≡ replicate c 0 → route' ≡ laid_into o route → length route' ≡ length route → Wiped route route' (point_count o)
unfolding laid_into point_count
wiped_by none c route route' e l s = record { room = omega arith; clear = l }
wiped_by (some p) c route route' e l s =
    let long = ap (λ (x : List ℕ). length x) l ∙ length-append p (drop (length p) route) in
    let size = all_length 0 c e in
    let room : length p ≤ c = omega (arith, length-drop (length p) route) in
    record {
      room = omega arith;
      clear =
          ap (λ (x : List ℕ). replicate (length p) 0 ++ drop (length p) x) l
          ∙ laid_cleared 0 c route (all_front 0 c e) p room;
    }

pub wiped : {o : Option (List ℕ)} {r : std.Option ℕ} {route route' : List ℕ} → Allowed o r route route' → (c n : ℕ) → route ≡ replicate c 0 → r ≡ Some n
    → length route' ≡ length route → Wiped route route' n
wiped {o} {r} {route} {route'} t c n e k s = rw (counted_is o n (sym t.count ∙ k)) (wiped_by o c route route' e t.laid s)

-- ---- the areas
-- the areas can be lent again
pub lent_again : {w : Rect} {start end : ℕ} {map queue predecessors route map' queue' predecessors' route' : List ℕ} → RouteLent w start end map queue predecessors route → length map' ≡ length map
    → AreasKept queue predecessors route queue' predecessors' route' → RouteLent w start end map' queue' predecessors' route'
lent_again t z k = record {
  some = t.some;
  few = t.few;
  start_below = t.start_below;
  end_below = t.end_below;
  bytes = z ∙ t.bytes;
  queue_clear = k.queue_kept ∙ t.queue_clear;
  predecessors_clear = k.predecessors_kept ∙ t.predecessors_clear;
  route_clear = k.route_kept ∙ t.route_clear;
}

-- the same once a set is laid on the map
pub lent_laid : {w : Rect} {start end : ℕ} {map queue predecessors route map' queue' predecessors' route' : List ℕ} (m : Mover) (s : List ℕ) → RouteLent w start end map queue predecessors route
    → map' ≡ blocked_map m (centres w) s → AreasKept queue predecessors route queue' predecessors' route' → RouteLent w start end map' queue' predecessors' route'
lent_laid {w} m s t e k = lent_again t (ap (λ (l : List ℕ). length l) e ∙ length_blocked m (centres w) s ∙ sym t.bytes) k
