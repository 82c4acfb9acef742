-- The board of a window is regular, for ends in the window and any order of the eight steps, and the routes over it are the first ways by that order; and a regular
-- board stays regular with its ends exchanged.
use Prim.Native.Nat.{ℕ, ◌<◌}
use mathlib.Core.Path.{◌≡◌, refl, sym, ◌∙◌, ap}
use mathlib.Core.Bool.{Bool, true, ◌&&◌, and_comm, and_assoc}
use mathlib.Core.List.{List}
use native.Mathlib.Nat.{mul_comm}
use native.Mathlib.Omega.{arith}
use lib.Arith.{digits_lt}
use lib.IntN.{ℤ, pos, nat_abs, ◌-ℤ◌}
use lib.Signed.{le_z, lt_z}
use lib.ListN.{get_or}
use Rattle.base_laws.proofs.Ints.{minus_parts, le_z_fact, lt_z_fact, nat_abs_parts}
use Rattle.base_laws.proofs.Members.{both}
use Rattle.base_model.specs.declared.Rect.{Rect}
use Rattle.base_model.specs.declared.Position.{Position}
use Rattle.ground_rects.specs.Rects.{has, intersects}
use Rattle.ground_rects.specs.Windows.{width, height, centres, in_window, centre_at}
use Rattle.rule_routes.specs.Edges.{Step, each_once}
use Rattle.rule_routes.specs.Shortest.{BySteps, RouteIsFirst}
use Rattle.rule_routes.proofs.WindowLaws.{window_within, window_paired, window_one_edge}
use Rattle.rule_routes.proofs.RouteFirst.{window_is_first}
use Rattle.rule_layouts.specs.Boards.{Mover, Board, leaves_open}
use Rattle.rule_layouts.specs.Inputs.{Inputs, exchanged, no_place, places_of, board_of}
use Rattle.rule_layouts.specs.Regular.{Regular, turned}

pub regular_turned : (g : Board) → Regular g → Regular (turned g)
unfolding turned
regular_turned g l = record { within = l.within; one_edge = l.one_edge; paired = l.paired; from = l.to; to = l.from; mutual_overlap = l.mutual_overlap }

-- ---- windows
-- how far a number lies from the lower of two bounds that hold it
between : (a x b : ℤ) → le_z a x ≡ true → lt_z x b ≡ true → nat_abs (x -ℤ a) < nat_abs (b -ℤ a)
between a x b p q =
    let h = le_z_fact a x p in
    let k = lt_z_fact x b q in
    let m = minus_parts x a in
    let n = minus_parts b a in
    omega (arith, nat_abs_parts (x -ℤ a) (omega arith), nat_abs_parts (b -ℤ a) (omega arith))

pub centre_at_below : (w : Rect) (p : Position) → in_window w p ≡ true → centre_at w p < centres w
unfolding in_window has centre_at centres width height
centre_at_below w p e =
    let a = both (le_z w.left (pos p.x) && lt_z (pos p.x) w.right && le_z w.top (pos p.y)) (lt_z (pos p.y) w.bottom) e in
    let b = both (le_z w.left (pos p.x) && lt_z (pos p.x) w.right) (le_z w.top (pos p.y)) a.0 in
    let c = both (le_z w.left (pos p.x)) (lt_z (pos p.x) w.right) b.0 in
    rw (mul_comm (nat_abs (w.right -ℤ w.left)) (nat_abs (w.bottom -ℤ w.top)))
    (digits_lt (between w.top (pos p.y) w.bottom b.1 a.1) (between w.left (pos p.x) w.right c.0 c.1))

swap : (p q r s : Bool) → p && q && r && s ≡ q && p && s && r
swap p q r s = ap (λ (x : Bool). x && r && s) (and_comm p q) ∙ and_assoc (q && p) r s ∙ ap (λ (x : Bool). q && p && x) (and_comm r s) ∙ sym (and_assoc (q && p) s r)

pub intersects_comm : (a b : Rect) → intersects a b ≡ intersects b a
unfolding intersects
intersects_comm a b = swap (lt_z a.left b.right) (lt_z b.left a.right) (lt_z a.top b.bottom) (lt_z b.top a.bottom)

pub regular_board : (steps : List Step) (i : Inputs) → each_once steps ≡ true → in_window i.query.window i.query.start ≡ true
    → in_window i.query.window i.query.end ≡ true → Regular (board_of steps i)
unfolding board_of places_of centres
regular_board steps i once from to =
    let w = i.query.window in
    record {
      within = window_within (width w) (height w) steps;
      one_edge = window_one_edge (width w) (height w) steps once;
      paired = window_paired (width w) (height w) steps once;
      from = centre_at_below w i.query.start from;
      to = centre_at_below w i.query.end to;
      mutual_overlap = λ j k. intersects_comm (get_or i.places j no_place).footprint (get_or i.places k no_place).footprint;
    }

-- the route past a set is the first of the shortest ways over what it leaves open, by the table
pub board_first : (steps : List Step) (i : Inputs) → each_once steps ≡ true → in_window i.query.window i.query.start ≡ true → (m : Mover) (s : List ℕ)
    → RouteIsFirst (BySteps (width i.query.window) steps) (board_of steps i).edges (board_of steps i).nodes (leaves_open m s) (board_of steps i).start (board_of steps i).end
unfolding board_of centres
board_first steps i once from m s =
    let w = i.query.window in
    window_is_first (width w) (height w) steps once (leaves_open m s) (centre_at w i.query.start) (centre_at w i.query.end) (centre_at_below w i.query.start from)

-- exchanged inputs lay the board with its ends exchanged
pub board_exchanged : (steps : List Step) (i : Inputs) → board_of steps (exchanged i) ≡ turned (board_of steps i)
unfolding board_of exchanged turned
board_exchanged steps i = refl
