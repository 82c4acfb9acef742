-- A wall is a wall with the ends exchanged, for each chain can be gone back over the same open centres; and whatever the order of the steps.
use Prim.Native.Nat.{ℕ}
use mathlib.Core.Path.{◌≡◌, refl, sym, ◌∙◌}
use mathlib.Core.Bool.{true, and_comm}
use mathlib.Core.Logic.{◌↔◌}
use mathlib.Core.Option.{Option, none, some}
use mathlib.Core.List.{List}
use Rattle.base_laws.specs.Lists.{without}
use Rattle.ground_rects.specs.Windows.{width, height}
use Rattle.rule_routes.specs.Edges.{Edge, Step, each_once}
use Rattle.rule_routes.proofs.Legs.{joined_back}
use Rattle.rule_routes.proofs.WindowLaws.{joined_order}
use Rattle.rule_layouts.specs.Boards.{Mover, Board, leaves_open, open_ends}
use Rattle.rule_layouts.specs.Inputs.{Inputs, board_of}
use Rattle.rule_layouts.specs.Walls.{Passes, LetsPass, IsWall}
use Rattle.rule_layouts.specs.Regular.{Regular, turned}
use Rattle.rule_layouts.proofs.Regular.{regular_turned}

-- the same movers and placements over other edges, between other ends
abbrev over : Board → (ℕ → List Edge) → (start end : ℕ) → Board
over g edges start end = record { nodes = g.nodes; edges = edges; start = start; end = end; block = g.block; allow = g.allow; places = g.places }

module _ (g : Board) (edges : ℕ → List Edge) (start end : ℕ)
    (ends : (m : Mover) (s : List ℕ) → open_ends g m s ≡ open_ends (over g edges start end) m s)
    (there : (m : Mover) (s : List ℕ) → Passes g m s → Passes (over g edges start end) m s)
    (back : (m : Mover) (s : List ℕ) → Passes (over g edges start end) m s → Passes g m s) where
  lets_pass : (a : Option Mover) (s : List ℕ) → LetsPass g a s → LetsPass (over g edges start end) a s
  unfolding LetsPass
  lets_pass none s h = tt
  lets_pass (some m) s h = there m s h

  -- where a set leaves the same movers a way, it is a wall for both
  wall_over : (w : List ℕ) → IsWall g w → IsWall (over g edges start end) w
  wall_over w h = record {
    is_set = h.is_set;
    named = h.named;
    slotted = h.slotted;
    apart = h.apart;
    ends_open = sym (ends g.block w) ∙ h.ends_open;
    shut = λ j. h.shut (back g.block w j);
    minimal = λ i m. there g.block (without i w) (h.minimal i m);
    allows = lets_pass g.allow w h.allows;
  }

pub passes_turned : (g : Board) → Regular g → (m : Mover) (s : List ℕ) → Passes g m s → Passes (turned g) m s
unfolding Passes turned
passes_turned g regular m s j = joined_back g.edges g.nodes regular.within regular.paired (leaves_open m s) regular.from j

pub open_ends_turned : (g : Board) (m : Mover) (s : List ℕ) → open_ends g m s ≡ open_ends (turned g) m s
unfolding open_ends turned
open_ends_turned g m s = and_comm (leaves_open m s g.start) (leaves_open m s g.end)

pub wall_turned : (g : Board) → Regular g → (w : List ℕ) → IsWall g w ↔ IsWall (turned g) w
unfolding turned
wall_turned g regular w = (
  wall_over g g.edges g.end g.start (open_ends_turned g) (passes_turned g regular) (passes_turned (turned g) (regular_turned g regular)) w,
  wall_over (turned g) g.edges g.start g.end (open_ends_turned (turned g)) (passes_turned (turned g) (regular_turned g regular)) (passes_turned g regular) w,
)

-- the order of the steps
module _ (i : Inputs) (a b : List Step) (once-a : each_once a ≡ true) (once-b : each_once b ≡ true) where
  pub passes_steps : (m : Mover) (s : List ℕ) → Passes (board_of a i) m s → Passes (board_of b i) m s
  unfolding Passes board_of
  passes_steps m s j = joined_order (width i.query.window) (height i.query.window) a b once-a once-b (leaves_open m s) j

pub wall_steps : (i : Inputs) (a b : List Step) → each_once a ≡ true → each_once b ≡ true → (w : List ℕ) → IsWall (board_of a i) w → IsWall (board_of b i) w
unfolding board_of open_ends
wall_steps i a b once-a once-b w =
    wall_over (board_of a i) (board_of b i).edges (board_of b i).start (board_of b i).end (λ m s. refl) (passes_steps i a b once-a once-b) (passes_steps i b a once-b once-a) w
