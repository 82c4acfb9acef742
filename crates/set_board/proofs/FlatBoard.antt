-- The board of placements lent flat is the board of the inputs.
use Prim.Native.Nat.{ℕ, ◌*◌}
use mathlib.Core.Path.{◌≡◌, refl, sym, ap}
use mathlib.Core.Option.{some}
use mathlib.Core.List.{List}
use lib.IntN.{ℤ}
use lib.ListN.{length}
use Rattle.base_model.specs.declared.Rect.{Rect}
use Rattle.base_model.specs.declared.Bounds.{Bounds}
use Rattle.base_model.specs.Allow.{Allow}
use Rattle.std.specs.Prelude.{None, Some}
use Rattle.base_model.specs.declared.Query.{Query}
use Rattle.ground_rects.specs.Rects.{keeps_off}
use Rattle.ground_rects.specs.Windows.{width, height, centres, pixel_x, pixel_y, centre_at}
use Rattle.rule_routes.specs.Edges.{Step, window_edges}
use Rattle.rule_layouts.specs.Inputs.{mover_of, allowed_of, board_of}
use Rattle.rule_layouts.specs.Flat.{placement_at, placements_of, inputs_of}
use Rattle.rule_layouts.proofs.FlatPlaces.{place_at, flat_places}
use Rattle.set_blocked.specs.Blocked.{mover_in, allow_in}
use Rattle.set_board.specs.Board.{flat_board}

module _ (n : ℕ) (numbers : List ℕ) (edges : List ℤ) (fours : length numbers ≡ 4 * n) (eights : length edges ≡ 8 * n) where
  pub flat_mover : (w : Rect) (m : Bounds) (base : List ℕ) → mover_of w (placements_of numbers edges) m base ≡ mover_in w edges m base
  unfolding mover_of mover_in placement_at
  flat_mover w m base = λ j. record {
    blocked = (mover_in w edges m base).blocked;
    kept_off = λ i c. keeps_off (place_at n numbers edges fours eights i j).collision m (pixel_x w c) (pixel_y w c);
  }

  flat_allow : (w : Rect) (allow : Allow) (base : List ℕ) → allowed_of w (placements_of numbers edges) allow base ≡ allow_in w edges allow base
  unfolding allowed_of allow_in
  flat_allow w None base = refl
  flat_allow w (Some m) base = ap some (flat_mover w m base)

  -- the board of the inputs is the board of the rows
  pub flat_board_lem : (q : Query) (start end : ℕ) (groups block_base allow_base : List ℕ) (steps : List Step) → start ≡ centre_at q.window q.start → end ≡ centre_at q.window q.end
      → board_of steps (inputs_of q groups numbers edges block_base allow_base) ≡ flat_board q start end n groups numbers edges block_base allow_base steps
  unfolding board_of inputs_of flat_board
  flat_board_lem q start end groups block_base allow_base steps s e = λ j. record {
    nodes = centres q.window;
    edges = window_edges (width q.window) (height q.window) steps;
    start = sym s j;
    end = sym e j;
    block = flat_mover q.window q.block block_base j;
    allow = flat_allow q.window q.allow allow_base j;
    places = flat_places n numbers edges fours eights groups j;
  }
