-- The map that a set of placements leaves a mover: a byte for each centre, 0 where it is open and 1 elsewhere.
use Rattle.std.specs.Prelude as std
use Rattle.std.specs.Prelude.{None, Some, ℕ, zero, suc, ◌+◌, ◌*◌, ◌≤◌, ◌<◌, ◌≡◌, Bool, true, false, not, cond, eqb, ℤ, length, get_or}
use Rattle.std.proofs.Math.Option.{Option, none, some}
use mathlib.Core.List.{List, [], ◌∷◌, map, Memᴰ}
use Rattle.base_laws.specs.Lists.{below}
use Rattle.base_model.specs.declared.Rect.{Rect}
use Rattle.base_model.specs.declared.Bounds.{Bounds}
use Rattle.base_model.specs.Allow.{Allow}
use Rattle.ground_rects.specs.Rects.{nonempty, small, keeps_off}
use Rattle.ground_rects.specs.Windows.{centres, pixel_x, pixel_y}
use Rattle.rule_layouts.specs.Boards.{Mover, leaves_open}
use Rattle.rule_layouts.specs.Flat.{rect_at}
use Rattle.set_blocked.specs.declared.Mover as code

unfoldable pub bit : Bool → ℕ
bit true = 1
bit false = 0

-- a byte for each of n centres, 0 where the set leaves it open
unfoldable pub blocked_map : Mover → ℕ → List ℕ → List ℕ
blocked_map m n s = map (λ (c : ℕ). bit (not (leaves_open m s c))) (below n)

-- the mover that a row of edges, eight to a placement, keeps off
unfoldable pub mover_in : Rect → List ℤ → Bounds → List ℕ → Mover
mover_in w edges m base = record {
  blocked = λ c. not (eqb (get_or base c 0) 0);
  kept_off = λ i c. keeps_off (rect_at edges (8 * i + 4)) m (pixel_x w c) (pixel_y w c);
}

-- a mover as the code has it
abbrev pub mover_on : Rect → List ℤ → code.Mover → Mover
mover_on w edges m = mover_in w edges m.bounds m.base.now

-- the allowed mover, if there is one, that the row keeps off
unfoldable pub allow_in : Rect → List ℤ → Allow → List ℕ → Option Mover
allow_in w edges None base = none
allow_in w edges (Some m) base = some (mover_in w edges m base)

-- the set without its member number k; the whole set where it has no such member
unfoldable pub without_at : ℕ → List ℕ → List ℕ
without_at k [] = []
without_at zero (x ∷ s) = s
without_at (suc k) (x ∷ s) = x ∷ without_at k s

-- the set without the member lifted, if one is
abbrev pub left_by : std.Option ℕ → List ℕ → List ℕ
left_by None s = s
left_by (Some k) s = without_at k s

-- the map has a byte for each centre of a window, and the mover is small
pub record Ground (w : Rect) (m : Bounds) (cells : List ℕ) : Type 0 where
  pub some : nonempty w ≡ true
  pub slim : small m ≡ true
  pub bytes : length cells ≡ centres w

-- the allowed mover, if there is one, is small, and its baseline has a byte for each centre
unfoldable pub AllowReady : Rect → Allow → List ℕ → Type 0
AllowReady w None base = Unit {0}
AllowReady w (Some m) base = (small m ≡ true) × (centres w ≤ length base)

-- every member's edges stand in the row
pub record Named (edges : List ℤ) (s : List ℕ) : Type 0 where
  pub each : (i : ℕ) → Memᴰ i s → 8 * i + 8 ≤ length edges

-- the centres off which the rectangle keeps the mover are 1, and the others as they were
pub record CollisionStamped (w r : Rect) (m : Bounds) (cells cells' : List ℕ) : Type 0 where
  pub size : length cells' ≡ length cells
  pub at : (c : ℕ) → c < centres w → get_or cells' c 0 ≡ cond (keeps_off r m (pixel_x w c) (pixel_y w c)) 1 (get_or cells c 0)
