-- The bounds of the checks from both sides: the last value that passes beside the first that is refused. Where a whole call would compute too much, the list of
-- checks that holds the bound stands alone.
use Prim.Native.Nat.{ℕ, ◌*◌}
use mathlib.Core.Path.{◌≡◌, refl}
use mathlib.Core.List.{List, [], ◌∷◌, map}
use lib.IntN.{ℤ, pos, negsuc}
use lib.ListN.{replicate}
use Rattle.base_laws.specs.Lists.{flat}
use Rattle.base_model.specs.Answers.{first}
use Rattle.base_model.specs.declared.Rect.{Rect}
use Rattle.base_model.specs.declared.Bounds.{Bounds}
use Rattle.std.specs.Prelude.{None, Some}
use Rattle.ground_rects.specs.Rects.{rect}
use Rattle.ground_rects.specs.Windows.{centres}
use Rattle.rule_routes.specs.Edges.{original_steps}
use Rattle.rule_search.specs.Frames.{begun}
use Rattle.rule_calls.specs.Areas.{Work, Store, work_in, store_in, record_of}
use Rattle.rule_calls.specs.Checks.{place_checks, limit_checks}
use Rattle.rule_calls.specs.Calls.{prepare_checks, prepare_call, begin_call, read_call, judge_checks}
use Rattle.rule_calls.proofs.Computing.{computing}
use Rattle.rule_calls.proofs.Drive.{Row, ◌gives◌, gots, wants, at, box, bounds, place, limits, nines, work_for, still0, W, given, open0, alone, good, begin_window, driving}
use Rattle.rule_calls.proofs.Refusals.{said, number, begin_answer, whole}

-- ---- prepare
-- the checks of prepare, with areas for W
pub prepare_answer : (across down : ℕ) → List ℕ → List ℤ → Bounds → ℕ × List ℕ
prepare_answer across down cells obstacles m = said (first (prepare_checks
    (record { map = record { across = across; down = down; cells = cells }; obstacles = obstacles; window = W; start = at 0 1; end = at 4 1; mover = m })
    (nines 15) (work_for W)))

-- so many walkable cells each way
pub cells : (across down : ℕ) → ℕ × List ℕ
cells across down = prepare_answer across down (replicate (across * down) 1) [] still0

pub maps : List (Row (ℕ × List ℕ))
maps =
    (cells 1 1 gives number 0)
    ∷ (cells 0 1 gives number 1)
    ∷ (cells 1 0 gives number 1)
    ∷ (cells 1024 1 gives number 0)
    ∷ (cells 1025 1 gives number 1)
    ∷ (cells 1 1024 gives number 0)
    ∷ (cells 1 1025 gives number 1)
    ∷ []

pub map_bounds : gots maps ≡ wants maps
unfolding computing driving prepare_answer cells maps
map_bounds = refl

-- so many obstacles, each of one pixel
pub obstacles : ℕ → ℕ × List ℕ
obstacles n = prepare_answer 1 1 (1 ∷ []) (flat (replicate n (pos 5 ∷ pos 5 ∷ pos 6 ∷ pos 6 ∷ []))) still0

pub obstacle_bounds : obstacles 4096 ∷ obstacles 4097 ∷ [] ≡ number 0 ∷ number 5 ∷ []
unfolding computing driving prepare_answer obstacles
obstacle_bounds = refl

-- the whole call on a map of so many cells each way, with areas for the window, both ends on one corner
pub windowed : (across down : ℕ) → Rect → ℕ × List ℕ
windowed across down w = said (prepare_call original_steps
    (record {
      map = record { across = across; down = down; cells = replicate (across * down) 1 };
      obstacles = [];
      window = w;
      start = at 0 0;
      end = at 0 0;
      mover = still0;
    })
    (nines (centres w)) (work_for w)).answer

-- 8 pixels a cell, the map's width to the right and its height downwards
pub windows : List (Row (ℕ × List ℕ))
windows =
    (windowed 2 1 (box 0 0 16 1) gives number 0)
    ∷ (windowed 2 1 (box 0 0 17 1) gives number 2)
    ∷ (windowed 2 1 (box 0 0 1 8) gives number 0)
    ∷ (windowed 2 1 (box 0 0 1 9) gives number 2)
    ∷ (windowed 1 2 (box 0 0 8 1) gives number 0)
    ∷ (windowed 1 2 (box 0 0 9 1) gives number 2)
    ∷ (windowed 1 2 (box 0 0 1 16) gives number 0)
    ∷ (windowed 1 2 (box 0 0 1 17) gives number 2)
    ∷ (windowed 1 1 (rect (negsuc 0) (pos 0) (pos 1) (pos 1)) gives number 2)
    ∷ (windowed 1 1 (rect (pos 0) (negsuc 0) (pos 1) (pos 1)) gives number 2)
    ∷ []

pub window_bounds : gots windows ≡ wants windows
unfolding computing driving windowed windows
window_bounds = refl

-- ---- begin
pub slots : List ℕ → ℕ × List ℕ
slots groups = begin_answer (given W (at 0 1) (at 4 1) still0 None groups [] open0 []) (limits 1 1)

pub beginning : List (Row (ℕ × List ℕ))
beginning =
    (slots (replicate 6 1) gives number 0)
    ∷ (slots (replicate 7 1) gives number 10)
    ∷ (slots (6 ∷ []) gives number 0)
    ∷ (slots (7 ∷ []) gives number 10)
    ∷ (slots (1 ∷ []) gives number 0)
    ∷ (slots (0 ∷ []) gives number 10)
    ∷ (slots (3 ∷ 3 ∷ []) gives number 0)
    ∷ (slots (3 ∷ 4 ∷ []) gives number 10)
    ∷ (begin_answer (alone []) (limits 1 32) gives number 0)
    ∷ (begin_answer (alone []) (limits 0 32) gives number 11)
    ∷ (begin_answer (alone []) (limits 1 33) gives number 12)
    ∷ (begin_answer (alone []) (limits 1 1) gives number 0)
    ∷ (begin_answer (alone []) (limits 1 0) gives number 12)
    ∷ (said (first (limit_checks (limits 100000 32))) gives number 0)
    ∷ (said (first (limit_checks (limits 100001 32))) gives number 11)
    ∷ (said (begin_window (box 0 0 8192 1)) gives number 0)
    ∷ (said (begin_window (box 0 0 8193 1)) gives number 2)
    ∷ (said (begin_window (box 0 0 1 8192)) gives number 0)
    ∷ (said (begin_window (box 0 0 1 8193)) gives number 2)
    ∷ (said (begin_window (rect (negsuc 0) (pos 0) (pos 1) (pos 1))) gives number 2)
    ∷ (said (begin_window (rect (pos 0) (negsuc 0) (pos 1) (pos 1))) gives number 2)
    ∷ (begin_answer (alone (place 5 0 W W ∷ [])) (limits 1 1) gives number 0)
    ∷ (begin_answer (alone (place 6 0 W W ∷ [])) (limits 1 1) gives (15, 0 ∷ []))
    ∷ []

pub begin_bounds : gots beginning ≡ wants beginning
unfolding computing driving begin_answer slots beginning
begin_bounds = refl

-- so many placements
pub placements : ℕ → ℕ × List ℕ
placements n = said (first (place_checks (alone (replicate n good))))

pub placement_bounds : placements 6144 ∷ placements 6145 ∷ [] ≡ number 0 ∷ number 14 ∷ []
unfolding computing driving placements
placement_bounds = refl

-- ---- a mover's bounds
-- one of the four is n
pub one_side : ℕ → List Bounds
one_side n = bounds n 0 0 0 ∷ bounds 0 n 0 0 ∷ bounds 0 0 n 0 ∷ bounds 0 0 0 n ∷ []

pub prepares_for : Bounds → ℕ × List ℕ
prepares_for m = prepare_answer 1 1 (1 ∷ []) [] m

pub blocks : Bounds → ℕ × List ℕ
blocks m = begin_answer (given W (at 0 1) (at 4 1) m None [] [] open0 []) (limits 1 1)

pub allows : Bounds → ℕ × List ℕ
allows m = begin_answer (given W (at 0 1) (at 4 1) still0 (Some m) [] [] open0 open0) (limits 1 1)

pub sides : List (Row (List (ℕ × List ℕ)))
sides =
    (map prepares_for (one_side 256) gives replicate 4 (number 0))
    ∷ (map prepares_for (one_side 257) gives replicate 4 (number 4))
    ∷ (map blocks (one_side 256) gives replicate 4 (number 0))
    ∷ (map blocks (one_side 257) gives replicate 4 (number 4))
    ∷ (map allows (one_side 256) gives replicate 4 (number 0))
    ∷ (map allows (one_side 257) gives replicate 4 (number 4))
    ∷ []

pub mover_bounds : gots sides ≡ wants sides
unfolding computing driving prepare_answer begin_answer one_side prepares_for blocks allows sides
mover_bounds = refl

-- ---- lengths of areas, for P's window, one placement, an allowed mover and limits of 1 and 1
pub works : (counts map queue predecessors route : ℕ) → Work
works c m q p r = work_in (replicate c (pos 9)) (replicate m 9) (replicate q 9) (replicate p 9) (replicate r 9)

pub stores : (lists visited layouts points : ℕ) → Store
stores l v y p = store_in (replicate l 9) (replicate v 9) (replicate y 9) (replicate p 9)

pub begins_in : Work → Store → ℕ × List ℕ
begins_in work store = said (begin_call original_steps whole (limits 1 1) work store).answer

-- prepare, with a baseline of 15 entries
pub prepares_in : Work → ℕ × List ℕ
prepares_in work = said (prepare_call original_steps
    (record { map = record { across = 1; down = 1; cells = 1 ∷ [] }; obstacles = []; window = W; start = at 0 1; end = at 4 1; mover = still0 })
    (replicate 15 9) work).answer

-- reading the first of no layouts: refused by 17 where the areas are long enough
pub reads_in : Store → ℕ × List ℕ
reads_in store = said (read_call whole (limits 1 1) (record_of 1 begun) 0 store).answer

pub judges_in : Work → ℕ × List ℕ
judges_in work = said (first (judge_checks whole [] work))

pub lent : List (Row (ℕ × List ℕ))
lent =
    (begins_in (works 24 15 15 15 15) (stores 6 7 7 30) gives number 0)
    ∷ (begins_in (works 23 15 15 15 15) (stores 6 7 7 30) gives number 6)
    ∷ (begins_in (works 24 14 15 15 15) (stores 6 7 7 30) gives number 6)
    ∷ (begins_in (works 24 15 14 15 15) (stores 6 7 7 30) gives number 6)
    ∷ (begins_in (works 24 15 15 14 15) (stores 6 7 7 30) gives number 6)
    ∷ (begins_in (works 24 15 15 15 14) (stores 6 7 7 30) gives number 6)
    ∷ (begins_in (works 24 15 15 15 15) (stores 5 7 7 30) gives number 6)
    ∷ (begins_in (works 24 15 15 15 15) (stores 6 6 7 30) gives number 6)
    ∷ (begins_in (works 24 15 15 15 15) (stores 6 7 6 30) gives number 6)
    ∷ (begins_in (works 24 15 15 15 15) (stores 6 7 7 29) gives number 6)
    ∷ (reads_in (stores 6 7 7 30) gives number 17)
    ∷ (reads_in (stores 6 7 7 29) gives number 6)
    ∷ (judges_in (works 24 15 15 15 15) gives number 0)
    ∷ (judges_in (works 24 15 15 15 14) gives number 6)
    ∷ (prepares_in (works 24 15 15 15 15) gives number 0)
    ∷ (prepares_in (works 23 15 15 15 15) gives number 6)
    ∷ (prepares_in (works 24 14 15 15 15) gives number 6)
    ∷ (prepares_in (works 24 15 14 15 15) gives number 6)
    ∷ (prepares_in (works 24 15 15 14 15) gives number 6)
    ∷ (prepares_in (works 24 15 15 15 14) gives number 6)
    ∷ []

pub area_bounds : gots lent ≡ wants lent
unfolding computing driving whole works stores begins_in prepares_in reads_in judges_in lent
area_bounds = refl
