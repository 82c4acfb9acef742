-- Rectangles covered on a prepared baseline block exactly the centres that they would have blocked as further obstacles (RULES 12.8).
use Rattle.std.specs.Prelude.{ℕ, ◌≡◌, List, ◌++◌, map, ℤ, take}
use Rattle.std.proofs.Math.Option.{none}
use Rattle.base_model.specs.declared.Rect.{Rect}
use Rattle.ground_rects.specs.Rects.{rects_of}
use Rattle.ground_rects.specs.Windows.{centres}
use Rattle.ground_baseline.specs.Baseline.{baseline_of}
use Rattle.rule_covers.specs.Sessions.{Building, after, Accepted, cover_one}
use Rattle.rule_layouts.specs.Inputs.{Inputs}
use Rattle.rule_calls.specs.Areas.{Work, laid}
use Rattle.rule_calls.specs.Calls.{Preparation, Prepared, prepare_call}
use Rattle.promise_counts.specs.Counts.{as_bits, with_bases, SameCalls}

-- prepare, accepted, leaves 0 or 1 for each centre
unfoldable pub PrepareMarks : Type 0
PrepareMarks =
    (table : List ℤ) (q : Preparation) (area : List ℕ) (work : Work) → (prepare_call table q area work).answer ≡ none
    → as_bits (take (centres q.window) (prepare_call table q area work).baseline) ≡ take (centres q.window) (prepare_call table q area work).baseline

-- ---- rectangles covered on what prepare leaves
-- a preparation and the areas that it is lent
pub record Ground : Type 0 where
  pub asked : Preparation
  pub area : List ℕ
  pub work : Work

unfoldable pub prepared : (table : List ℤ) → Ground → Prepared
prepared table g = prepare_call table g.asked g.area g.work

-- the rectangles, each to be covered for the mover of the baseline
unfoldable pub buildings : List Rect → Ground → List Building
buildings rs g = map (λ (r : Rect). record { mover = g.asked.mover; rectangle = r }) rs

module _ (table : List ℤ) (rs : List Rect) (g : Ground) where
  -- prepare is accepted, and on what it leaves each cover, one after the other
  pub record AllAccepted : Type 0 where
    pub at_first : (prepared table g).answer ≡ none
    pub covers : Accepted (cover_one g.asked.window) (buildings rs g) (prepared table g).baseline

  -- the area that the last cover leaves
  unfoldable pub covered : List ℕ
  covered = after (cover_one g.asked.window) (buildings rs g) (prepared table g).baseline

-- the area as prepare fills it where the rectangles are obstacles besides its own
unfoldable pub with_obstacles : List Rect → Ground → List ℕ
with_obstacles rs g =
    laid (centres g.asked.window) (baseline_of g.asked.map (rs ++ rects_of g.asked.obstacles) g.asked.mover g.asked.window) g.area

-- the same with other obstacles
unfoldable pub asked_with : List ℤ → Preparation → Preparation
asked_with obstacles q = record { map = q.map; obstacles = obstacles; window = q.window; start = q.start; end = q.end; mover = q.mover }

pub record CoversAreObstacles (table : List ℤ) (rs : List Rect) : Type 0 where
  -- with 1 in place of every count that is not zero, the covered area is the one with these obstacles
  pub areas : (g : Ground) → AllAccepted table rs g → as_bits (covered table rs g) ≡ as_bits (with_obstacles rs g)
  -- it is what prepare leaves, where it accepts them
  pub as_prepared : (g : Ground) (obstacles : List ℤ) (work : Work) → AllAccepted table rs g → rects_of obstacles ≡ rs ++ rects_of g.asked.obstacles
      → (prepare_call table (asked_with obstacles g.asked) g.area work).answer ≡ none
      → as_bits (covered table rs g) ≡ as_bits (prepare_call table (asked_with obstacles g.asked) g.area work).baseline
  -- so the calls answer and leave the same over both: where the blocked and the allowed mover's ground are each prepared and covered,
  pub calls : (i : Inputs) (block allow : Ground) → AllAccepted table rs block → AllAccepted table rs allow
      → SameCalls table (with_bases i (covered table rs block) (covered table rs allow)) (with_bases i (with_obstacles rs block) (with_obstacles rs allow))
  -- and where the blocked mover's is, whatever the other baseline
  pub blocked_alone : (i : Inputs) (block : Ground) (allow : List ℕ) → AllAccepted table rs block
      → SameCalls table (with_bases i (covered table rs block) allow) (with_bases i (with_obstacles rs block) allow)
