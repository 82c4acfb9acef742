-- Cases beyond the marked ones, computed through the calls: each tells apart two readings that the marked cases leave alike.
use Prim.Native.Nat.{ℕ}
use mathlib.Core.Path.{◌≡◌, refl}
use mathlib.Core.Bool.{false}
use mathlib.Core.Option.{none}
use mathlib.Core.List.{List, [], ◌∷◌, ◌++◌}
use lib.IntN.{pos, negsuc}
use lib.ListN.{replicate}
use Rattle.base_model.specs.Allow.{Allow}
use Rattle.std.specs.Prelude.{None, Some}
use Rattle.base_model.specs.declared.Verdict.TheVariants.{Slots, Overlap, EndCovered, Spare, Shut}
use Rattle.rule_search.specs.State.{Running, Exhausted, StateLimit, ResultLimit}
use Rattle.rule_calls.specs.Calls.{After, judges}
use Rattle.rule_calls.proofs.Computing.{computing}
use Rattle.rule_calls.proofs.Drive.{
  Row,
  ◌gives◌,
  gots,
  wants,
  at,
  box,
  bounds,
  plain,
  place,
  limits,
  begins,
  stepped,
  layout,
  Shown,
  judged,
  result,
  still0,
  Case,
  drive,
  judging,
  on_open_cell,
  places_p,
  P,
  P0,
  inputs_of,
  driving,
}

-- a half wall, then a whole one: with the half wall lifted there is still no route
pub half_and_whole : Allow → List ℕ → Case
half_and_whole allow groups = P allow 100 32 groups (plain (box 1 0 2 2) ∷ plain (box 3 0 4 3) ∷ [])

-- the start stands under the first place, which the second overlaps
pub start_under : Case
start_under = on_open_cell (box 0 0 5 3) (at 3 1) (at 4 1) still0 None (limits 9 9) (2 ∷ []) (plain (box 3 0 4 3) ∷ plain (box 2 0 4 3) ∷ [])

-- the blocked mover reaches one row up, the allowed one does not: place 1 alone is a wall, and the route past it is kept
pub kept_route : Case
kept_route = on_open_cell (box 0 0 5 3) (at 0 1) (at 4 1) (bounds 0 1 0 0) (Some still0) (limits 5 2) (2 ∷ []) places_p

-- the same in a window that begins at (2, 1), on a map of two cells: points are map pixels
pub kept_route_offset : Case
kept_route_offset = record {
  map = record { across = 2; down = 1; cells = 1 ∷ 1 ∷ [] };
  obstacles = [];
  window = box 2 1 7 4;
  start = at 2 2;
  end = at 6 2;
  block = bounds 0 1 0 0;
  allow = Some still0;
  limits = limits 5 2;
  groups = 1 ∷ [];
  places = plain (box 4 1 5 3) ∷ [];
}

-- terrain and an obstacle leave one row open: placements 0 and 1 are walls of one member each; group 1 has no slot for two
pub ramp : Case
ramp = record {
  map = record { across = 2; down = 2; cells = 1 ∷ 1 ∷ 0 ∷ 1 ∷ [] };
  obstacles = pos 6 ∷ negsuc 8 ∷ pos 10 ∷ pos 7 ∷ [];
  window = box 5 5 11 9;
  start = at 5 7;
  end = at 10 7;
  block = still0;
  allow = None;
  limits = limits 50 5;
  groups = 1 ∷ 1 ∷ [];
  places = place 0 0 (box 6 5 8 8) (box 6 7 8 8) ∷ place 1 1 (box 8 5 9 9) (box 8 0 9 99) ∷ [];
}

pub table : List (Row Shown)
table =
    (drive (half_and_whole None (2 ∷ [])) (100 ∷ []) gives result Exhausted 4 2 (layout (1 ∷ []) [] ∷ []))
    ∷ (judging (half_and_whole None (2 ∷ [])) (0 ∷ 1 ∷ []) gives judged (judges Spare 7))
    ∷ (judging (half_and_whole None (1 ∷ [])) (0 ∷ 1 ∷ []) gives judged (judges Slots 7))
    ∷ (judging start_under (0 ∷ []) gives judged (judges EndCovered 0))
    ∷ (judging (P (Some still0) 9 9 (2 ∷ []) places_p) (0 ∷ []) gives judged (judges Shut 6))
    -- two verdicts hold: Slots before Overlap, Overlap before EndCovered, Spare before Shut
    ∷ (judging (P None 9 9 (1 ∷ []) places_p) (0 ∷ 1 ∷ []) gives judged (judges Slots 6))
    ∷ (judging start_under (0 ∷ 1 ∷ []) gives judged (judges Overlap 0))
    ∷ (judging (half_and_whole (Some still0) (2 ∷ [])) (0 ∷ 1 ∷ []) gives judged (judges Spare 7))
    ∷ (drive (P None 1 32 [] []) (1 ∷ []) gives result Exhausted 1 0 [])
    ∷ (drive (P None 1 32 (2 ∷ []) places_p) (1 ∷ []) gives result StateLimit 1 3 [])
    ∷ (drive (P None 2 1 (2 ∷ []) places_p) (2 ∷ []) gives result ResultLimit 2 3 (layout (0 ∷ []) [] ∷ []))
    ∷ (drive P0 (0 ∷ []) gives result Running 0 3 [])
    ∷ (drive P0 (2 ∷ 0 ∷ 1 ∷ []) gives result Running 3 3 (layout (0 ∷ []) [] ∷ []))
    ∷ (drive kept_route (5 ∷ []) gives result Exhausted 3 3 (layout (1 ∷ []) (0 ∷ 1 ∷ 1 ∷ 2 ∷ 2 ∷ 2 ∷ 3 ∷ 2 ∷ 4 ∷ 1 ∷ []) ∷ []))
    ∷ (drive kept_route_offset (5 ∷ []) gives result Exhausted 2 1 (layout (0 ∷ []) (2 ∷ 2 ∷ 3 ∷ 3 ∷ 4 ∷ 3 ∷ 5 ∷ 3 ∷ 6 ∷ 2 ∷ []) ∷ []))
    ∷ (drive ramp (50 ∷ []) gives result Exhausted 3 2 (layout (0 ∷ []) [] ∷ layout (1 ∷ []) [] ∷ []))
    ∷ []

pub further : gots table ≡ wants table
unfolding computing driving half_and_whole start_under kept_route kept_route_offset ramp table
further = refl

-- all that P leaves with limits 5 and 2 after step 2: record and areas, unused entries zero, the entry past each length kept
pub R : Case
R = P None 5 2 (2 ∷ []) places_p

pub after_two : After
after_two = record {
  answer = none;
  rec = record {
    reason = 1;
    evaluations = 2;
    placements = 3;
    layouts = 1;
    lists = 1;
    pending = false;
    routes = replicate 32 0;
    lengths = 2 ∷ 0 ∷ 0 ∷ 0 ∷ 0 ∷ 0 ∷ [];
    nexts = 1 ∷ 0 ∷ 0 ∷ 0 ∷ 0 ∷ 0 ∷ [];
  };
  work = record {
    counts = replicate 24 (pos 0) ++ pos 9 ∷ [];
    map = replicate 15 0 ++ 9 ∷ [];
    queue = replicate 15 0 ++ 9 ∷ [];
    predecessors = replicate 15 0 ++ 9 ∷ [];
    route = replicate 15 0 ++ 9 ∷ [];
  };
  store = record {
    lists = 0 ∷ 1 ∷ replicate 16 0 ++ 9 ∷ [];
    visited = replicate 7 0 ++ 1 ∷ replicate 27 0 ++ 9 ∷ [];
    layouts = 1 ∷ replicate 13 0 ++ 9 ∷ [];
    points = 9 ∷ [];
  };
}

pub all_left : stepped (inputs_of R) R.limits (2 ∷ []) (begins (inputs_of R) R.limits) ≡ after_two
unfolding computing driving R after_two
all_left = refl

-- the points area that a step by three leaves of `kept_route`: the route stands from its start on
pub kept_left : (stepped (inputs_of kept_route) (limits 5 2) (3 ∷ []) (begins (inputs_of kept_route) (limits 5 2))).store.points
    ≡ 0 ∷ 1 ∷ 1 ∷ 2 ∷ 2 ∷ 2 ∷ 3 ∷ 2 ∷ 4 ∷ 1 ∷ replicate 50 0 ++ 9 ∷ []
unfolding computing driving kept_route
kept_left = refl
