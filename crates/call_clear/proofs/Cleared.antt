-- Areas that are cleared, each as zeros before what stood there, and areas long enough for a search.
use mathlib.Core.Path.{◌≡◌}
use mathlib.Core.Bool.{true}
use mathlib.Core.List.{◌++◌}
use Prim.Native.Nat.{◌*◌, ◌≤◌}
use native.Mathlib.Omega.{arith}
use lib.IntN.{pos}
use lib.ListN.{length, drop, replicate}
use Rattle.std.proofs.lemmas.Grind.{common_steps}
use Rattle.base_laws.specs.Lists.{flat}
use Rattle.base_model.specs.declared.Rect.{Rect}
use Rattle.base_model.specs.declared.Limits.{Limits}
use Rattle.ground_rects.specs.Windows.{centres, window_fits}
use Rattle.rule_layouts.specs.Inputs.{Inputs}
use Rattle.rule_search.specs.State.{state}
use Rattle.rule_search.specs.Frames.{begun}
use Rattle.rule_calls.specs.Areas.{Work, Store, counts_length, points_length, store_fits, cleared, store_of}
use Rattle.rule_calls.proofs.Back.{laid_none}
use Rattle.call_lengths.specs.Lengths.{points_room}
use Rattle.call_clear.specs.Room.{StoreRoom}

pub cleared_laid : (w : Rect) (a : Work) → cleared w a ≡ record {
  counts = replicate (counts_length w) (pos 0) ++ drop (counts_length w) a.counts;
  map = replicate (centres w) 0 ++ drop (centres w) a.map;
  queue = replicate (centres w) 0 ++ drop (centres w) a.queue;
  predecessors = replicate (centres w) 0 ++ drop (centres w) a.predecessors;
  route = replicate (centres w) 0 ++ drop (centres w) a.route;
}
unfolding cleared
cleared_laid w a = simp laid_none

pub begun_laid : (i : Inputs) (l : Limits) (a : Store) → store_of i l begun a ≡ record {
  lists = replicate (6 * length i.places) 0 ++ drop (6 * length i.places) a.lists;
  visited = replicate (7 * l.states) 0 ++ drop (7 * l.states) a.visited;
  layouts = replicate (7 * l.results) 0 ++ drop (7 * l.results) a.layouts;
  points = replicate (points_room i.query l) 0 ++ drop (points_room i.query l) a.points;
}
unfolding store_of begun state flat points_length points_room
begun_laid i l a = simp laid_none

pub store_room : (i : Inputs) (l : Limits) (a : Store) → store_fits i l a ≡ true → window_fits 8192 8192 i.query.window ≡ true → l.states ≤ 100000 → l.results ≤ 32
    → StoreRoom i.query l (length i.places) a.lists a.visited a.layouts a.points
unfolding store_fits points_length points_room
store_room i l a e w s r = record {
  window = w;
  states = s;
  results = r;
  lists_long = grind (arith, common_steps, e);
  visited_long = grind (arith, common_steps, e);
  layouts_long = grind (arith, common_steps, e);
  points_long = grind (arith, common_steps, e);
}
