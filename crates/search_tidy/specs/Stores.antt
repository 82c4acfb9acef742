-- What the clearing of unused entries is given, and what it leaves.
use Rattle.std.specs.Prelude.{ℕ, ◌*◌, ◌≤◌, ◌<◌, ◌≡◌, true, List, length, take, get_or}
use Rattle.base_laws.specs.Lists.{total, padded}
use Rattle.base_model.specs.declared.Limits.{Limits}
use Rattle.base_model.specs.declared.Query.{Query}
use Rattle.base_model.specs.declared.Record.{Record}
use Rattle.ground_rects.specs.Windows.{window_fits}
use Rattle.rule_layouts.specs.Inputs.{Inputs}
use Rattle.rule_calls.specs.Areas.{Store, store_fits, state_of, record_of, store_of}
use Rattle.rule_calls.specs.RecordCheck.{record_fits}
use Rattle.call_lengths.specs.Lengths.{points_room}

-- k rows of at most six members stand in the first n entries
pub record RowsIn (a : List ℕ) (k n : ℕ) : Type 0 where
  pub six : (j : ℕ) → j < k → get_or a (7 * j) 0 ≤ 6
  pub room : 7 * k ≤ n
  pub long : n ≤ length a

-- k lists of at most n entries stand in their places
pub record ListsIn (a lengths : List ℕ) (k n : ℕ) : Type 0 where
  pub fits : (j : ℕ) → j < k → get_or lengths j 0 ≤ n
  pub deep : k ≤ 6
  pub long : 6 * n ≤ length a
  pub small : n ≤ 6144

-- a record with its unused entries zero
unfoldable pub tidy : Record → Record
tidy r = record {
  reason = r.reason;
  evaluations = r.evaluations;
  placements = r.placements;
  layouts = r.layouts;
  lists = r.lists;
  pending = r.pending;
  routes = padded 32 (take r.layouts r.routes);
  lengths = padded 6 (take r.lists r.lengths);
  nexts = padded 6 (take r.lists r.nexts);
}

-- a record's arrays have the lengths that their types say
pub record Sized (r : Record) : Type 0 where
  pub routes : length r.routes ≡ 32
  pub lengths : length r.lengths ≡ 6
  pub nexts : length r.nexts ≡ 6

-- what 16 and the checks before it tell of the parts that are used
pub record PartsUsed (q : Query) (l : Limits) (r : Record) (a : Store) : Type 0 where
  pub window : window_fits 8192 8192 q.window ≡ true
  pub states : l.states ≤ 100000
  pub results : l.results ≤ 32
  pub lists_in : ListsIn a.lists r.lengths r.lists r.placements
  pub visited_in : RowsIn a.visited r.evaluations (7 * l.states)
  pub layouts_in : RowsIn a.layouts r.layouts (7 * l.results)
  pub shown : r.layouts ≤ 32
  pub kept : total (take r.layouts r.routes) ≤ 1000000
  pub points_in : 2 * total (take r.layouts r.routes) ≤ points_room q l
  pub points_long : points_room q l ≤ length a.points

-- inputs with which 16 lets the record and the areas pass
pub record Passing (i : Inputs) (q : Query) (l : Limits) (r : Record) (a : Store) : Type 0 where
  pub query : i.query ≡ q
  pub areas : store_fits i l a ≡ true
  pub fits : record_fits i r a l ≡ true

-- the search that was read, laid back
pub record LaidBack (i : Inputs) (l : Limits) (r : Record) (a : Store) (r' : Record) (a' : Store) : Type 0 where
  pub store : a' ≡ store_of i l (state_of r a) a
  pub rec : r' ≡ record_of (length i.places) (state_of r a)
