-- The search that record and areas hold while its frames run.
use Rattle.std.specs.Prelude.{ℕ, Bool, ◌+◌, ◌-◌, ◌*◌, ◌≤◌, ◌<◌, ◌≡◌, true, false, List, map, reverse, length, take, get_or, set}
use Rattle.base_laws.specs.Lists.{below, total, flat, padded}
use Rattle.base_laws.specs.Fill.{zeros, over}
use Rattle.base_model.specs.declared.Rect.{Rect}
use Rattle.base_model.specs.declared.Position.{Position}
use Rattle.base_model.specs.declared.Limits.{Limits}
use Rattle.base_model.specs.declared.Record.{Record}
use Rattle.ground_rects.specs.Windows.{centres, window_fits, position_of}
use Rattle.rule_layouts.specs.Boards.{Board}
use Rattle.rule_layouts.specs.Fits.{Fits}
use Rattle.rule_layouts.specs.Regular.{Regular}
use Rattle.rule_search.specs.State.{Running, Extensions, State, frames_left}
use Rattle.rule_search.specs.Frames.{Plan, look, advance}
use Rattle.rule_search.specs.Formed.{Fresh, PlanOn, Good}
use Rattle.rule_calls.specs.Areas.{laid, row, numbers, record_of}

-- the lists in order of making, n apart
unfoldable pub stack_of : ℕ → List Extensions → List ℕ
stack_of n ls = flat (map (λ (e : Extensions). padded n e.entries) (reverse ls))

unfoldable pub rows_flat : List (List ℕ) → List ℕ
rows_flat vs = flat (map row vs)

-- a plan on a board of few enough placements, with at most six members in a set
pub record Sound (g : Board) (p : Plan) : Type 0 where
  pub at : ℕ → Position
  pub on : PlanOn g at p
  pub laid_out : Regular g
  pub six : (s : List ℕ) → Fits g.places s → length s ≤ 6
  pub few : g.places.count ≤ 6144
  pub states : p.states ≤ 100000
  pub results : p.results ≤ 32

-- the limits and the number of placements are the plan's and the board's
pub record Fitting (g : Board) (p : Plan) (l : Limits) (n : ℕ) : Type 0 where
  pub sound : Sound g p
  pub states_are : p.states ≡ l.states
  pub results_are : p.results ≡ l.results
  pub count_is : g.places.count ≡ n

-- the record, the lists and the visited rows are those of the state; l₀ and v₀ stand past the lengths
pub record Part (g : Board) (p : Plan) (l₀ v₀ : List ℕ) (s : State) (r : Record) (lists visited : List ℕ) : Type 0 where
  pub rec : r ≡ record_of g.places.count s
  pub lists_are : lists ≡ laid (6 * g.places.count) (stack_of g.places.count s.lists) l₀
  pub visited_are : visited ≡ laid (7 * p.states) (rows_flat s.visited) v₀
  pub good : Good g p s

pub record SomePart (l : Limits) (n : ℕ) (r : Record) (lists visited : List ℕ) : Type 0 where
  pub g : Board
  pub p : Plan
  pub fitting : Fitting g p l n
  pub l₀ : List ℕ
  pub v₀ : List ℕ
  pub s : State
  pub part : Part g p l₀ v₀ s r lists visited

-- the pending set is new, and may be evaluated
pub record Ripe (p : Plan) (t : State) : Type 0 where
  pub running : t.reason ≡ Running
  pub pending : t.pending ≡ true
  pub fresh : Fresh p t.lists t.visited

-- after a frame that evaluates nothing, or no frame: the portion comes to the same end. Another frame may follow where it goes on
pub record Turned (g : Board) (p : Plan) (l₀ v₀ : List ℕ) (s : State) (r : Record) (goes : Bool) (lists visited : List ℕ) : Type 0 where
  pub t : State
  pub part : Part g p l₀ v₀ t r lists visited
  pub same : advance p s ≡ advance p t
  pub kept : t.layouts ≡ s.layouts
  pub less : goes ≡ true → frames_left t < frames_left s
  pub due : goes ≡ false → r.reason ≡ 1 → Ripe p t

-- after frames up to an evaluation or a stop
pub record Sought (g : Board) (p : Plan) (l₀ v₀ : List ℕ) (s : State) (r : Record) (lists visited : List ℕ) : Type 0 where
  pub t : State
  pub part : Part g p l₀ v₀ t r lists visited
  pub same : advance p s ≡ advance p t
  pub kept : t.layouts ≡ s.layouts
  pub due : r.reason ≡ 1 → Ripe p t

-- frames left, read off the record
unfoldable pub frames_in : Record → ℕ
frames_in r =
    elim r.pending [ true ↦ 1 | false ↦ 0 ]
    + total (map (λ (k : ℕ). 2 * (get_or r.lengths k 0 - get_or r.nexts k 0) + 1) (below r.lists))

-- ---- the moves on the record
abbrev pub stop_rec : Record → ℕ → Record
stop_rec r k = record {
  reason = k;
  evaluations = r.evaluations;
  placements = r.placements;
  layouts = r.layouts;
  lists = r.lists;
  pending = r.pending;
  routes = r.routes;
  lengths = r.lengths;
  nexts = r.nexts;
}

abbrev pub seen_rec : Record → Record
seen_rec r = record {
  reason = r.reason;
  evaluations = r.evaluations;
  placements = r.placements;
  layouts = r.layouts;
  lists = r.lists;
  pending = false;
  routes = r.routes;
  lengths = r.lengths;
  nexts = r.nexts;
}

abbrev pub entered_rec : Record → Record
entered_rec r = record {
  reason = r.reason;
  evaluations = r.evaluations + 1;
  placements = r.placements;
  layouts = r.layouts;
  lists = r.lists;
  pending = false;
  routes = r.routes;
  lengths = r.lengths;
  nexts = r.nexts;
}

abbrev pub taken_rec : Record → Record
taken_rec r = record {
  reason = r.reason;
  evaluations = r.evaluations;
  placements = r.placements;
  layouts = r.layouts;
  lists = r.lists;
  pending = true;
  routes = r.routes;
  lengths = r.lengths;
  nexts = set r.nexts (r.lists - 1) (get_or r.nexts (r.lists - 1) 0 + 1);
}

abbrev pub popped_rec : Record → Record
popped_rec r = record {
  reason = r.reason;
  evaluations = r.evaluations;
  placements = r.placements;
  layouts = r.layouts;
  lists = r.lists - 1;
  pending = r.pending;
  routes = r.routes;
  lengths = set r.lengths (r.lists - 1) 0;
  nexts = set r.nexts (r.lists - 1) 0;
}

abbrev pub pushed_rec : Record → ℕ → Record
pushed_rec r n = record {
  reason = r.reason;
  evaluations = r.evaluations;
  placements = r.placements;
  layouts = r.layouts;
  lists = r.lists + 1;
  pending = r.pending;
  routes = r.routes;
  lengths = set r.lengths r.lists n;
  nexts = r.nexts;
}

abbrev pub listed_rec : Record → ℕ → Record
listed_rec r n = record {
  reason = r.reason;
  evaluations = r.evaluations;
  placements = r.placements;
  layouts = r.layouts + 1;
  lists = r.lists;
  pending = r.pending;
  routes = set r.routes r.layouts n;
  lengths = r.lengths;
  nexts = r.nexts;
}

-- ---- a wall is listed
abbrev pub kept_in : Record → ℕ
kept_in r = total (take r.layouts r.routes)

pub record Listable (r : Record) (w : Rect) (layouts points route : List ℕ) : Type 0 where
  pub few : r.layouts < 32
  pub room : r.layouts * 7 + 7 ≤ length layouts
  pub fits : window_fits 8192 8192 w ≡ true
  pub kept : kept_in r ≤ 1000000
  pub short : length route ≤ 1048576
  pub named : (i : ℕ) → i < length route → get_or route i 0 < centres w
  pub space : kept_in r + length route ≤ 1000000 → 2 * kept_in r + 2 * length route ≤ length points

-- q is what the looks after a frame make of r
pub record LookedAt (l : Limits) (r q : Record) : Type 0 where
  pub so : (p : Plan) (n : ℕ) (s : State) → p.states ≡ l.states → p.results ≡ l.results → s.reason ≡ Running → r ≡ record_of n s → q ≡ record_of n (look p s)

pub record Listing (l : Limits) (r : Record) (w : Rect) (row : List ℕ) (route : List ℕ) (q : Record) (layouts points layouts' points' route' : List ℕ) : Type 0 where
  pub full : 1000000 < kept_in r + length route → (q ≡ stop_rec r 4) × (layouts' ≡ layouts) × (points' ≡ points)
  pub listed : kept_in r + length route ≤ 1000000
      → LookedAt l (listed_rec r (length route)) q × (layouts' ≡ over layouts (r.layouts * 7) row) × (points' ≡ over points (2 * kept_in r) (numbers (map (position_of w) route)))
  pub wiped : route' ≡ zeros (length route)
