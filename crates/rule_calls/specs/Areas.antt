-- The areas lent: their lengths, the search that record and areas hold, and how it is laid back (RULES 6.1, 6.2, 6.3, 6.4, 6.5, 6.6, 6.7).
use Rattle.std.specs.Prelude.{ℕ, zero, suc, ◌+◌, ◌*◌, min, Bool, true, ◌&&◌, List, [], ◌∷◌, ◌++◌, map, reverse, leb, ℤ, pos, length, get_or, take, drop, replicate}
use Rattle.base_laws.specs.Lists.{below, total, flat, padded}
use Rattle.base_model.specs.declared.Rect.{Rect}
use Rattle.base_model.specs.declared.Position.{Position}
use Rattle.std.specs.Prelude.{None, Some}
use Rattle.base_model.specs.declared.Limits.{Limits}
use Rattle.base_model.specs.declared.Record.{Record}
use Rattle.ground_rects.specs.Windows.{width, height, centres}
use Rattle.rule_search.specs.State.{Reason, Running, Exhausted, StateLimit, ResultLimit, Extensions, Layout, State, state}
use Rattle.rule_layouts.specs.Inputs.{Inputs}

-- the working areas
pub record Work : Type 0 where
  pub counts : List ℤ
  pub map : List ℕ
  pub queue : List ℕ
  pub predecessors : List ℕ
  pub route : List ℕ

-- the areas that hold a search between calls
pub record Store : Type 0 where
  pub lists : List ℕ
  pub visited : List ℕ
  pub layouts : List ℕ
  pub points : List ℕ

abbrev pub work_in : List ℤ → (map queue predecessors route : List ℕ) → Work
work_in counts map queue predecessors route = record { counts = counts; map = map; queue = queue; predecessors = predecessors; route = route }

abbrev pub store_in : (lists visited layouts points : List ℕ) → Store
store_in lists visited layouts points = record { lists = lists; visited = visited; layouts = layouts; points = points }

-- ---- lengths
-- counts: (width + 1) × (height + 1)
unfoldable pub counts_length : Rect → ℕ
counts_length w = (width w + 1) * (height w + 1)

-- x, y pairs for min(1,000,000, result limit × c) points; none without an allowed mover
unfoldable pub points_length : Inputs → Limits → ℕ
points_length i l = elim i.query.allow [ None ↦ 0 | Some m ↦ 2 * min 1000000 (l.results * centres i.query.window) ]

unfoldable pub work_fits : Rect → Work → Bool
work_fits w a =
    leb (counts_length w) (length a.counts) && leb (centres w) (length a.map) && leb (centres w) (length a.queue)
    && leb (centres w) (length a.predecessors) && leb (centres w) (length a.route)

-- lists: 6 × placements; visited: 7 × state limit; layouts: 7 × result limit
unfoldable pub store_fits : Inputs → Limits → Store → Bool
store_fits i l a =
    leb (6 * length i.places) (length a.lists) && leb (7 * l.states) (length a.visited)
    && leb (7 * l.results) (length a.layouts) && leb (points_length i l) (length a.points)

-- c bytes each; the allowed mover's only where there is one
unfoldable pub bases_fit : Inputs → Bool
bases_fit i =
    leb (centres i.query.window) (length i.block_base)
    && elim i.query.allow [ None ↦ true | Some m ↦ leb (centres i.query.window) (length i.allow_base) ]

-- ---- what stands in an area after a call
-- the used entries, zeros up to n entries, and past them what stood there
unfoldable pub laid : ℕ → List ℕ → List ℕ → List ℕ
laid n used area = padded n used ++ drop n area

-- the working areas with zeros up to their lengths, as each accepted call leaves them
unfoldable pub cleared : Rect → Work → Work
cleared w a = record {
  counts = replicate (counts_length w) (pos 0) ++ drop (counts_length w) a.counts;
  map = laid (centres w) [] a.map;
  queue = laid (centres w) [] a.queue;
  predecessors = laid (centres w) [] a.predecessors;
  route = laid (centres w) [] a.route;
}

-- ---- the search that record and areas hold
-- 1 to 4 name a reason; what other numbers read as does not matter, since 16 refuses them. 0 is one of these, so that a record that no begin has filled is refused.
unfoldable pub reason_of : ℕ → Reason
reason_of zero = Running
reason_of (suc zero) = Running
reason_of (suc (suc zero)) = Exhausted
reason_of (suc (suc (suc zero))) = StateLimit
reason_of (suc (suc (suc (suc n)))) = ResultLimit

unfoldable pub number_of : Reason → ℕ
number_of Running = 1
number_of Exhausted = 2
number_of StateLimit = 3
number_of ResultLimit = 4

-- a visited or layout row is a length and six members
unfoldable pub row_of : List ℕ → ℕ → List ℕ
row_of area k = take (get_or area (7 * k) 0) (drop (7 * k + 1) area)

unfoldable pub positions : List ℕ → List Position
positions [] = []
positions (x ∷ []) = []
positions (x ∷ y ∷ rest) = record { x = x; y = y } ∷ positions rest

unfoldable pub numbers : List Position → List ℕ
numbers [] = []
numbers (p ∷ ps) = p.x ∷ p.y ∷ numbers ps

-- the part of the points area that is layout k's route: route after route
unfoldable pub points_of : Record → List ℕ → ℕ → List ℕ
points_of r points k = take (2 * get_or r.routes k 0) (drop (2 * total (take k r.routes)) points)

-- list k begins at k × placements
unfoldable pub list_of : Record → List ℕ → ℕ → Extensions
list_of r lists k = record { entries = take (get_or r.lengths k 0) (drop (k * r.placements) lists); next = get_or r.nexts k 0 }

-- the first k lists, last made first
unfoldable pub lists_of : Record → List ℕ → ℕ → List Extensions
lists_of r lists zero = []
lists_of r lists (suc k) = list_of r lists k ∷ lists_of r lists k

unfoldable pub state_of : Record → Store → State
state_of r a =
    state (reason_of r.reason) r.pending (lists_of r a.lists r.lists) (map (row_of a.visited) (below r.evaluations))
    (map (λ (k : ℕ). record { members = row_of a.layouts k; route = positions (points_of r a.points k) }) (below r.layouts))

-- ---- and how it is laid back, unused entries zero
unfoldable pub record_of : ℕ → State → Record
record_of placements s = record {
  reason = number_of s.reason;
  evaluations = length s.visited;
  placements = placements;
  layouts = length s.layouts;
  lists = length s.lists;
  pending = s.pending;
  routes = padded 32 (map (λ (y : Layout). length y.route) s.layouts);
  lengths = padded 6 (map (λ (l : Extensions). length l.entries) (reverse s.lists));
  nexts = padded 6 (map (λ (l : Extensions). l.next) (reverse s.lists));
}

unfoldable pub row : List ℕ → List ℕ
row s = length s ∷ padded 6 s

unfoldable pub store_of : Inputs → Limits → State → Store → Store
store_of i l s a = record {
  lists = laid (6 * length i.places) (flat (map (λ (e : Extensions). padded (length i.places) e.entries) (reverse s.lists))) a.lists;
  visited = laid (7 * l.states) (flat (map row s.visited)) a.visited;
  layouts = laid (7 * l.results) (flat (map (λ (y : Layout). row y.members) s.layouts)) a.layouts;
  points = laid (points_length i l) (flat (map (λ (y : Layout). numbers y.route) s.layouts)) a.points;
}
