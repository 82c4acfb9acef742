-- What a look at a set is lent and tells, over the ground, the movers and the areas that the code lends.
use Rattle.std.specs.Prelude.{ℕ, Bool, List}
use Rattle.std.proofs.Math.Option.{Option}
use Rattle.base_model.specs.Allow.{Allow}
use Rattle.ground_rects.specs.Windows.{centres}
use Rattle.rule_routes.specs.Edges.{steps_of}
use Rattle.rule_layouts.specs.Boards as boards
use Rattle.route_find.specs.Results.{SearchRestored}
use Rattle.set_blocked.specs.declared.Mover.{Mover}
use Rattle.set_blocked.specs.Blocked.{blocked_map, mover_in, mover_on, allow_in}
use Rattle.set_places.specs.declared.Given.{Given}
use Rattle.set_pass.specs.declared.Ground.{Ground}
use Rattle.set_pass.specs.declared.Areas.{Areas}
use Rattle.set_pass.specs.Pass.{RouteLent, Moving, AreasKept, passed, minimal, allowed_past}
use Rattle.set_pass.specs.Maps.{map_after_lifting, map_after_allowed}

abbrev pub Lent : Ground → Areas → Type 0
Lent g a = RouteLent g.window g.start g.end a.map.now a.queue.now a.predecessors.now a.route.now

abbrev pub Meets : Ground → Mover → List ℕ → Type 0
Meets g m set = Moving g.window m.bounds m.base.now g.places.edges.now set

abbrev pub Kept : Areas → Areas → Type 0
Kept a b = AreasKept a.queue.now a.predecessors.now a.route.now b.queue.now b.predecessors.now b.route.now

abbrev pub Restored : Areas → Areas → Type 0
Restored a b = SearchRestored a.queue.now a.predecessors.now b.queue.now b.predecessors.now

-- a mover, and the allowed one where there is one, on the ground
abbrev pub mover_at : Ground → Mover → boards.Mover
mover_at g m = mover_on g.window g.places.edges.now m

abbrev pub allow_on : Ground → Allow → List ℕ → Option boards.Mover
allow_on g allow base = allow_in g.window g.places.edges.now allow base

-- the movers of what is given
abbrev pub block_on : Ground → Given → boards.Mover
block_on g given = mover_in g.window g.places.edges.now given.query.block given.block_base.now

abbrev pub allow_given : Ground → Given → Option boards.Mover
allow_given g given = allow_on g given.query.allow given.allow_base.now

-- the routes that a set leaves them
abbrev pub past : Ground → Mover → List ℕ → Option (List ℕ)
past g m set = passed g.window (steps_of g.steps.now) g.start g.end (mover_at g m) set

abbrev pub is_minimal : Ground → Mover → List ℕ → Bool
is_minimal g m set = minimal g.window (steps_of g.steps.now) g.start g.end (mover_at g m) set

abbrev pub allowed_on : Ground → Option boards.Mover → List ℕ → Option (List ℕ)
allowed_on g allow set = allowed_past g.window (steps_of g.steps.now) g.start g.end allow set

-- the maps that are left laid
abbrev pub map_past : Ground → Mover → List ℕ → List ℕ
map_past g m set = blocked_map (mover_at g m) (centres g.window) set

abbrev pub map_lifted : Ground → Mover → (set cells : List ℕ) → List ℕ
map_lifted g m set cells = map_after_lifting g.window (steps_of g.steps.now) g.start g.end (mover_at g m) set cells

abbrev pub map_allowed : Ground → Option boards.Mover → (set cells : List ℕ) → List ℕ
map_allowed g allow set cells = map_after_allowed g.window allow set cells

-- the same of the blocked mover of what is given
abbrev pub block_past : Ground → Given → List ℕ → Option (List ℕ)
block_past g given set = passed g.window (steps_of g.steps.now) g.start g.end (block_on g given) set

abbrev pub map_block : Ground → Given → List ℕ → List ℕ
map_block g given set = blocked_map (block_on g given) (centres g.window) set
