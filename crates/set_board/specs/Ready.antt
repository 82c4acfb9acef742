-- What is lent for the evaluation of a set or for its verdict.
use Rattle.std.specs.Prelude.{ℕ, ◌≤◌, ◌≡◌, true, List, ℤ, length, replicate}
use Rattle.base_laws.specs.Lists.{ascends}
use Rattle.base_model.specs.declared.Query.{Query}
use Rattle.ground_rects.specs.Rects.{small}
use Rattle.ground_rects.specs.Windows.{centres, window_fits, in_window}
use Rattle.rule_routes.specs.Edges.{steps_of, each_once}
use Rattle.set_blocked.specs.Blocked.{AllowReady}
use Rattle.set_extend.specs.Join.{Rowed}
use Rattle.set_places.specs.declared.Given.{Given}
use Rattle.set_pass.specs.declared.Areas.{Areas}

-- the inputs of an evaluation or a verdict over n placements
pub record Ready (q : Query) (groups numbers : List ℕ) (edges : List ℤ) (block_base allow_base : List ℕ) (steps : List ℤ) (set : List ℕ) (n : ℕ) : Type 0 where
  pub fits : window_fits 8192 8192 q.window ≡ true
  pub start_in : in_window q.window q.start ≡ true
  pub end_in : in_window q.window q.end ≡ true
  pub slim : small q.block ≡ true
  pub bytes : centres q.window ≤ length block_base
  pub allowed : AllowReady q.window q.allow allow_base
  pub rows : Rowed n groups numbers edges set
  pub once : each_once (steps_of steps) ≡ true
  pub rising : ascends set ≡ true

-- the working areas have an entry for each of c centres, all zero
pub record Blank (c : ℕ) (map queue predecessors route : List ℕ) : Type 0 where
  pub map_clear : map ≡ replicate c 0
  pub queue_clear : queue ≡ replicate c 0
  pub predecessors_clear : predecessors ≡ replicate c 0
  pub route_clear : route ≡ replicate c 0

-- the same of what is given and of the areas lent
abbrev pub ReadyFor : Given → (steps : List ℤ) → (set : List ℕ) → ℕ → Type 0
ReadyFor i steps set n = Ready i.query i.places.groups.now i.places.numbers.now i.places.edges.now i.block_base.now i.allow_base.now steps set n

abbrev pub BlankIn : ℕ → Areas → Type 0
BlankIn c a = Blank c a.map.now a.queue.now a.predecessors.now a.route.now
