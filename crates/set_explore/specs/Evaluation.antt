-- What an evaluation answers and leaves in the areas.
use Rattle.std.specs.Prelude.{ℕ, ◌≡◌, List, ◌++◌, length, take, drop}
use Rattle.rule_layouts.specs.Explore.{Outcome, Nothing, Extend, Wall}
use Rattle.base_model.specs.declared.Query.{Query}
use Rattle.rule_routes.specs.Edges.{steps_of}
use Rattle.rule_layouts.specs.Boards.{Board}
use Rattle.set_places.specs.declared.Given.{Given}
use Rattle.set_pass.specs.declared.Ground.{Ground}
use Rattle.set_pass.specs.declared.Areas.{Areas}
use Rattle.set_board.specs.Ready.{Ready}
use Rattle.set_board.specs.Board.{flat_board}
use Rattle.set_explore.specs.declared.Explored as answer

-- the outcome for each answer: the list and the route stand in the first entries of their areas
unfoldable pub outcome_of : answer.Explored → (list route : List ℕ) → Outcome ℕ
outcome_of answer.TheVariants.Nothing list route = Nothing
outcome_of (answer.TheVariants.Extend k) list route = Extend (take k list)
outcome_of (answer.TheVariants.Wall k) list route = Wall (take k route)

-- the number that an answer gives
unfoldable pub outcome_number : answer.Explored → ℕ
outcome_number answer.TheVariants.Nothing = 0
outcome_number (answer.TheVariants.Extend k) = k
outcome_number (answer.TheVariants.Wall k) = k

-- how many extensions or points an outcome has
unfoldable pub size_of : Outcome ℕ → ℕ
size_of Nothing = 0
size_of (Extend es) = length es
size_of (Wall r) = length r

-- the lists area after an outcome, and the route area
unfoldable pub list_after : Outcome ℕ → List ℕ → List ℕ
list_after Nothing area = area
list_after (Extend es) area = es ++ drop (length es) area
list_after (Wall r) area = area

unfoldable pub route_after : Outcome ℕ → List ℕ → List ℕ
route_after Nothing area = area
route_after (Extend es) area = area
route_after (Wall r) area = r ++ drop (length r) area

pub record Evaluated (o : Outcome ℕ) (r : answer.Explored) (list list' route route' : List ℕ) : Type 0 where
  pub is : o ≡ outcome_of r list' route'
  pub number : outcome_number r ≡ size_of o
  pub listed : list' ≡ list_after o list
  pub laid : route' ≡ route_after o route

-- the map, the queue and the predecessors are as they were
pub record MapRestored (map queue predecessors map' queue' predecessors' : List ℕ) : Type 0 where
  pub map_kept : map' ≡ map
  pub queue_kept : queue' ≡ queue
  pub predecessors_kept : predecessors' ≡ predecessors

-- the same of the areas lent
abbrev pub MapRestoredIn : Areas → Areas → Type 0
MapRestoredIn a b = MapRestored a.map.now a.queue.now a.predecessors.now b.map.now b.queue.now b.predecessors.now

-- what is given, and the board of n placements, on a ground
abbrev pub query_on : Ground → Given → Query
query_on g i = record { window = g.window; start = i.query.start; end = i.query.end; block = i.query.block; allow = i.query.allow }

abbrev pub ReadyOn : Ground → Given → List ℕ → ℕ → Type 0
ReadyOn g i set n =
    Ready (query_on g i) g.places.groups.now g.places.numbers.now g.places.edges.now i.block_base.now i.allow_base.now g.steps.now set n

abbrev pub board_on : Ground → Given → ℕ → Board
board_on g i n =
    flat_board (query_on g i) g.start g.end n g.places.groups.now g.places.numbers.now g.places.edges.now i.block_base.now i.allow_base.now (steps_of g.steps.now)
