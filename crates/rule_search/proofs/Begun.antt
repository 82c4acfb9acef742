-- What holds of a begun search on a board after a step by any number. The laws of the other files, gathered.
use Prim.Native.Nat.{ℕ, ◌≤◌, ◌<◌}
use mathlib.Core.List.{List, Memᴰ}
use lib.ListN.{length}
use Rattle.base_laws.specs.Lists.{Distinct}
use Rattle.base_model.specs.declared.Position.{Position}
use Rattle.rule_layouts.specs.Boards.{Board}
use Rattle.rule_layouts.specs.Fits.{Fits}
use Rattle.rule_layouts.specs.Regular.{Regular}
use Rattle.rule_search.specs.State.{State}
use Rattle.rule_search.specs.Frames.{Plan, step, begun}
use Rattle.rule_search.specs.Formed.{PlanOn, Good}
use Rattle.rule_search.proofs.Found.{Stacked, step_found, begun_found}
use Rattle.rule_search.proofs.Exhaustive.{reach_fits, Exact, found_exact}
use Rattle.rule_search.proofs.Formed.{step_good, begun_good}

pub record Begun (g : Board) (at : ℕ → Position) (p : Plan) (s : State) : Type 0 where
  -- no set is evaluated twice, and each fits
  pub once : Distinct s.visited
  pub fits : (w : List ℕ) → Memᴰ w s.visited → Fits g.places w
  -- each list is what the evaluation of the set below it gave, and none is empty
  pub stacked : Stacked p s.pending s.lists
  -- at most six members and lists, entries that may join, evaluations, layouts and points within their limits
  pub good : Good g p s
  -- the layouts are walls, each once; after Exhausted they are all the walls
  pub exact : Exact g at s

pub begun_search : (g : Board) (at : ℕ → Position) (p : Plan) → PlanOn g at p → Regular g → ((s : List ℕ) → Fits g.places s → length s ≤ 6) → 0 < p.results
    → (n : ℕ) → Begun g at p (step p n begun)
begun_search g at p on regular six h n =
    let f = step_found p n begun (begun_found p) in
    record {
      once = f.core.once;
      fits = λ w m. reach_fits g at p on regular w (f.core.came w m);
      stacked = f.core.stacked;
      good = step_good g at p on regular six n begun (begun_good g p h);
      exact = found_exact g at p on regular (step p n begun) f;
    }
