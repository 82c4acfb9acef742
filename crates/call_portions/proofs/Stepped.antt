-- From the parts of a step to the whole: cleared working areas, and the call that is left.
use Prim.Native.Nat.{ℕ}
use mathlib.Core.Path.{◌≡◌, sym, ◌∙◌, ap}
use mathlib.Core.Bool.{true}
use mathlib.Core.Option.{none}
use mathlib.Core.List.{List}
use lib.IntN.{ℤ}
use lib.ListN.{take}
use Rattle.base_model.specs.Answers.{first}
use Rattle.base_model.specs.declared.Limits.{Limits}
use Rattle.base_model.specs.declared.Query.{Query}
use Rattle.base_model.specs.declared.Record.{Record}
use Rattle.base_model.specs.declared.Rect.{Rect}
use Rattle.ground_rects.specs.Windows.{centres}
use Rattle.rule_routes.specs.Edges.{steps_of, each_once}
use Rattle.rule_layouts.specs.Flat.{inputs_of}
use Rattle.rule_search.specs.Frames.{step}
use Rattle.rule_calls.specs.Areas.{Work, Store, work_in, cleared, state_of}
use Rattle.rule_calls.specs.Calls.{step_checks, step_over}
use Rattle.rule_calls.proofs.Back.{laid_clear}
use Rattle.rule_calls.proofs.StepLaws.{left, step_is}
use Rattle.search_steps.specs.Terms.{terms, plan_in, Holds}
use Rattle.call_portions.specs.Ground.{WorkClear}

module _ (w : Rect) (work : Work) (counts : List ℤ) (map queue predecessors route : List ℕ) (e : work_in counts map queue predecessors route ≡ cleared w work) where
  pub clear_after : WorkClear (centres w) map queue predecessors route
  unfolding cleared
  clear_after = record {
    map_clear = ap (λ (x : Work). take (centres w) x.map) e ∙ laid_clear (centres w) work.map;
    queue_clear = ap (λ (x : Work). take (centres w) x.queue) e ∙ laid_clear (centres w) work.queue;
    predecessors_clear = ap (λ (x : Work). take (centres w) x.predecessors) e ∙ laid_clear (centres w) work.predecessors;
    route_clear = ap (λ (x : Work). take (centres w) x.route) e ∙ laid_clear (centres w) work.route;
  }

pub stepped : (q : Query) (l : Limits) (groups numbers : List ℕ) (edges : List ℤ) (block_base allow_base : List ℕ) (steps : List ℤ) (r : Record) (n : ℕ) (work : Work) (a : Store)
    → first (step_checks (inputs_of q groups numbers edges block_base allow_base) l r work a) ≡ none → each_once (steps_of steps) ≡ true
    → (r' : Record) (work' : Work) (a' : Store) → work' ≡ cleared q.window work
    → Holds (terms q groups numbers edges block_base allow_base steps l) a (step (plan_in (terms q groups numbers edges block_base allow_base steps l)) n (state_of r a)) r' a'
    → step_over (steps_of steps) (inputs_of q groups numbers edges block_base allow_base) l r n work a ≡ record { answer = none; rec = r'; work = work'; store = a' }
unfolding left inputs_of
stepped q l groups numbers edges block_base allow_base steps r n work a passed once r' work' a' w h =
    step_is (steps_of steps) once (inputs_of q groups numbers edges block_base allow_base) l r work a passed n
    ∙ (λ j. record { answer = none; rec = sym h.rec j; work = sym w j; store = sym h.areas j })
