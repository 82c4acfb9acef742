-- `route_reach::reach_count` meets its contract: a closed start reaches nothing; from an open one a search that no centre stops finds all that have a
-- route, and the wiped areas are as before.
use mathlib.Core.Path.{refl, sym, ap, ◌∙◌, ◌≡◌}
use mathlib.Core.Bool.{false}
use mathlib.Core.Logic.{⊎_elim}
use Rattle.rule_routes.specs.Edges.{steps_of, window_edges}
use Rattle.rule_routes.proofs.WindowLaws.{window_within}
use Rattle.rule_routes.proofs.Reach.{reach_closed, reach_found}
use Rattle.route_find.specs.Results.{tail_of}
use Rattle.route_find.proofs.Routing.{restored}
use Rattle.route_reach.proofs.reach_count.Goals as goal
use Rattle.route_reach.proofs.reach_count.Goals.{in-Ok, in-Ok-2}

pub returns-then-not-is_open-clause-value : goal.returns-then-not-is_open-clause-value
returns-then-not-is_open-clause-value c =
    let g = c.args.grid.now in
    sym (reach_closed (window_edges g.width g.height (steps_of c.args.steps.now)) _ (window_within g.width g.height (steps_of c.args.steps.now))
    _ c.args.start c.requires.search_lent.start_below (sym c.if-not-is_open.ensures))

pub returns : goal.returns
returns c =
    let g = c.args.grid.now in
    let same : tail_of c.search.result ≡ c.match-search.tail =
    elim c.match-search.branch [
      | in-Ok w ↦ ⊎_elim (λ e. ap tail_of e) (λ e. ap tail_of e) w.in-Ok.is ∙ sym w.tail-is
      | in-Ok-2 w ↦ ⊎_elim (λ e. ap tail_of e) (λ e. ap tail_of e) w.in-Ok.is ∙ sym w.tail-is
    ]
    in
    record {
      value = sym same
          ∙ (c.search.ensures.by_index (λ v. false) (λ v h. refl)).count
          ∙ sym (reach_found (window_edges g.width g.height (steps_of c.args.steps.now)) _ (window_within g.width g.height (steps_of c.args.steps.now))
          _ c.args.start c.requires.search_lent.start_below (sym c.if-not-is_open.ensures));
      search_restored = restored _ _ _ _ c.requires.search_lent _ _ _ (rw same at c.search.ensures.search_left) c.search.auto.queue
          c.search.auto.predecessors _ _ c.wipe.ensures.queue_after c.wipe.ensures.predecessors_after;
    }
