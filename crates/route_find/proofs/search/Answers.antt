-- The answers to the goals of `route_find::search`.
use mathlib.Core.Path.{refl, sym}
use native.Mathlib.Omega.{arith}
use Rattle.rule_routes.specs.Routes.{search_from}
use Rattle.route_step.proofs.Steps.{neighbours_below}
use Rattle.route_find.proofs.Searching.{start_inside, looping_begin, looping_at, reached_le, left, node_below, end_met, end_missed, searching_stop, searching_next, searching_done}
use Rattle.route_find.proofs.search.Goals as goal

pub bounds-predecessors-start : goal.bounds-predecessors-start
bounds-predecessors-start c = start_inside _ _ _ _ c.requires.search_lent

pub loop-head-init : goal.loop-head-init
loop-head-init c = looping_begin _ _ _ _ _ _ c.requires.search_lent _ _ refl refl

pub returns-then-eq : goal.returns-then-eq
unfolding search_from
returns-then-eq c =
    let i = looping_at _ _ _ _ _ _ c.requires.search_lent _ _ _ _ c.loop-head.invariant in
    record {
      search_left = left _ _ _ _ _ _ _ _ _ i.searching;
      by_index =
          searching_stop _ _ _ _ _ _ _ _ _ i.searching c.loop-head-test.true _ refl (end_met _ _ (sym c.if-eq.ensures));
    }

pub expand-tail-requires-clause-u_bound : goal.expand-tail-requires-clause-u_bound
expand-tail-requires-clause-u_bound c = node_below _ _ _ _ _ _ _ _ _ c.loop-head.invariant.searching c.loop-head-test.true _ refl

pub loop-head-smaller : goal.loop-head-smaller
loop-head-smaller c =
    let t = reached_le _ _ _ _ _ _ _ _ _ c.loop-head.invariant.searching in omega (arith, c.loop-head-test.true)

pub loop-head-preserved : goal.loop-head-preserved
loop-head-preserved c =
    record {
      lent = c.loop-head.invariant.lent;
      searching =
          searching_next _ _ _ _ _ _ _ _ _ c.loop-head.invariant.searching c.loop-head-test.true _ refl
          (neighbours_below _ _ _ _ _) (end_missed _ _ (sym c.if-eq.ensures)) _ c.expand-tail.ensures;
    }

pub returns : goal.returns
unfolding search_from
returns c =
    let i = looping_at _ _ _ _ _ _ c.requires.search_lent _ _ _ _ c.loop-head.invariant in
    record {
      search_left = left _ _ _ _ _ _ _ _ _ i.searching;
      by_index =
          searching_done _ _ _ _ _ _ _ _ _ i.searching c.loop-head-test.false;
    }
