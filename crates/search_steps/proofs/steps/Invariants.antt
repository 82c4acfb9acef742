-- `search_steps::steps` meets its contract: after i turns record and areas hold the state i steps on.
use Rattle.ground_rects.specs.Windows.{centres}
use Rattle.set_board.specs.Ready.{BlankIn}
use Rattle.set_pass.specs.Same.{SameAreas}
use Rattle.rule_calls.specs.Areas.{store_in}
use Rattle.search_steps.specs.Terms.{terms_of}
use Rattle.search_steps.proofs.Stepping.{Stepping}
use Rattle.search_steps.proofs.steps.Given as goal

abbrev pub invariant-loop-i : goal.invariant-loop-i
invariant-loop-i l = record {
  stepping : Stepping (terms_of l.given l.steps l.limits) l.i l.initial.r
      (store_in l.initial.lists l.initial.visited l.initial.layouts l.initial.points) l.r (store_in l.lists l.visited l.layouts l.points);
  blank : BlankIn (centres l.given.query.window) l.areas;
  same : SameAreas l.fn.areas l.areas;
}
