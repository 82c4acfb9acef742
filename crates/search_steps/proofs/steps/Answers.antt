-- The answers to the goals of `search_steps::steps`.
use mathlib.Core.Path.{refl}
use Rattle.std.proofs.Common.{rules}
use Rattle.search_steps.proofs.Stepping.{stepping_begin, places_are, seek_asks, visit_asks, stepping_stopped, stepping_on}
use Rattle.search_steps.proofs.steps.Goals as goal

pub loop-i-init : goal.loop-i-init
loop-i-init c = record { stepping = stepping_begin _ _ _ c.requires.holds_some; blank = c.requires.blank; same = search rules }

pub seek-found-requires : goal.seek-found-requires
seek-found-requires c =
    seek_asks _ c.args.rec.placements (places_are _ _ _ c.requires.holds_some c.args.rec.placements refl) _ _ c.loop-i.invariant.stepping.held

pub returns-then-found-ne-RUNNING-clause-steps_to : goal.returns-then-found-ne-RUNNING-clause-steps_to
returns-then-found-ne-RUNNING-clause-steps_to c =
    stepping_stopped _ c.args.rec.placements (places_are _ _ _ c.requires.holds_some c.args.rec.placements refl) _ _
    c.seek-found.result _ c.seek-found.ensures _ _ _ c.loop-i.invariant.stepping _ c.loop-i-test.true c.if-found-ne-RUNNING.true

pub visit-r-requires-clause-holds_ripe : goal.visit-r-requires-clause-holds_ripe
visit-r-requires-clause-holds_ripe c =
    visit_asks _ c.args.rec.placements (places_are _ _ _ c.requires.holds_some c.args.rec.placements refl) _ _
    c.seek-found.result _ c.seek-found.ensures c.loop-i.invariant.stepping.held c.if-found-ne-RUNNING.false

pub loop-i-preserved : goal.loop-i-preserved
loop-i-preserved c = record {
  stepping = stepping_on _ c.args.rec.placements (places_are _ _ _ c.requires.holds_some c.args.rec.placements refl) _ _
      c.seek-found.result _ c.seek-found.ensures _ _ _ c.loop-i.invariant.stepping c.if-found-ne-RUNNING.false _ _ c.visit-r.ensures.visits_to;
  blank = c.visit-r.ensures.blank_2;
  same = search rules;
}
