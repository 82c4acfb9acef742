-- `set_verdict::verdict` meets its contract: the first of the verdicts that holds, and the map is wiped.
use mathlib.Core.Path.{refl, ◌∙◌}
use Prim.Native.Nat.{◌/◌}
use lib.ListN.{length}
use Rattle.ground_rects.specs.Windows.{centre_at}
use Rattle.rule_routes.specs.Edges.{steps_of}
use Rattle.set_verdict.proofs.Judging.{verdict_slots, verdict_overlap, verdict_fit, lent_blank}
use Rattle.set_verdict.proofs.verdict.Goals as goal

pub returns-then-over_slots-clause-value : goal.returns-then-over_slots-clause-value
returns-then-over_slots-clause-value c =
    let g = c.args.given.now in
    let p = c.requires.ready.rows in
    let n = length g.places.numbers.now / 4 in
    let q = g.query in
    verdict_slots g n (steps_of c.args.steps.now) c.args.set.now p.fours p.eights (centre_at q.window q.start) (centre_at q.window q.end) refl refl
    c.over_slots.result (c.over_slots.ensures n) c.if-over_slots.true

pub returns-then-overlaps-clause-value : goal.returns-then-overlaps-clause-value
returns-then-overlaps-clause-value c =
    let g = c.args.given.now in
    let p = c.requires.ready.rows in
    let n = length g.places.numbers.now / 4 in
    let q = g.query in
    verdict_overlap g n (steps_of c.args.steps.now) c.args.set.now p.fours p.eights (centre_at q.window q.start) (centre_at q.window q.end) refl refl
    c.over_slots.result (c.over_slots.ensures n) c.if-over_slots.false c.overlaps.result c.overlaps.ensures c.if-overlaps.true

pub fit_verdict-verdict-requires-clause-route_lent : goal.fit_verdict-verdict-requires-clause-route_lent
fit_verdict-verdict-requires-clause-route_lent c =
    lent_blank c.args.given.now.query c.centre_at.result c.centre_at-2.result c.requires.ready.fits c.centre_at.ensures.1 c.centre_at-2.ensures.1 c.requires.blank

pub returns-clause-value : goal.returns-clause-value
returns-clause-value c =
    let g = c.args.given.now in
    let p = c.requires.ready.rows in
    let n = length g.places.numbers.now / 4 in
    c.fit_verdict-verdict.ensures.value
    ∙ verdict_fit g n (steps_of c.args.steps.now) c.args.set.now p.fours p.eights c.centre_at.result c.centre_at-2.result c.centre_at.ensures.0 c.centre_at-2.ensures.0
    c.over_slots.result (c.over_slots.ensures n) c.if-over_slots.false c.overlaps.result c.overlaps.ensures c.if-overlaps.false
