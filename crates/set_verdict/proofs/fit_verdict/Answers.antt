-- `set_verdict::fit_verdict` meets its contract, by whether an end is covered and by whether there is a route.
use mathlib.Core.Path.{◌∙◌}
use native.Mathlib.Omega.{arith}
use Rattle.rule_routes.specs.Edges.{steps_of}
use Rattle.set_pass.specs.Lent.{block_on, allow_given}
use Rattle.set_pass.proofs.Passing.{lent_laid}
use Rattle.set_verdict.proofs.Judging.{fit_covered, fit_open, fit_shut}
use Rattle.set_verdict.proofs.fit_verdict.Goals as goal

pub ends_open-requires : goal.ends_open-requires
ends_open-requires c =
    let l = c.requires.route_lent in
    let again = lent_laid (block_on c.args.ground.now c.args.given.now) c.args.set.now l c.lets_pass-open.ensures.map_after c.lets_pass-open.ensures.areas_kept in
    (omega (arith, again.bytes, l.start_below), omega (arith, again.bytes, l.end_below))

pub returns-then-not-ends_open-clause-value : goal.returns-then-not-ends_open-clause-value
returns-then-not-ends_open-clause-value c =
    let g = c.args.ground.now in
    let i = c.args.given.now in
    let l = c.requires.route_lent in
    fit_covered g.window (steps_of g.steps.now) g.start g.end (block_on g i) (allow_given g i) c.args.set.now
    c.lets_pass-open.new.areas.map.now c.lets_pass-open.ensures.map_after l.start_below l.end_below
    c.ends_open.result c.ends_open.ensures c.if-not-ends_open.true

pub returns-then-open-clause-value : goal.returns-then-open-clause-value
returns-then-open-clause-value c =
    let g = c.args.ground.now in
    let i = c.args.given.now in
    let l = c.requires.route_lent in
    fit_open g.window (steps_of g.steps.now) g.start g.end (block_on g i) (allow_given g i) c.args.set.now
    c.lets_pass-open.new.areas.map.now c.lets_pass-open.ensures.map_after l.start_below l.end_below
    c.ends_open.result c.ends_open.ensures c.if-not-ends_open.false
    c.lets_pass-open.result c.lets_pass-open.ensures.value c.if-open.true

pub shut_verdict-requires-clause-route_lent : goal.shut_verdict-requires-clause-route_lent
shut_verdict-requires-clause-route_lent c =
    lent_laid (block_on c.args.ground.now c.args.given.now) c.args.set.now c.requires.route_lent c.lets_pass-open.ensures.map_after c.lets_pass-open.ensures.areas_kept

pub returns-clause-value : goal.returns-clause-value
returns-clause-value c =
    let g = c.args.ground.now in
    let i = c.args.given.now in
    let l = c.requires.route_lent in
    c.shut_verdict.ensures.value ∙ fit_shut g.window (steps_of g.steps.now) g.start g.end (block_on g i) (allow_given g i) c.args.set.now
    c.lets_pass-open.new.areas.map.now c.lets_pass-open.ensures.map_after l.start_below l.end_below
    c.ends_open.result c.ends_open.ensures c.if-not-ends_open.false
    c.lets_pass-open.result c.lets_pass-open.ensures.value c.if-open.false

pub returns-then-not-ends_open-clause-map_bytes : goal.returns-then-not-ends_open-clause-map_bytes
returns-then-not-ends_open-clause-map_bytes c =
    (lent_laid (block_on c.args.ground.now c.args.given.now) c.args.set.now c.requires.route_lent c.lets_pass-open.ensures.map_after c.lets_pass-open.ensures.areas_kept).bytes

pub returns-then-open-clause-map_bytes : goal.returns-then-open-clause-map_bytes
returns-then-open-clause-map_bytes c =
    (lent_laid (block_on c.args.ground.now c.args.given.now) c.args.set.now c.requires.route_lent c.lets_pass-open.ensures.map_after c.lets_pass-open.ensures.areas_kept).bytes
