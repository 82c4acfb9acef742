-- `set_shut::shut_verdict` meets its contract, by whether the set is minimal and by whether the allowed mover passes.
use Rattle.rule_routes.specs.Edges.{steps_of}
use Rattle.set_pass.specs.Lent.{block_on, allow_given}
use Rattle.set_pass.proofs.Lifting.{lent_lifted}
use Rattle.set_shut.proofs.Judging.{shut_spare, shut_shut, shut_wall}
use Rattle.set_shut.proofs.shut_verdict.Goals as goal

pub returns-then-not-is_minimal_block-clause-value : goal.returns-then-not-is_minimal_block-clause-value
returns-then-not-is_minimal_block-clause-value c =
    let g = c.args.ground.now in
    let i = c.args.given.now in
    shut_spare g.window (steps_of g.steps.now) g.start g.end (block_on g i) (allow_given g i) c.args.set.now
    c.is_minimal_block.result c.is_minimal_block.ensures.value c.if-not-is_minimal_block.true

pub lets_allowed-requires-clause-route_lent : goal.lets_allowed-requires-clause-route_lent
lets_allowed-requires-clause-route_lent c =
    let g = c.args.ground.now in
    lent_lifted (steps_of g.steps.now) (block_on g c.args.given.now) c.args.set.now
    c.requires.route_lent c.is_minimal_block.ensures.map_after c.is_minimal_block.ensures.areas_kept

pub returns-then-not-lets_allowed-clause-value : goal.returns-then-not-lets_allowed-clause-value
returns-then-not-lets_allowed-clause-value c =
    let g = c.args.ground.now in
    let i = c.args.given.now in
    shut_shut g.window (steps_of g.steps.now) g.start g.end (block_on g i) (allow_given g i) c.args.set.now
    c.is_minimal_block.result c.is_minimal_block.ensures.value c.if-not-is_minimal_block.false
    c.lets_allowed.result c.lets_allowed.ensures.value c.if-not-lets_allowed.true

pub returns-clause-value : goal.returns-clause-value
returns-clause-value c =
    let g = c.args.ground.now in
    let i = c.args.given.now in
    shut_wall g.window (steps_of g.steps.now) g.start g.end (block_on g i) (allow_given g i) c.args.set.now
    c.is_minimal_block.result c.is_minimal_block.ensures.value c.if-not-is_minimal_block.false
    c.lets_allowed.result c.lets_allowed.ensures.value c.if-not-lets_allowed.false

pub returns-then-not-is_minimal_block-clause-map_bytes : goal.returns-then-not-is_minimal_block-clause-map_bytes
returns-then-not-is_minimal_block-clause-map_bytes c =
    let g = c.args.ground.now in
    (lent_lifted (steps_of g.steps.now) (block_on g c.args.given.now) c.args.set.now
    c.requires.route_lent c.is_minimal_block.ensures.map_after c.is_minimal_block.ensures.areas_kept).bytes
