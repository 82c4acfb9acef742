-- `set_pass::allowed_route` meets its contract, by whether there is an allowed mover.
use Rattle.rule_routes.specs.Edges.{steps_of}
use Rattle.set_pass.proofs.Allowing.{allow_nobody, allow_moving, allow_routed, map_nobody, map_somebody}
use Rattle.set_pass.proofs.allowed_route.Goals as goal

pub returns-in_default-clause-allowed : goal.returns-in_default-clause-allowed
returns-in_default-clause-allowed c =
    let a = c.args in
    let g = a.ground.now in
    allow_nobody g.window (steps_of g.steps.now) g.start g.end g.places.edges.now a.allow a.base.now a.set.now c.in_default.is a.areas.now.route.now

pub returns-in_default-clause-map_after : goal.returns-in_default-clause-map_after
returns-in_default-clause-map_after c =
    let a = c.args in
    let g = a.ground.now in
    map_nobody g.window (steps_of g.steps.now) g.start g.end g.places.edges.now a.allow a.base.now a.set.now c.in_default.is a.areas.now.map.now

pub route_past-requires-clause-moving : goal.route_past-requires-clause-moving
route_past-requires-clause-moving c =
    let a = c.args in
    let g = a.ground.now in
    allow_moving g.window (steps_of g.steps.now) g.start g.end g.places.edges.now a.allow a.base.now a.set.now c.in-Some.bounds c.in-Some.is
    c.requires.allow_ready c.requires.named

pub returns-clause-allowed : goal.returns-clause-allowed
returns-clause-allowed c =
    let a = c.args in
    let g = a.ground.now in
    allow_routed g.window (steps_of g.steps.now) g.start g.end g.places.edges.now a.allow a.base.now a.set.now c.in-Some.bounds c.in-Some.is
    a.areas.now.route.now c.route_past.new.areas.route.now c.route_past.result c.route_past.ensures.routed

pub returns-clause-map_after : goal.returns-clause-map_after
returns-clause-map_after c =
    let a = c.args in
    let g = a.ground.now in
    map_somebody g.window (steps_of g.steps.now) g.start g.end g.places.edges.now a.allow a.base.now a.set.now c.in-Some.bounds c.in-Some.is
    a.areas.now.map.now c.route_past.new.areas.map.now c.route_past.ensures.map_after
