-- `route_c::hitrovzen_route` meets its contract: an answer with no route is the number 0.
use Rattle.route_find.proofs.Routing.{routed_number}
use Rattle.route_c.proofs.hitrovzen_route.Goals as goal

pub returns : goal.returns
returns c = record { route_found = rw c.unwrap_or.ensures (routed_number c.route.ensures.routed); search_restored = c.route.ensures.search_restored }
