-- What a look for the allowed route answers and leaves in the route.
use Rattle.std.specs.Prelude.{ℕ, ◌≡◌, List}
use Rattle.std.specs.Prelude as std
use Rattle.std.proofs.Math.Option.{Option}
use Rattle.route_find.specs.Results.{counted, laid_into}

-- the answer is the number of the allowed route's points, none where there is no such route, and it stands in the route
pub record Allowed (o : Option (List ℕ)) (r : std.Option ℕ) (route route' : List ℕ) : Type 0 where
  pub count : r ≡ counted o
  pub laid : route' ≡ laid_into o route
