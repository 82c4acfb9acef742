-- `search_steps::list_first` meets its contract: the part that is lent comes back zero.
use mathlib.Core.Path.{refl, ap}
use mathlib.Core.List.{List, ◌++◌}
use Prim.Native.Nat.{ℕ}
use lib.ListN.{drop}
use Rattle.search_steps.proofs.list_first.Goals as goal

pub returns : goal.returns
returns c =
    let l = c.list_wall.ensures in
    record { listing = record { full = l.full; listed = l.listed; wiped = refl }; rest = ap (λ (w : List ℕ). w ++ drop c.args.k c.args.route.now) l.wiped }
