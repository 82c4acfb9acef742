-- `search_tidy::tidied` meets its contract, field by field.
use Rattle.search_tidy.specs.Stores.{tidy}
use Rattle.search_tidy.proofs.tidied.Goals as goal

pub returns : goal.returns
unfolding tidy
returns c =
    let x = c.cleared.ensures in
    let y = c.cleared-2.ensures in
    let z = c.cleared-3.ensures in
    (cc (x.0, y.0, z.0), record { routes = x.1; lengths = y.1; nexts = z.1 })
