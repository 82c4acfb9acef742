-- `search_tidy::cleared` meets its contract: the array is lent whole, and cleared from `from` on.
use mathlib.Core.Path.{◌≡◌, ◌∙◌}
use native.Mathlib.Omega.{arith}
use lib.ListN.{length}
use Rattle.search_tidy.proofs.ArrayLaws.{array_cleared}
use Rattle.search_tidy.proofs.cleared.Goals as goal

pub returns : goal.returns
returns g c =
    let w : length c.args.xs ≡ g.row.N = omega arith in
    (c.clear_from.ensures ∙ array_cleared _ _ g.row.N w c.requires, w)
