-- `search_rows::kept_points` meets its contract: the sum is the total.
use mathlib.Core.Path.{◌≡◌, refl, sym, ◌∙◌}
use Rattle.std.proofs.Common.{rules}
use Rattle.std.proofs.iter.runs.Made.{chains}
use Rattle.std.proofs.lemmas.List.Recursion.{is_sum_by}
use Rattle.std.specs.List.{sum}
use Rattle.base_laws.specs.Lists.{total}
use Rattle.search_rows.proofs.kept_points.Goals as goal

pub returns : goal.returns
unfolding total
returns c =
    let e : c.sum.result ≡ sum c.args.routes.now = search (rules, chains) in
    e ∙ sym (is_sum_by total (λ x. x) refl (λ x xs. refl) c.args.routes.now)
