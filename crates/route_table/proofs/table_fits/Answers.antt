-- `route_table::table_fits` meets its contract: what `all` answers of the pairs of the original order is what the definition asks of the eight steps.
use mathlib.Core.Path.{sym, ap, ◌∙◌, ◌≡◌}
use mathlib.Core.Bool.{true, false}
use borrow.Author.Tests.{ne_eqb}
use Prim.Native.Nat.{◌/◌}
use lib.IntN.{ℤ}
use lib.ListN.{length}
use mathlib.Core.List.{List, []}
use Rattle.std.specs.List.{list_all}
use Rattle.std.specs.Simd.{first_chunks}
use Rattle.std.proofs.Common.{rules, tests}
use Rattle.std.proofs.lemmas.Iterator.{cases_from_all, YieldsList-from_slice}
use Rattle.route_table.proofs.Counting.{once, all_is, fits_long, fits_once}
use Rattle.route_table.proofs.table_fits.Goals as goal

pub returns-then-steps-eq-TABLE_LENGTH : goal.returns-then-steps-eq-TABLE_LENGTH
unfolding once
returns-then-steps-eq-TABLE_LENGTH c =
    all_is (once c.args.steps.now) [] _ _
    (cases_from_all _ _ _ (λ x. once c.args.steps.now x ≡ true) (λ x. once c.args.steps.now x ≡ false) c.all.ensures.ran
    (YieldsList-from_slice c.as_chunks.result.0.now cc) (λ x q k. search (rules, tests)) (λ x q k. search (rules, tests)))
    ∙ ap (list_all (once c.args.steps.now)) (c.as_chunks.ensures.front ∙ ap (λ (l : List ℤ). first_chunks 2 (length l / 2) l) c.original_steps-order.ensures)
    ∙ sym (fits_once c.args.steps.now c.if-steps-eq-TABLE_LENGTH.true)

pub returns-else-steps-eq-TABLE_LENGTH : goal.returns-else-steps-eq-TABLE_LENGTH
returns-else-steps-eq-TABLE_LENGTH c = ne_eqb _ 16 c.if-steps-eq-TABLE_LENGTH.false ∙ sym (fits_long _ c.if-steps-eq-TABLE_LENGTH.false)
