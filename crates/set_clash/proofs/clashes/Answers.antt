-- `set_clash::clashes` meets its contract: each member's edges stand in the row, and it is tested as the definition does.
use Rattle.std.proofs.Common.{rules, ◌≡◌, ◌*◌, ℕ, not, ◌&&◌, nat_eq, ◌∙◌}
use Rattle.std.proofs.iter.Serving.{serving}
use Rattle.std.proofs.lemmas.Iterator.{YieldsList-from_slice}
use Rattle.std.proofs.lemmas.Iterator.Search.{any_from_yields_List}
use Rattle.std.specs.List.{list_any}
use borrow.Author.Tests.{tests}
use Rattle.ground_rects.specs.Rects.{intersects}
use Rattle.rule_layouts.specs.Flat.{rect_at}
use Rattle.set_clash.proofs.Looking.{edges_at, any_clashing}
use Rattle.set_clash.proofs.clashes.Goals as goal

pub any-requires-clause-callable : goal.any-requires-clause-callable
any-requires-clause-callable c = grind (serving, edges_at c.requires.named)

pub returns : goal.returns
returns c =
    let a = c.args in
    let e : c.any.result ≡ list_any (λ (x : ℕ). not (nat_eq a.i x) && intersects c.footprint-footprint.result (rect_at a.places.now.edges.now (8 * x))) a.set.now =
    any_from_yields_List _ _ _ _ c.any.ensures.ran (YieldsList-from_slice a.set.now cc) (λ x b q k. search (rules, tests)) in
    rw c.footprint-footprint.ensures at e ∙ any_clashing a.places.now.edges.now a.set.now a.i
