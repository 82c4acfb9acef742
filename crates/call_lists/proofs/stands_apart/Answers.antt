-- `call_lists::stands_apart` meets its contract: each member's edges stand in the row.
use Rattle.std.proofs.Common.{rules, ◌≡◌, ◌*◌, ℕ, not, ◌&&◌, nat_eq, ◌∙◌}
use Rattle.std.proofs.iter.Serving.{serving}
use Rattle.std.proofs.lemmas.Iterator.{YieldsList-from_slice}
use Rattle.std.proofs.lemmas.Iterator.Search.{all_from_yields_List}
use borrow.Author.Tests.{tests}
use Rattle.std.specs.List.{list_all}
use Rattle.ground_rects.specs.Rects.{intersects}
use Rattle.rule_layouts.specs.Flat.{rect_at}
use Rattle.call_lists.proofs.Joins.{edges_at, all_apart}
use Rattle.call_lists.proofs.stands_apart.Goals as goal

pub all-requires-clause-callable : goal.all-requires-clause-callable
all-requires-clause-callable c = grind (serving, edges_at c.requires)

pub returns : goal.returns
returns c =
    let a = c.args in
    let e : c.all.result ≡ list_all (λ (x : ℕ). not (nat_eq a.e x) && not (intersects c.footprint-own.result (rect_at a.places.now.edges.now (8 * x)))) a.members.now =
    all_from_yields_List _ _ _ _ c.all.ensures.ran (YieldsList-from_slice a.members.now cc) (λ x b q k. search (rules, tests)) in
    rw c.footprint-own.ensures at e ∙ all_apart a.places.now.edges.now a.members.now a.e
