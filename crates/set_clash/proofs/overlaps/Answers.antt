-- `set_clash::overlaps` meets its contract: each member's edges stand in the row, and it is tested as the definition does.
use Rattle.std.proofs.Common.{rules, ◌≡◌, ◌∙◌}
use Rattle.std.proofs.iter.Serving.{serving}
use Rattle.std.proofs.lemmas.Iterator.{YieldsList-from_slice}
use Rattle.std.proofs.lemmas.Iterator.Search.{any_from_yields_List}
use Rattle.std.specs.List.{list_any}
use borrow.Author.Tests.{tests}
use Rattle.set_places.proofs.Members.{any_is}
use Rattle.set_clash.specs.Clashes.{clashing}
use Rattle.set_clash.proofs.Looking.{edges_at}
use Rattle.set_clash.proofs.overlaps.Goals as goal

pub any-requires-clause-callable : goal.any-requires-clause-callable
any-requires-clause-callable c = grind (serving, edges_at c.requires)

pub returns : goal.returns
returns c =
    let a = c.args in
    let e : c.any.result ≡ list_any (clashing a.places.now.edges.now a.set.now) a.set.now =
    any_from_yields_List _ _ _ _ c.any.ensures.ran (YieldsList-from_slice a.set.now cc) (λ x b q k. search (rules, tests)) in
    e ∙ any_is (clashing a.places.now.edges.now a.set.now) a.set.now
