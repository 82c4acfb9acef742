-- `ground_spans::row_allows` meets its contract: what the iterator finds is what the definition says.
use mathlib.Core.Path.{◌∙◌}
use borrow.Author.Tests.{tests}
use Rattle.std.proofs.Common.{rules}
use Rattle.std.proofs.lemmas.Iterator.{YieldsList-from_slice}
use Rattle.std.proofs.lemmas.Iterator.Search.{all_from_yields_List}
use Rattle.ground_spans.specs.Changes.{allows}
use Rattle.ground_spans.proofs.Bytes.{all_allowed}
use Rattle.ground_spans.proofs.row_allows.Goals as goal

pub returns : goal.returns
returns c =
    let a = c.args in
    all_from_yields_List (allows a.change) _ _ c.all.result c.all.ensures.ran (YieldsList-from_slice a.row.now cc) (λ x b q k. search (rules, tests))
    ∙ all_allowed a.change a.row.now
