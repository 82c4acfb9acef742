-- `call_lists::entries_join` meets its contract: each entry is tested as the definition does.
use Rattle.std.proofs.Common.{rules, ◌≡◌, ◌/◌, ℕ, ◌&&◌, nat_lt, length, ◌∙◌}
use Rattle.std.proofs.lemmas.Iterator.{YieldsList-from_slice}
use Rattle.std.proofs.lemmas.Iterator.Search.{all_from_yields_List}
use borrow.Author.Tests.{tests}
use Rattle.std.specs.List.{list_all}
use Rattle.rule_layouts.specs.Boards.{may_join}
use Rattle.set_places.specs.Given.{places_at}
use Rattle.call_lists.proofs.Joins.{all_entries}
use Rattle.call_lists.proofs.entries_join.Goals as goal

pub returns : goal.returns
returns c =
    let a = c.args in
    let m = length a.places.now.numbers.now / 4 in
    let e : c.all.result ≡ list_all (λ (x : ℕ). nat_lt x a.n && may_join (places_at m a.places.now) a.members.now x) a.entries.now =
    all_from_yields_List _ _ _ _ c.all.ensures.ran (YieldsList-from_slice a.entries.now cc) (λ x b q k. search (rules, tests)) in
    e ∙ all_entries m a.n a.places.now.groups.now a.places.now.numbers.now a.places.now.edges.now a.members.now a.entries.now
