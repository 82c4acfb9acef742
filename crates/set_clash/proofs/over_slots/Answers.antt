-- `set_clash::over_slots` meets its contract: each member is of a group that there is, and is tested as the definition does.
use Rattle.std.proofs.Common.{rules, ◌≡◌, ℕ, ◌∙◌}
use Rattle.std.proofs.iter.Serving.{serving}
use Rattle.std.proofs.lemmas.Iterator.{YieldsList-from_slice}
use Rattle.std.proofs.lemmas.Iterator.Search.{any_from_yields_List}
use Rattle.std.specs.List.{list_any}
use Rattle.std.specs.Ordering.{is_gt}
use borrow.Author.Tests.{tests}
use Rattle.set_places.specs.Groups.{taken}
use Rattle.set_clash.proofs.Looking.{in_group_at, any_crowded}
use Rattle.set_clash.proofs.over_slots.Goals as goal

pub any-requires-clause-callable : goal.any-requires-clause-callable
any-requires-clause-callable c = grind (serving, in_group_at c.requires)

pub returns : goal.returns
returns c = λ n.
    let a = c.args in
    let p = a.places.now in
    let e : c.any.result ≡ list_any (λ (x : ℕ). is_gt (taken p.groups.now p.numbers.now a.set.now x)) a.set.now =
    any_from_yields_List _ _ _ _ c.any.ensures.ran (YieldsList-from_slice a.set.now cc) (λ x b q k. search (rules, tests)) in
    e ∙ any_crowded n p.groups.now p.numbers.now p.edges.now a.set.now a.set.now
