-- `search_turn::seen` meets its contract: the set on the lists is looked for among the visited rows.
use mathlib.Core.Path.{refl}
use mathlib.Core.List.{reverse}
use Rattle.search_turn.proofs.Sights.{part_stood, part_seek, visited_inside, some_stood, few_lists}
use Rattle.search_turn.proofs.seen.Goals as goal

pub shared_ref_as_front-set_on : goal.shared_ref_as_front-set_on
shared_ref_as_front-set_on c = few_lists _ _ _ _ _ c.requires.some_part

pub set_on-set-requires : goal.set_on-set-requires
set_on-set-requires c = some_stood _ _ _ _ _ c.requires.some_part c.requires.pending_value

pub among-requires : goal.among-requires
among-requires c =
    let x = c.requires.some_part in
    visited_inside x.g x.p _ _ x.fitting x.l₀ x.v₀ x.s _ _ _ x.part _ refl

pub returns : goal.returns
returns c =
    λ g p l₀ v₀ s fit h.
    c.among.ensures _ s.visited _
    (part_seek g p _ _ fit l₀ v₀ s _ _ _ h _ refl c.set_on-set.result
    (c.set_on-set.ensures (reverse s.lists) _ (part_stood g p _ _ fit l₀ v₀ s _ _ _ h c.requires.pending_value)))
