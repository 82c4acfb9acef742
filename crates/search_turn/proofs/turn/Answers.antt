-- `search_turn::turn` meets its contract: each exit is a move of the definition.
use mathlib.Core.Path.{sym, ◌∙◌}
use native.Mathlib.Omega.{arith}
use Rattle.search_turn.proofs.Sights.{few_lists}
use Rattle.search_turn.proofs.Turns.{x_limit, x_over, x_seen, x_new, x_take, x_pop, top_fits}
use Rattle.search_turn.proofs.turn.Goals as goal

pub returns-then-limits-rec : goal.returns-then-limits-rec
returns-then-limits-rec c = λ g p l₀ v₀ s fit h. x_limit g p _ _ fit l₀ v₀ _ _ _ s h c.if-rec-ne-RUNNING.false c.if-limits-rec.true

pub returns-then-seen : goal.returns-then-seen
returns-then-seen c =
    λ g p l₀ v₀ s fit h.
    x_seen g p _ _ fit l₀ v₀ _ _ _ c.if-rec-ne-RUNNING.false c.if-limits-rec.false s h c.if-rec.true
    (sym (c.seen.ensures g p l₀ v₀ s fit h) ∙ c.if-seen.true)

pub returns-then-rec : goal.returns-then-rec
returns-then-rec c =
    λ g p l₀ v₀ s fit h.
    x_new g p _ _ fit l₀ v₀ _ _ _ c.if-rec-ne-RUNNING.false c.if-limits-rec.false s h c.if-rec.true
    (sym (c.seen.ensures g p l₀ v₀ s fit h) ∙ c.if-seen.false)

pub returns-then-rec-eq0 : goal.returns-then-rec-eq0
returns-then-rec-eq0 c =
    λ g p l₀ v₀ s fit h.
    x_over g p _ _ fit l₀ v₀ _ _ _ c.if-rec-ne-RUNNING.false c.if-limits-rec.false s h c.if-rec.false c.if-rec-eq0.true

pub bounds-rec-top : goal.bounds-rec-top
bounds-rec-top c = let d = few_lists _ _ _ _ _ c.requires in omega arith

pub bounds-rec-top-2 : goal.bounds-rec-top-2
bounds-rec-top-2 c = let d = few_lists _ _ _ _ _ c.requires in omega arith

pub take_next-requires : goal.take_next-requires
take_next-requires c =
    let x = c.requires in
    let t = top_fits x.g x.p _ _ x.fitting x.l₀ x.v₀ _ _ _ c.if-rec-ne-RUNNING.false c.if-limits-rec.false c.if-rec.false c.if-rec-eq0.false x.s x.part in
    (t.0, t.1, omega arith)

pub returns-then-rec-top : goal.returns-then-rec-top
returns-then-rec-top c =
    λ g p l₀ v₀ s fit h.
    x_take g p _ _ fit l₀ v₀ _ _ _ c.if-rec-ne-RUNNING.false c.if-limits-rec.false c.if-rec.false c.if-rec-eq0.false s h c.if-rec-top.true
    _ _ c.take_next.ensures (λ t run q. c.look.ensures p _ t fit.states_are fit.results_are run q)

pub pop-requires : goal.pop-requires
pop-requires c =
    let x = c.requires in
    let t = top_fits x.g x.p _ _ x.fitting x.l₀ x.v₀ _ _ _ c.if-rec-ne-RUNNING.false c.if-limits-rec.false c.if-rec.false c.if-rec-eq0.false x.s x.part in
    (t.0, t.1, t.3, t.4)

pub returns : goal.returns
returns c =
    λ g p l₀ v₀ s fit h.
    x_pop g p _ _ fit l₀ v₀ _ _ _ c.if-rec-ne-RUNNING.false c.if-limits-rec.false c.if-rec.false c.if-rec-eq0.false s h c.if-rec-top.false
    _ _ c.pop.ensures
