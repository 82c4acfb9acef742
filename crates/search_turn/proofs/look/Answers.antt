-- `search_turn::look` meets its contract: each exit is one of the looks.
use mathlib.Core.Path.{sym, ◌∙◌}
use mathlib.Core.Bool.{true≢false}
use borrow.Author.Tests.{not-true, not-false}
use Rattle.search_turn.proofs.Looks.{look_results, look_none, look_states, look_on}
use Rattle.search_turn.proofs.look.Goals.{else-not-rec-via-then-not-rec+else-rec-eq0, else-not-rec-via-else-not-rec}
use Rattle.search_turn.proofs.look.Goals as goal

pub returns-then-limits-rec : goal.returns-then-limits-rec
returns-then-limits-rec c = λ p n s es er run e. look_results _ _ p n s es er run e c.if-limits-rec.true

pub returns-then-rec-eq0 : goal.returns-then-rec-eq0
returns-then-rec-eq0 c = λ p n s es er run e. look_none _ _ p n s es er run e c.if-limits-rec.false (not-true c.args.rec.pending c.if-not-rec.true) c.if-rec-eq0.true

pub returns-then-limits-rec-2 : goal.returns-then-limits-rec-2
returns-then-limits-rec-2 c =
    λ p n s es er run e.
    look_states _ _ p n s es er run e c.if-limits-rec.false
    (λ b k. elim c.else-not-rec.branch [
      | else-not-rec-via-then-not-rec+else-rec-eq0 w ↦ w.if-rec-eq0.false k
      | else-not-rec-via-else-not-rec w ↦ true≢false (sym (not-false c.args.rec.pending w.if-not-rec.false) ∙ b)
    ])
    c.if-limits-rec-2.true

pub returns : goal.returns
returns c =
    λ p n s es er run e.
    look_on _ _ p n s es er run e c.if-limits-rec.false
    (λ b k. elim c.else-not-rec.branch [
      | else-not-rec-via-then-not-rec+else-rec-eq0 w ↦ w.if-rec-eq0.false k
      | else-not-rec-via-else-not-rec w ↦ true≢false (sym (not-false c.args.rec.pending w.if-not-rec.false) ∙ b)
    ])
    c.if-limits-rec-2.false
