-- The answers to the goals of `search_rows::among`.
use mathlib.Core.Path.{sym, ◌∙◌}
use Rattle.search_rows.proofs.Sets.{found, passed, none_left}
use Rattle.search_rows.proofs.among.Goals as goal

pub returns-then-same_row : goal.returns-then-same_row
returns-then-same_row c =
    λ s vs z k. sym (found _ _ _ s vs z k c.loop-j.j (c.loop-j.invariant s vs z k) c.loop-j-test.true (sym c.same_row.ensures ∙ c.if-same_row.true))

pub loop-j-preserved : goal.loop-j-preserved
loop-j-preserved c =
    λ s vs z k. passed _ _ _ s vs z k c.loop-j.j (c.loop-j.invariant s vs z k) c.loop-j-test.true (sym c.same_row.ensures ∙ c.if-same_row.false)

pub returns : goal.returns
returns c = λ s vs z k. sym (none_left _ _ _ s vs z k c.loop-j.j (c.loop-j.invariant s vs z k) c.loop-j-test.false)
