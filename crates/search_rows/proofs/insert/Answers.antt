-- `search_rows::insert` meets its contract: from its place on each member goes one place on.
use Prim.Native.Nat.{◌+◌}
use mathlib.Core.Path.{refl, ap, ◌∙◌}
use mathlib.Core.List.{List}
use lib.ListN.{get_or, set}
use Rattle.search_rows.proofs.Sets.{row_put}
use Rattle.search_rows.proofs.insert.Goals as goal

pub returns : goal.returns
returns c =
    λ s r h.
    let held = c.args.set.now in
    let at = c.position-at.result in
    ap (λ (q : List _). set (set q (at + 1) c.args.v) 0 (get_or held 0 0 + 1)) c.copy_within.ensures.after
    ∙ row_put held c.args.v at (get_or held 0 0) refl c.position-at.ensures.first s r h
