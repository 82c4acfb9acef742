-- `few_centres`: an empty window has few; else the product of two sides counts.
use mathlib.Core.Path.{◌≡◌, sym, ap₂, ap, ◌∙◌}
use mathlib.Core.Bool.{true, false}
use Prim.Native.Nat.{ℕ, ◌*◌}
use lib.Dec.{leb}
use Rattle.ground_rects.specs.Rects.{nonempty}
use Rattle.ground_rects.specs.Windows.{centres}
use Rattle.sheet_words.specs.Caps.{few_centres}
use Rattle.sheet_words.proofs.few_centres.Goals as goal

pub returns-then-not-nonempty : goal.returns-then-not-nonempty
unfolding few_centres
returns-then-not-nonempty c =
    let n : nonempty c.args.w ≡ false = sym c.nonempty.ensures ∙ c.if-not-nonempty.true in
    let r = c.if-not-nonempty.true in
    rw (few_centres, n, r)

pub returns-else-not-nonempty : goal.returns-else-not-nonempty
unfolding few_centres centres
returns-else-not-nonempty c =
    let n : nonempty c.args.w ≡ true = sym c.nonempty.ensures ∙ c.if-not-nonempty.false in
    rw (few_centres, n) (ap (λ (k : ℕ). leb k 256) (ap₂ ◌*◌ c.width.ensures.0 c.height.ensures.0))
