-- `call_checks::place_count` meets its contract: a part left over in either row is one more placement.
use mathlib.Core.Path.{◌≡◌, sym, ap, ap₂, ◌∙◌}
use mathlib.Core.List.{List}
use lib.IntN.{ℤ}
use lib.ListN.{length}
use Prim.Native.Nat.{ℕ, ◌+◌, ◌*◌, ◌/◌, min}
use Rattle.rule_layouts.specs.Flat.{wholes}
use Rattle.call_checks.proofs.Placed.{numbers_over, edges_over, none_over}
use Rattle.call_checks.proofs.place_count.Goals as goal
use Rattle.call_checks.proofs.place_count.Goals.{else-numbers-whole-via-then-numbers-whole+else-edges-whole, else-numbers-whole-via-else-numbers-whole}

pub returns-then-edges-whole : goal.returns-then-edges-whole
unfolding wholes
returns-then-edges-whole c = λ ns es e f.
    let n = c.whole_places-whole.result in
    let q : wholes ns es ≡ n = ap₂ (λ (x y : ℕ). min (x / 4) (y / 8)) e f ∙ sym c.whole_places-whole.ensures in
    sym (none_over ns es (e ∙ c.if-numbers-whole.true ∙ ap (λ (x : ℕ). 4 * x) (sym q)) (f ∙ c.if-edges-whole.true ∙ ap (λ (x : ℕ). 8 * x) (sym q)) ∙ q)

pub returns-else-numbers-whole : goal.returns-else-numbers-whole
unfolding wholes
returns-else-numbers-whole c = λ ns es e f.
    let n = c.whole_places-whole.result in
    let q : wholes ns es ≡ n = ap₂ (λ (x y : ℕ). min (x / 4) (y / 8)) e f ∙ sym c.whole_places-whole.ensures in
    ap (λ (x : ℕ). x + 1) (sym q) ∙ sym (elim c.else-numbers-whole.branch [
      | else-numbers-whole-via-then-numbers-whole+else-edges-whole w ↦
          edges_over ns es (λ d. w.if-edges-whole.false (sym f ∙ d ∙ ap (λ (x : ℕ). 8 * x) q))
      | else-numbers-whole-via-else-numbers-whole w ↦ numbers_over ns es (λ d. w.if-numbers-whole.false (sym e ∙ d ∙ ap (λ (x : ℕ). 4 * x) q))
    ])
