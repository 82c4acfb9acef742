-- `walls_given::allow_from` meets its contract, in both cases.
use mathlib.Core.Path.{◌≡◌, refl, sym, ap}
use Prim.Native.Nat.{ℕ, zero, suc}
use Rattle.std.specs.Prelude.{Some}
use Rattle.walls_numbers.specs.Numbers.{allow_from}
use Rattle.walls_given.proofs.allow_from.Goals as goal

bounded : (given left top right bottom : ℕ) → (given ≡ 0 → ⊥) → Some (record { left = left; top = top; right = right; bottom = bottom }) ≡ allow_from given left top right bottom
unfolding allow_from
bounded zero left top right bottom h = absurd (h refl)
bounded (suc n) left top right bottom h = refl

pub returns-then-given-eq0 : goal.returns-then-given-eq0
unfolding allow_from
returns-then-given-eq0 c = let a = c.args in sym (ap (λ (g : ℕ). allow_from g a.left a.top a.right a.bottom) c.if-given-eq0.true)

pub returns : goal.returns
returns c = bounded _ _ _ _ _ c.if-given-eq0.false
