-- `call_read::part_of` meets its contract: the part from twice the points before the layout's, twice as many as it has.
use mathlib.Core.Path.{◌≡◌, ◌∙◌, ap}
use Prim.Native.Nat.{ℕ, ◌+◌, ◌-◌, ◌*◌}
use native.Mathlib.Omega.{arith}
use lib.ListN.{take, drop, get_or}
use Rattle.rule_calls.specs.Areas.{points_of}
use Rattle.call_read.proofs.part_of.Goals as goal

pub returns : goal.returns
unfolding points_of
returns c =
    let a = c.args in
    let n : ℕ = get_or a.rec.routes a.k 0 in
    let from : ℕ = 2 * c.kept_points-from.result in
    let d : from + 2 * n - from ≡ 2 * n = omega arith in
    ap (λ (x : ℕ). take x (drop from a.points.now)) d ∙ ap (λ (y : ℕ). take (2 * n) (drop (2 * y) a.points.now)) c.kept_points-from.ensures
