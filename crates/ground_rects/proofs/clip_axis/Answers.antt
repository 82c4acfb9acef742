-- `ground_rects::clip_axis` meets its contract: an edge held between `from` and `to` lies on the same side of each number between them.
use mathlib.Core.Path.{◌≡◌, ◌∙◌, ap₂}
use mathlib.Core.Bool.{◌&&◌}
use Prim.Native.Nat.{ℕ}
use lib.Dec.{leb, ltb}
use native.Mathlib.Omega.{arith}
use lib.IntN.{ℤ, pos, ◌+ℤ◌, ◌-ℤ◌}
use lib.Signed.{◌<ℤ◌, le_z, lt_z}
use Rattle.std.specs.Int.{int_max, int_min}
use Rattle.std.proofs.lemmas.Int.{ints, clamps}
use Rattle.std.proofs.lemmas.Bool.Decides.{nat_tests}
use Rattle.ground_rects.specs.Spans.{off_axis, ClippedAxis}
use Rattle.ground_rects.proofs.clip_axis.Goals as goal

clipped : (low high : ℤ) (back ahead : ℕ) (from to : ℤ) (l h : ℕ) → from <ℤ to → from +ℤ pos l ≡ int_max from (int_min (low -ℤ pos back) to)
    → from +ℤ pos h ≡ int_max from (int_min (high +ℤ pos ahead) to) → ClippedAxis low high back ahead from to l h
unfolding off_axis
clipped low high back ahead from to l h s p q = record {
  within = omega (arith, ints, clamps);
  law = λ x k.
      let e : leb l x ≡ le_z (low -ℤ pos back) (from +ℤ pos x) = grind (arith, ints, clamps, nat_tests) in
      let f : ltb x h ≡ lt_z (from +ℤ pos x) (high +ℤ pos ahead) = grind (arith, ints, clamps, nat_tests) in
      ap₂ ◌&&◌ e f;
}

pub returns : goal.returns
returns c =
    let a = c.args in
    let l : c.clamp-l.result ≡ int_max a.from (int_min (a.low -ℤ pos a.back) a.to) = omega (arith, ints, clamps, c.clamp-l.ensures.value) in
    let h : c.clamp-h.result ≡ int_max a.from (int_min (a.high +ℤ pos a.ahead) a.to) = omega (arith, ints, clamps, c.clamp-h.ensures.value) in
    clipped a.low a.high a.back a.ahead a.from a.to _ _ c.requires (omega (arith, ints) ∙ l) (omega (arith, ints) ∙ h)
