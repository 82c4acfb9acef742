-- The answers to the goals of `text_numbers::decimal_at`.
use Rattle.std.proofs.Common.{◌≡◌, length}
use native.Mathlib.Omega.{arith}
use Rattle.text_forms.proofs.Places.{taking_first, taking_next, taking_stops, taking_ends}
use Rattle.text_numbers.proofs.decimal_at.Goals as goal
use Rattle.text_numbers.proofs.decimal_at.Goals.{then-v-eq0-via-then-v-eq0, then-v-eq0-via-else-v-eq0+then-not-is_ascii_digit}

pub loop-i-init : goal.loop-i-init
loop-i-init c = rw (c.from-v.ensures) (taking_first _ _ _ (omega arith) (omega arith) (omega arith) (omega arith))

pub returns-then-v-eq0 : goal.returns-then-v-eq0
returns-then-v-eq0 c = taking_stops _ _ _ _ _ c.loop-i.invariant (omega arith) (λ g. elim c.then-v-eq0.branch [
  | then-v-eq0-via-then-v-eq0 w ↦ omega (arith, g.positive)
  | then-v-eq0-via-else-v-eq0+then-not-is_ascii_digit w ↦ omega (arith, g.low, g.high, w.if-not-is_ascii_digit.ensures.cases)
])

pub returns-then-top-w : goal.returns-then-top-w
returns-then-top-w c = taking_stops _ _ _ _ _ c.loop-i.invariant (omega arith) (λ g. omega (arith, g.below))

pub loop-i-preserved : goal.loop-i-preserved
loop-i-preserved c =
    let h = c.if-not-is_ascii_digit.ensures.cases in
    rw (c.from.ensures)
    (taking_next _ _ _ _ _ c.loop-i.invariant (omega arith)
    (record { low = omega (arith, h); high = omega (arith, h); positive = omega arith; below = omega (arith, c.from.ensures, h) }))

pub returns : goal.returns
returns c = let e : c.loop-i.i ≡ length c.args.s.now = omega arith in rw (← e) (taking_ends _ _ _ _ _ c.loop-i.invariant (omega arith))
