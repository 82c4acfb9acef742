-- `integer_at`: without a minus sign it is a number; after one, a number that begins with no zero.
use native.Mathlib.Omega.{arith}
use Rattle.text_forms.proofs.Places.{plain_reads, plain_short, minus_reads, minus_wrong, minus_short, no_zero}
use Rattle.text_numbers.proofs.integer_at.Goals as goal
use Rattle.text_numbers.proofs.integer_at.Goals.{then-b-s-via-then-b-s, then-b-s-via-else-b-s+then-s-b-eq48, then-b-s-via-else-b-s+else-s-b-eq48+then-not-is_ascii_digit}

pub returns-then-at-s : goal.returns-then-at-s
returns-then-at-s c = plain_short _ _ (omega arith)

pub returns-then-s-at-ne45 : goal.returns-then-s-at-ne45
returns-then-s-at-ne45 c = plain_reads _ _ _ (omega arith) c.if-s-at-ne45.true c.number_at.ensures

pub returns-then-b-s : goal.returns-then-b-s
returns-then-b-s c = elim c.then-b-s.branch [
  | then-b-s-via-then-b-s w ↦ minus_short _ _ (omega arith) (omega arith) c.if-s-at-ne45.false
  | then-b-s-via-else-b-s+then-s-b-eq48 w ↦ minus_wrong _ _ (omega arith) c.if-s-at-ne45.false (λ g. omega arith)
  | then-b-s-via-else-b-s+else-s-b-eq48+then-not-is_ascii_digit w ↦
      minus_wrong _ _ (omega arith) c.if-s-at-ne45.false (λ g. omega (arith, w.if-not-is_ascii_digit.ensures.cases))
]

pub overflow_sub-result : goal.overflow_sub-result
overflow_sub-result c = let h = no_zero _ _ _ _ _ (omega arith) (let h = c.if-not-is_ascii_digit.ensures.cases in omega (arith, h)) c.decimal_at-r.ensures in omega (arith, h)

pub returns : goal.returns
returns c = minus_reads _ _ _ _ (omega arith) c.if-s-at-ne45.false
    (no_zero _ _ _ _ _ (omega arith) (let h = c.if-not-is_ascii_digit.ensures.cases in omega (arith, h)) c.decimal_at-r.ensures) c.decimal_at-r.ensures
