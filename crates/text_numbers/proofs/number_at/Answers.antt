-- `number_at`: where no digit up to max stands no number begins; else it is the longest one.
use native.Mathlib.Omega.{arith}
use Rattle.text_forms.proofs.Places.{none_end, none_at, none_above}
use Rattle.text_numbers.proofs.number_at.Goals as goal
use Rattle.text_numbers.proofs.number_at.Goals.{then-at-s-via-then-at-s, then-at-s-via-else-at-s+then-not-is_ascii_digit, then-at-s-via-else-at-s+else-not-is_ascii_digit+then-max-from}

pub returns-then-at-s : goal.returns-then-at-s
returns-then-at-s c = elim c.then-at-s.branch [
  | then-at-s-via-then-at-s w ↦ none_end _ _ _ (omega arith)
  | then-at-s-via-else-at-s+then-not-is_ascii_digit w ↦ none_at _ _ _ (omega arith) (λ g. omega (arith, w.if-not-is_ascii_digit.ensures.cases))
  | then-at-s-via-else-at-s+else-not-is_ascii_digit+then-max-from w ↦
      (let h = w.if-not-is_ascii_digit.ensures.cases in
      none_above _ _ _ (omega arith) (omega (arith, h)) (omega (arith, h)) (omega (arith, w.from.ensures)))
]
