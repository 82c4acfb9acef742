-- `walk`, piece by piece.
use native.Mathlib.Omega.{arith}
use Rattle.std.proofs.Common.{◌≡◌, rules, Err, sym, ◌∙◌}
use Rattle.text_lines.proofs.Storing.{storing_number, storing_full, wrong_passed, wrong_stored, storing_byte, other_passed, other_stored, short_passed, short_stored, done_passed, done_stored}
use Rattle.text_lines.proofs.walk.Goals as goal
use Rattle.text_lines.proofs.walk.Goals.{then-i-s-via-then-i-s, then-i-s-via-else-i-s+then-s-i, then-is_number+in_ok-number+then-k-out, then-is_number+in_ok-number+else-k-out}
use Rattle.text_lines.proofs.walk.Goals.{else-is_number+else-i-s+else-s-i}

pub returns-in_err-number-clause-passed : goal.returns-in_err-number-clause-passed
returns-in_err-number-clause-passed c =
    let e : c.from_residual.result ≡ Err c.in_err-number.field-0.0 = search rules in
    let f = c.in_err-number.ensures in
    rw (e) (wrong_passed _ _ _ _ _ _ _ _ c.loop-c.invariant c.loop-c-test.true (sym c.is_number.ensures ∙ c.if-is_number.true) _ f.right)

pub returns-in_err-number-clause-stored : goal.returns-in_err-number-clause-stored
returns-in_err-number-clause-stored c =
    let f = c.in_err-number.ensures in
    wrong_stored _ _ _ _ _ _ _ _ c.loop-c.invariant c.loop-c-test.true (sym c.is_number.ensures ∙ c.if-is_number.true) _ f.right

pub returns-then-i-s-clause-passed : goal.returns-then-i-s-clause-passed
returns-then-i-s-clause-passed c = elim c.then-i-s.branch [
  | then-i-s-via-then-i-s w ↦
      short_passed _ _ _ _ _ _ _ _ c.loop-c.invariant c.loop-c-test.true (sym c.is_number.ensures ∙ c.if-is_number.false) w.if-i-s.true (omega (arith, c.type_inv.pattern c.loop-c.c-index))
  | then-i-s-via-else-i-s+then-s-i w ↦
      other_passed _ _ _ _ _ _ _ _ c.loop-c.invariant c.loop-c-test.true (sym c.is_number.ensures ∙ c.if-is_number.false) (let h = c.loop-c.invariant.walk.inside in omega arith) w.if-s-i.true
]

pub returns-then-i-s-clause-stored : goal.returns-then-i-s-clause-stored
returns-then-i-s-clause-stored c = elim c.then-i-s.branch [
  | then-i-s-via-then-i-s w ↦
      short_stored _ _ _ _ _ _ _ _ c.loop-c.invariant c.loop-c-test.true (sym c.is_number.ensures ∙ c.if-is_number.false) w.if-i-s.true (omega (arith, c.type_inv.pattern c.loop-c.c-index))
  | then-i-s-via-else-i-s+then-s-i w ↦
      other_stored _ _ _ _ _ _ _ _ c.loop-c.invariant c.loop-c-test.true (sym c.is_number.ensures ∙ c.if-is_number.false) (let h = c.loop-c.invariant.walk.inside in omega arith) w.if-s-i.true
]

pub loop-c-preserved : goal.loop-c-preserved
loop-c-preserved c = elim c.if-is_number.branch [
  | then-is_number+in_ok-number+then-k-out w ↦
      (let h = w.in_ok-number.ensures in
      rw (w.out-is, w.i-is, w.k-is) (storing_number _ _ _ _ _ _ _ _ c.loop-c.invariant c.loop-c-test.true (sym c.is_number.ensures ∙ w.if-is_number.true) _ _ h.right w.if-k-out.true))
  | then-is_number+in_ok-number+else-k-out w ↦
      (let h = w.in_ok-number.ensures in
      rw (w.out-is, w.i-is, w.k-is) (storing_full _ _ _ _ _ _ _ _ c.loop-c.invariant c.loop-c-test.true (sym c.is_number.ensures ∙ w.if-is_number.true) _ _ h.right w.if-k-out.false))
  | else-is_number+else-i-s+else-s-i w ↦
      rw (w.out-is, w.i-is, w.k-is) (storing_byte _ _ _ _ _ _ _ _ c.loop-c.invariant c.loop-c-test.true (sym c.is_number.ensures ∙ w.if-is_number.false)
      (let h = c.loop-c.invariant.walk.inside in omega arith) w.if-s-i.false)
]

pub returns-clause-passed : goal.returns-clause-passed
returns-clause-passed c = done_passed _ _ _ _ _ _ _ _ c.loop-c.invariant c.loop-c-test.false

pub returns-clause-stored : goal.returns-clause-stored
returns-clause-stored c = done_stored _ _ _ _ _ _ _ _ c.loop-c.invariant c.loop-c-test.false
