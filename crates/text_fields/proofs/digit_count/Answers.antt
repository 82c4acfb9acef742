-- The answers to the goals of `text_fields::digit_count`.
use native.Mathlib.Nat.{div-lt_self}
use native.Mathlib.Omega.{arith}
use Rattle.text_forms.proofs.Puts.{counted_start, counted_more, counted_done}
use Rattle.text_fields.proofs.digit_count.Goals as goal

pub loop-v-init : goal.loop-v-init
loop-v-init c = counted_start _

pub loop-v-smaller : goal.loop-v-smaller
loop-v-smaller c = div-lt_self (omega arith) (omega arith)

pub loop-v-preserved : goal.loop-v-preserved
loop-v-preserved c = counted_more _ _ _ (omega arith) c.loop-v.invariant

pub returns : goal.returns
returns c = counted_done _ _ _ (omega arith) c.loop-v.invariant
