-- The answers to the goals of `text_read::rows_at`.
use native.Mathlib.Omega.{arith}
use Rattle.text_forms.proofs.Runs.{repeats_good}
use Rattle.text_read.proofs.Runs.{going_start, going_on, going_inside, going_more}
use Rattle.text_read.proofs.rows_at.Goals as goal

pub loop-fault-init : goal.loop-fault-init
loop-fault-init c = going_start _ _ _ _ (omega arith)

pub line_end-requires-clause-pattern_value : goal.line_end-requires-clause-pattern_value
line_end-requires-clause-pattern_value c = repeats_good _ c.requires.pattern_value

pub store-requires-clause-pattern_value : goal.store-requires-clause-pattern_value
store-requires-clause-pattern_value c = repeats_good _ c.requires.pattern_value

pub loop-fault-smaller : goal.loop-fault-smaller
loop-fault-smaller c =
    omega (
      arith,
      going_on _ _ _ _ _ _ _ _ c.loop-fault.invariant _ c.width-w.ensures c.requires.pattern_value _ c.in-Ok.ensures,
      going_inside _ _ _ _ _ _ _ _ c.loop-fault.invariant _ c.width-w.ensures c.requires.pattern_value _ c.in-Ok.ensures,
    )

pub loop-fault-preserved : goal.loop-fault-preserved
loop-fault-preserved c =
    going_more _ _ _ _ _ _ _ _ c.loop-fault.invariant _ c.width-w.ensures c.requires.pattern_value _ c.in-Ok.ensures (omega arith) _ c.store.ensures
