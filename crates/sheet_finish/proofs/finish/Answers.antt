-- `finish`: the step, then its refusal or its result.
use native.Mathlib.Omega.{arith}
use mathlib.Core.Path.{sym, ap, subst}
use Rattle.base_model.specs.Answers.{reply_of}
use Rattle.rule_calls.specs.Areas.{Store}
use Rattle.rule_calls.specs.Calls.{record_or}
use Rattle.set_places.specs.Given.{inputs_in}
use Rattle.call_lengths.specs.Lent.{work_of, store_of_areas}
use Rattle.sheet_texts.specs.Parts.{Writable}
use Rattle.sheet_finish.proofs.Finishing.{finish_refused, finish_writable, finish_written}
use Rattle.sheet_finish.proofs.finish.Goals as goal

pub write_refusal-requires : goal.write_refusal-requires
write_refusal-requires c = omega (arith, c.requires.room)

pub returns-in-Err-clause-text : goal.returns-in-Err-clause-text
unfolding reply_of record_or
returns-in-Err-clause-text c =
    let a = c.args in
    finish_refused a.steps.now (inputs_in a.given.now) a.limits a.rec (work_of a.work.now) (store_of_areas a.store.now) _ _ _ _ _ _
    c.in-Err.refusal c.in-Err.ensures.call c.requires.room c.write_refusal.ensures

pub write_left-requires : goal.write_left-requires
unfolding reply_of record_or
write_left-requires c =
    let a = c.args in record {
      writable = subst (λ (s : Store). Writable c.in-Ok.end.layouts c.in-Ok.end.routes s.layouts s.points) (sym c.kept-kept.ensures)
          (finish_writable a.steps.now (inputs_in a.given.now) a.limits a.rec (work_of a.work.now) (store_of_areas a.store.now) _ _ _ a.out.now a.out.now 0
          c.in-Ok.ensures.call c.requires);
      enough_in_bounds = c.requires.room;
    }

pub returns-in-Ok-clause-text : goal.returns-in-Ok-clause-text
unfolding reply_of record_or
returns-in-Ok-clause-text c =
    let a = c.args in
    let s = store_of_areas c.step.new.store in
    finish_written a.steps.now (inputs_in a.given.now) a.limits a.rec (work_of a.work.now) (store_of_areas a.store.now) _ _ _ _ _ _ c.in-Ok.ensures.call
    (c.write_left.ensures s (ap (λ (x : Store). x.layouts) (sym c.kept-kept.ensures)) (ap (λ (x : Store). x.points) (sym c.kept-kept.ensures)))
