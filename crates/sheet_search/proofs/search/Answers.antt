-- `search`: begin, then its refusal or the step.
use native.Mathlib.Omega.{arith}
use mathlib.Core.Path.{◌≡◌}
use borrow.Author.Rules.{rules}
use Rattle.std.specs.Prelude.{Ok, Err}
use Rattle.base_model.specs.Answers.{reply_of}
use Rattle.rule_calls.specs.Calls.{record_or}
use Rattle.set_places.specs.Given.{inputs_in}
use Rattle.call_lengths.specs.Lent.{work_of}
use Rattle.sheet_rule.specs.Drive.{no_store}
use Rattle.sheet_search.proofs.Searching.{search_refused, search_steppable, search_finished}
use Rattle.sheet_search.proofs.search.Goals as goal

pub write_refusal-requires : goal.write_refusal-requires
write_refusal-requires c = omega (arith, c.requires)

pub returns-in-Err-clause-text : goal.returns-in-Err-clause-text
unfolding no_store reply_of record_or
returns-in-Err-clause-text c =
    let a = c.args in
    let is : c.begin-begun.result ≡ Err c.in-Err.refusal = search rules in
    search_refused a.steps.now (inputs_in a.given.now) a.limits (work_of a.work.now) no_store _ _ _ _ _ _ c.in-Err.refusal
    (rw is at c.begin-begun.ensures.call) c.requires c.write_refusal.ensures

pub returns-in-Ok-clause-text : goal.returns-in-Ok-clause-text
unfolding no_store reply_of record_or
returns-in-Ok-clause-text c =
    let a = c.args in
    let is : c.begin-begun.result ≡ Ok c.in-Ok.rec = search rules in
    search_finished a.steps.now (inputs_in a.given.now) a.limits (work_of a.work.now) no_store _ _ _ (rw is at c.begin-begun.ensures.call)
    _ _ _ c.finish.ensures.text

pub finish-requires : goal.finish-requires
unfolding no_store reply_of record_or
finish-requires c =
    let a = c.args in
    let is : c.begin-begun.result ≡ Ok c.in-Ok.rec = search rules in
    search_steppable a.steps.now (inputs_in a.given.now) a.limits (work_of a.work.now) no_store _ _ _ (rw is at c.begin-begun.ensures.call) _
    (omega arith) c.requires
