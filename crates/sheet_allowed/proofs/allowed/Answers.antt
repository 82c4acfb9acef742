-- `allowed`: prepare, then its refusal or the search.
use native.Mathlib.Omega.{arith}
use mathlib.Core.Path.{sym, ap, ◌∙◌}
use Rattle.base_model.specs.Answers.{reply_of}
use Rattle.rule_calls.specs.Calls.{prepare_call}
use Rattle.call_lengths.specs.Lent.{work_of}
use Rattle.sheet_rule.specs.Drive.{no_bytes}
use Rattle.sheet_allowed.proofs.Allowing.{allowed_refused, allowed_searched}
use Rattle.sheet_allowed.proofs.allowed.Goals as goal

pub write_refusal-requires : goal.write_refusal-requires
write_refusal-requires c = omega (arith, c.requires)

pub returns-in-Err-clause-text : goal.returns-in-Err-clause-text
unfolding no_bytes reply_of
returns-in-Err-clause-text c =
    λ s m ms h e.
    allowed_refused _ s c.args.sheet.now h m ms c.args.mover e c.args.block_base.now (work_of c.args.work.now) _ _ _ _ _ c.in-Err.refusal
    (ap (λ q. prepare_call c.args.steps.now q no_bytes (work_of c.args.work.now)) (sym c.preparing.ensures) ∙ c.in-Err.ensures.call) c.requires c.write_refusal.ensures

pub search-requires : goal.search-requires
search-requires c = c.requires

pub returns-clause-text : goal.returns-clause-text
unfolding no_bytes reply_of
returns-clause-text c =
    λ s m ms h e.
    allowed_searched _ s c.args.sheet.now h m ms c.args.mover e c.args.block_base.now (work_of c.args.work.now) _ _ _ _ _
    (ap (λ q. prepare_call c.args.steps.now q no_bytes (work_of c.args.work.now)) (sym c.preparing.ensures) ∙ c.in_default.ensures.call) c.search.ensures.text
