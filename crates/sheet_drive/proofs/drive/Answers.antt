-- `drive`: prepare, then its refusal or the search.
use native.Mathlib.Omega.{arith}
use mathlib.Core.Path.{◌≡◌, sym, ap, ◌∙◌}
use borrow.Author.Rules.{rules}
use Rattle.std.specs.Prelude.{None, Some}
use Rattle.base_model.specs.Answers.{reply_of}
use Rattle.rule_calls.specs.Calls.{prepare_call}
use Rattle.sheet_rule.specs.Drive.{no_bytes, no_work}
use Rattle.sheet_drive.proofs.Driving.{drive_refused, drive_nobody, drive_allowed}
use Rattle.sheet_drive.proofs.drive.Goals as goal

pub write_refusal-requires : goal.write_refusal-requires
write_refusal-requires c = omega (arith, c.requires)

pub returns-in-Err : goal.returns-in-Err
unfolding no_bytes no_work reply_of
returns-in-Err c =
    λ s h. drive_refused _ s c.args.sheet.now h _ _ _ _ _ c.in-Err.refusal
    (ap (λ q. prepare_call c.args.steps.now q no_bytes no_work) (sym c.preparing.ensures) ∙ c.in-Err.ensures.call) c.requires c.write_refusal.ensures

pub allowed-requires : goal.allowed-requires
allowed-requires c = c.requires

pub returns-in-Some : goal.returns-in-Some
unfolding no_bytes no_work reply_of
returns-in-Some c =
    let is : c.args.sheet.now.query.allow ≡ Some c.in-Some.mover = search rules in
    λ s h. drive_allowed _ s c.args.sheet.now h _ _ _ _ _
    (ap (λ q. prepare_call c.args.steps.now q no_bytes no_work) (sym c.preparing.ensures) ∙ c.in_default.ensures.call)
    c.in-Some.mover is (λ m ms e. c.allowed.ensures.text s m ms h e)

pub search-requires : goal.search-requires
search-requires c = c.requires

pub returns : goal.returns
unfolding no_bytes no_work reply_of
returns c =
    let is : c.args.sheet.now.query.allow ≡ None = search rules in
    λ s h. drive_nobody _ s c.args.sheet.now h _ _ _ _ _
    (ap (λ q. prepare_call c.args.steps.now q no_bytes no_work) (sym c.preparing.ensures) ∙ c.in_default.ensures.call) is c.search.ensures.text
