-- `call_read::read` meets its contract: the part and the answer are those of the call.
use mathlib.Core.Path.{sym, ◌∙◌, ap}
use mathlib.Core.List.{List}
use mathlib.Core.Option.{none}
use Prim.Native.Nat.{ℕ}
use Rattle.std.proofs.lemmas.Result.{err_from_is_err_and}
use Rattle.base_model.specs.Answers.{reply_of}
use Rattle.rule_calls.specs.Calls.{ReadOut}
use Rattle.rule_calls.proofs.Reading.{read_refused, read_is}
use Rattle.set_places.specs.Given.{inputs_in}
use Rattle.call_lengths.specs.Lent.{kept_in}
use Rattle.call_checks.proofs.Passed.{done_passes, refused_says}
use Rattle.call_read.proofs.Outcome.{stands_kept}
use Rattle.call_read.specs.Told.{told}
use Rattle.call_read.proofs.read.Goals as goal

pub returns-in_err-read_checks-clause-call : goal.returns-in_err-read_checks-clause-call
unfolding reply_of
returns-in_err-read_checks-clause-call c =
    let a = c.args in
    let p = err_from_is_err_and c.from_residual.result c.from_residual.ensures.1 in
    rw (p.1, p.2) (read_refused (inputs_in a.given.now) a.limits a.rec a.k (kept_in a.kept.now) _ (sym (sym (refused_says c.read_checks.ensures c.in_err-read_checks.was))))

pub part_of-requires : goal.part_of-requires
part_of-requires c =
    let a = c.args in
    stands_kept (inputs_in a.given.now) a.limits a.rec a.k (kept_in a.kept.now) (done_passes c.read_checks.ensures c.in_ok-read_checks.was)

pub returns-clause-call : goal.returns-clause-call
unfolding reply_of
returns-clause-call c =
    let a = c.args in
    read_is (inputs_in a.given.now) a.limits a.rec a.k (kept_in a.kept.now) (done_passes c.read_checks.ensures c.in_ok-read_checks.was)
    ∙ ap (λ (points : List ℕ). let out : ReadOut = record { answer = none; points = points } in out) (sym c.part_of.ensures)

pub returns-in_err-read_checks-clause-numbers : goal.returns-in_err-read_checks-clause-numbers
unfolding told
returns-in_err-read_checks-clause-numbers c = ap told (returns-in_err-read_checks-clause-call c)

pub returns-clause-numbers : goal.returns-clause-numbers
unfolding told
returns-clause-numbers c = ap told (returns-clause-call c)
