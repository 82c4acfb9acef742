-- `call_read::check_recorded` meets its contract: 16, then 17.
use native.Mathlib.Omega.{arith}
use Rattle.std.proofs.lemmas.Grind.{common_steps}
use Rattle.base_model.specs.Answers.{ask, first, reply_of, said_of}
use Rattle.call_read.specs.Parts.{recorded}
use Rattle.call_read.proofs.check_recorded.Goals as goal

pub returns-in_err-ask : goal.returns-in_err-ask
unfolding recorded reply_of said_of ask first
returns-in_err-ask c =
    let g = c.args.given.now in
    let fits = c.record_fits.ensures g.block_base.now g.allow_base.now c.args.kept.now.points.now in
    grind (arith, common_steps, c.from_residual.ensures, c.in_err-ask.was, c.ask.ensures, fits)

pub returns : goal.returns
unfolding recorded reply_of said_of ask first
returns c =
    let g = c.args.given.now in
    let fits = c.record_fits.ensures g.block_base.now g.allow_base.now c.args.kept.now.points.now in
    grind (arith, common_steps, c.in_ok-ask.was, c.ask.ensures, c.ask-2.ensures, fits)
