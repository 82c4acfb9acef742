-- `walls_judge::judge` meets its contract: the placements that are laid flat are those of the row, and too many of them are too many either way.
use mathlib.Core.Path.{◌∙◌}
use Rattle.call_lengths.specs.Lent.{work_of}
use Rattle.walls_lent.proofs.Lent.{judge_lent}
use Rattle.walls_judge.proofs.judge.Goals as goal

pub returns-clause-call : goal.returns-clause-call
returns-clause-call c =
    let p = c.args.plan.now in
    judge_lent p.query p.groups.now p.block_base.now p.allow_base.now p.places.now _ c.flat-given.ensures
    c.args.steps.now c.args.selection.now (work_of c.args.work.now) ∙ c.judge.ensures.call
