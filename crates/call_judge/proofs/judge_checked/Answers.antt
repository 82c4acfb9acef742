-- `call_judge::judge_checked` meets its contract: the working areas are cleared, and judging leaves them so.
use mathlib.Core.Path.{◌∙◌}
use Rattle.rule_routes.specs.Edges.{steps_of}
use Rattle.rule_layouts.specs.Flat.{inputs_of}
use Rattle.set_places.specs.Given.{inputs_in}
use Rattle.call_lengths.specs.Lent.{work_of}
use Rattle.call_judge.proofs.Choosing.{chosen, work_passes}
use Rattle.call_judge.proofs.Judgement.{judge_accepted, clean_work}
use Rattle.call_judge.proofs.judge_checked.Goals as goal

pub clear_work-requires : goal.clear_work-requires
clear_work-requires c =
    ((chosen _ _ _ _ _ _ _ _ _ c.requires.route_value c.requires.steps_value).fits, work_passes _ _ _ _ _ _ _ _ c.requires.route_value)

pub judged_in-requires : goal.judged_in-requires
judged_in-requires c = record {
  ready = chosen _ _ _ _ _ _ _ _ _ c.requires.route_value c.requires.steps_value;
  clean = clean_work _ _ _ c.clear_work.ensures.cleared;
}

pub returns-clause-call : goal.returns-clause-call
unfolding inputs_of
returns-clause-call c =
    judge_accepted (steps_of c.args.steps.now) (inputs_in c.args.given.now) c.args.selection.now (work_of c.args.work.now) c.requires.route_value
    c.judged_in.ensures.verdict_value c.judged_in.ensures.ground_value (c.judged_in.ensures.same ∙ c.clear_work.ensures.cleared)
