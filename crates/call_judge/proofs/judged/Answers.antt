-- `call_judge::judged` meets its contract: the ground left is the same by every order of steps.
use mathlib.Core.Path.{◌∙◌}
use Rattle.rule_routes.specs.Edges.{eight_steps, steps_of}
use Rattle.rule_routes.proofs.StepLaws.{eight_once}
use Rattle.rule_layouts.specs.Flat.{inputs_of}
use Rattle.rule_layouts.proofs.Alike.{ground_order}
use Rattle.set_places.specs.Given.{inputs_in}
use Rattle.call_judge.proofs.Judgement.{ground_flat}
use Rattle.call_judge.proofs.judged.Goals as goal

pub returns-clause-ground_value : goal.returns-clause-ground_value
unfolding inputs_of
returns-clause-ground_value c =
    let g = c.args.given.now in
    let s = c.args.selection.now in
    let p = c.requires.ready in
    c.ground_left-ground.ensures.value
    ∙ ground_flat g.query g.places.groups.now g.places.numbers.now g.places.edges.now g.block_base.now g.allow_base.now s eight_steps _ p.rows.fours p.rows.eights
    ∙ ground_order (inputs_in g) eight_steps (steps_of c.args.steps.now) eight_once p.once (p.start_in, p.end_in) s
