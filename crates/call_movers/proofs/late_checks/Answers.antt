-- `call_movers::late_checks` meets its contract: the routes' refusal answers, or that of the placements.
use mathlib.Core.Path.{◌≡◌, refl, sym, ap, ◌∙◌}
use mathlib.Core.Option.{Option}
use mathlib.Core.List.{List, ◌++◌}
use Rattle.std.specs.Prelude.{Result, Ok, Err}
use Rattle.std.specs.Result.{result_and}
use Rattle.base_model.specs.Answers.{Said, first, reply_of, said_of}
use Rattle.base_model.specs.declared.Refusal.{Refusal}
use Rattle.rule_routes.specs.Edges.{steps_of}
use Rattle.rule_layouts.specs.Flat.{inputs_of}
use Rattle.rule_layouts.specs.Inputs.{board_of}
use Rattle.rule_calls.specs.Checks.{place_checks}
use Rattle.rule_calls.specs.Calls.{both_routes}
use Rattle.set_places.specs.Given.{inputs_in}
use Rattle.call_checks.proofs.Asked.{first_then, first_stops}
use Rattle.call_movers.proofs.Moving.{bases_of}
use Rattle.call_movers.proofs.late_checks.Goals as goal

-- one answer after another
both_say : {A B : Type 0} (p : Result A Refusal) (q : Result B Refusal) (xs ys : List (Option Said))
    → reply_of p ≡ first xs → reply_of q ≡ first ys → reply_of (result_and p q) ≡ first (xs ++ ys)
unfolding reply_of
both_say (Ok x) q xs ys e f = f ∙ sym (first_then xs ys (sym e))
both_say (Err r) q xs ys e f = sym (first_stops xs ys (said_of r) (sym e))

pub returns-clause-result_value : goal.returns-clause-result_value
unfolding inputs_of
returns-clause-result_value c =
    let i = inputs_in c.args.given.now in
    ap reply_of c.and.ensures
    ∙ both_say c.check_routes-passed.result c.check_places-placed.result (both_routes (board_of (steps_of c.args.steps.now) i)) (place_checks i)
    (c.check_routes-passed.ensures.result_value i (bases_of c.args.given.now)) (c.check_places-placed.ensures i refl refl refl)
