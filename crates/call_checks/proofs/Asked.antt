-- The parts are the calls' checks, and what the first of them that fails answers.
use mathlib.Core.Path.{◌≡◌, refl, sym}
use mathlib.Core.Bool.{Bool}
use mathlib.Core.Option.{Option, none, some, none-ne-some}
use mathlib.Core.List.{List, [], ◌∷◌, ◌++◌}
use Rattle.base_model.specs.Answers.{Said, first}
use Rattle.rule_layouts.specs.Inputs.{Inputs}
use Rattle.rule_calls.specs.Areas.{bases_fit}
use Rattle.rule_calls.specs.Checks.{movers_small, query_checks}
use Rattle.call_checks.specs.Parts.{allow_small, allow_long, frames_of, frame_checks, areas_of, area_checks}

-- ---- lists of checks, one after another
pub first_then : (xs ys : List (Option Said)) → first xs ≡ none → first (xs ++ ys) ≡ first ys
unfolding first
first_then [] ys e = refl
first_then (none ∷ xs) ys e = first_then xs ys e
first_then (some r ∷ xs) ys e = absurd (none-ne-some r (sym e))

pub first_stops : (xs ys : List (Option Said)) (r : Said) → first xs ≡ some r → first (xs ++ ys) ≡ some r
unfolding first
first_stops [] ys r e = absurd (none-ne-some r e)
first_stops (none ∷ xs) ys r e = first_stops xs ys r e
first_stops (some q ∷ xs) ys r e = e

-- ---- the parts
pub query_parts : (i : Inputs) (long : Bool) → query_checks i long ≡ frame_checks i ++ area_checks i long
unfolding query_checks frame_checks frames_of area_checks areas_of movers_small allow_small bases_fit allow_long
query_parts i long = refl
