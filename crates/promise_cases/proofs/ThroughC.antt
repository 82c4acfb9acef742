-- A search through the C functions, its return drive, the search by another table, and the search out again with a smaller limit, computed by the checker: the claims are about searches that exist.
use Prim.Native.Nat.{ℕ}
use mathlib.Core.Path.{◌≡◌, refl}
use mathlib.Core.Logic.{◌↔◌}
use mathlib.Core.List.{List, [], ◌∷◌, map}
use native.Mathlib.Omega.{arith}
use lib.ListN.{replicate}
use Rattle.base_laws.specs.Lists.{below}
use Rattle.base_model.specs.declared.Limits.{Limits}
use Rattle.rule_routes.specs.Edges.{original_steps}
use Rattle.rule_routes.proofs.Cases.{diagonals_first}
use Rattle.rule_layouts.specs.Inputs.{exchanged}
use Rattle.rule_calls.proofs.Drive.{box, limits, work_for, store_for}
use Rattle.promise.specs.Longer.{NoSmaller}
use Rattle.promise.specs.Promise.{Call, stepping, reading, inputs_in, limits_in, HasTable}
use Rattle.walls_numbers.specs.Left.{read_on}
use Rattle.walls_numbers.proofs.Rows.{numbering}
use Rattle.promise_c.specs.PromiseOn.{HeldOn, leaves_on, layouts_on, layout_on, ListedOn, HasExhaustedOn, SameListOn, answer_on, after_on, run_on, AlongOn, FaithfulOn}
use Rattle.promise_c.specs.PromiseOn.{SearchOn, begins_on, ends_on, points_told}
use Rattle.promise_c.specs.LongerOn.{HasStoppedOn, BeginsWithOn}
use Rattle.promise_c.proofs.KeptOn.{promise_on}
use Rattle.promise_c.proofs.ExtendedOn.{longer_on}
use Rattle.promise_cases.proofs.Example.{gap, step_by}

-- what the calls of a list answer
unfoldable answers : HeldOn → List Call → List ℕ
answers h [] = []
answers h (c ∷ cs) = answer_on h c ∷ answers (after_on h c) cs

unfoldable listing_on : HeldOn → List (List ℕ)
listing_on h = map (layout_on h) (below (layouts_on h))

-- a name under which all of this unfolds
unfoldable promising_on : ℕ
unfolding numbering exchanged inputs_in limits_in HasTable leaves_on layouts_on layout_on HasExhaustedOn answer_on after_on run_on AlongOn FaithfulOn begins_on ends_on points_told gap step_by
    answers listing_on
promising_on = 0

-- ---- out: a reading before anything is listed, a step with a state limit of 0
unfoldable l : Limits
l = limits 10 4

unfoldable out_calls : List Call
out_calls = step_by gap l 1 ∷ reading gap l 0 ∷ step_by gap (limits 0 4) 1 ∷ step_by gap l 7 ∷ reading gap l 1 ∷ []

unfoldable out : SearchOn original_steps gap l
unfolding promising_on l out_calls
out = record {
  numbers = replicate 50 9;
  work = work_for (box 0 0 5 3);
  store = store_for gap l;
  accepted = refl;
  calls = out_calls;
  faithful = (
    (λ e. (refl, refl, refl)),
    ((λ e. (tt, refl, refl)), ((λ e. absurd (omega arith)), ((λ e. (refl, refl, refl)), ((λ e. (tt, refl, refl)), tt)))),
  );
}

out_answers : answers (begins_on out) out_calls ≡ 0 ∷ 17 ∷ 11 ∷ 0 ∷ 0 ∷ []
unfolding promising_on l out_calls out
out_answers = refl

out_exhausted : HasExhaustedOn (ends_on out)
unfolding promising_on l out_calls out
out_exhausted = refl

-- the second layout's route, in map pixels
out_points : points_told (read_on gap l (ends_on out).numbers 1 (ends_on out).store) (ends_on out).store.points
    ≡ 0 ∷ 1 ∷ 0 ∷ 2 ∷ 1 ∷ 2 ∷ 2 ∷ 2 ∷ 3 ∷ 2 ∷ 4 ∷ 1 ∷ []
unfolding promising_on l out_calls out
out_points = refl

-- ---- back: from end to start, with other limits
unfoldable m : Limits
m = limits 5 3

unfoldable back : SearchOn original_steps (exchanged gap) m
unfolding promising_on m
back = record {
  numbers = replicate 51 0;
  work = work_for (box 0 0 5 3);
  store = store_for (exchanged gap) m;
  accepted = refl;
  calls = step_by (exchanged gap) m 4 ∷ [];
  faithful = ((λ e. (refl, refl, refl)), tt);
}

back_exhausted : HasExhaustedOn (ends_on back)
unfolding promising_on m back
back_exhausted = refl

-- both list (0) and (1)
listings : (listing_on (ends_on out) ≡ (0 ∷ []) ∷ (1 ∷ []) ∷ []) × (listing_on (ends_on back) ≡ (0 ∷ []) ∷ (1 ∷ []) ∷ [])
unfolding promising_on l m out_calls out back
listings = (refl, refl)

same_listed : (set : List ℕ) → ListedOn (ends_on out) set ↔ ListedOn (ends_on back) set
same_listed = ((promise_on original_steps gap l out).return original_steps m back out_exhausted back_exhausted).sets

-- ---- out by another table: the same walls
unfoldable slant : SearchOn diagonals_first gap m
unfolding promising_on m diagonals_first
slant = record {
  numbers = replicate 50 0;
  work = work_for (box 0 0 5 3);
  store = store_for gap m;
  accepted = refl;
  calls = stepping diagonals_first gap m 4 (work_for (box 0 0 5 3)) ∷ [];
  faithful = ((λ e. (refl, refl, refl)), tt);
}

slant_exhausted : HasExhaustedOn (ends_on slant)
unfolding promising_on m diagonals_first slant
slant_exhausted = refl

same_by_both : SameListOn (ends_on out) (ends_on slant)
same_by_both = (promise_on original_steps gap l out).orders diagonals_first m slant out_exhausted slant_exhausted

-- ---- out again, with a result limit of 1: the whole list begins with what it lists
unfoldable short : SearchOn original_steps gap (limits 10 1)
unfolding promising_on
short = record {
  numbers = replicate 50 7;
  work = work_for (box 0 0 5 3);
  store = store_for gap (limits 10 1);
  accepted = refl;
  calls = step_by gap (limits 10 1) 9 ∷ [];
  faithful = ((λ e. (refl, refl, refl)), tt);
}

short_first : (listing_on (ends_on short) ≡ (0 ∷ []) ∷ []) × BeginsWithOn (ends_on out) (ends_on short)
unfolding promising_on l out_calls out short NoSmaller HasStoppedOn
short_first = (refl, (longer_on short out).extends (omega arith, omega arith) (λ e. omega arith))
