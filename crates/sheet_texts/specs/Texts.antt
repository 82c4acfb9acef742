-- What the program writes of a result or a refusal (RULES 9.4).
use Rattle.std.specs.Prelude.{ℕ, List, [], ◌∷◌, ◌++◌, map}
use Rattle.base_laws.specs.Lists.{below, flat}
use Rattle.base_model.specs.Answers.{Said}
use Rattle.base_model.specs.declared.Position.{Position}
use Rattle.base_model.specs.declared.Record.{Record}
use Rattle.rule_search.specs.State.{Reason, Running, Exhausted, StateLimit, ResultLimit}
use Rattle.rule_calls.specs.Areas.{Store, reason_of, row_of, points_of, positions}
use Rattle.text_forms.specs.Forms.{decimal}
use Rattle.text_forms.specs.Patterns.{bytes}

unfoldable pub refusal_text : Said → List ℕ
refusal_text r = bytes "(refused " ++ decimal r.number ++ bytes ")\n"

unfoldable pub reason_text : Reason → List ℕ
reason_text Running = bytes "Running"
reason_text Exhausted = bytes "Exhausted"
reason_text StateLimit = bytes "StateLimit"
reason_text ResultLimit = bytes "ResultLimit"

-- with a space between two
unfoldable pub spaced : List (List ℕ) → List ℕ
spaced [] = []
spaced (w ∷ []) = w
spaced (w ∷ v ∷ ws) = w ++ 32 ∷ spaced (v ∷ ws)

unfoldable pub point_text : Position → List ℕ
point_text p = bytes "(" ++ decimal p.x ++ 32 ∷ decimal p.y ++ bytes ")"

unfoldable pub layout_text : ℕ → (members : List ℕ) → List Position → List ℕ
layout_text k members route =
    bytes "(layout " ++ decimal k ++ bytes " (" ++ spaced (map decimal members) ++ bytes ") (" ++ spaced (map point_text route) ++ bytes "))\n"

unfoldable pub result_text : Record → Store → List ℕ
result_text r a =
    bytes "(result " ++ reason_text (reason_of r.reason) ++ 32 ∷ decimal r.evaluations ++ 32 ∷ decimal r.placements ++ 32 ∷ decimal r.layouts ++ bytes ")\n"
    ++ flat (map (λ (k : ℕ). layout_text k (row_of a.layouts k) (positions (points_of r a.points k))) (below r.layouts))
