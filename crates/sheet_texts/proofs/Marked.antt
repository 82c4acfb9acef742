-- Texts of known results, letter by letter.
use mathlib.Core.Path.{◌≡◌, refl}
use mathlib.Core.Bool.{false}
use mathlib.Core.List.{[], ◌∷◌}
use Rattle.base_laws.specs.Lists.{below, span, flat, total}
use Rattle.base_model.specs.Answers.{refusal}
use Rattle.base_model.specs.declared.Record.{Record}
use Rattle.rule_calls.specs.Areas.{Store, store_in, reason_of, row_of, positions, points_of}
use Rattle.text_forms.specs.Forms.{decimal, decimal_by}
use Rattle.text_forms.specs.Patterns.{bytes}
use Rattle.sheet_texts.specs.Texts.{refusal_text, reason_text, spaced, point_text, layout_text, result_text}

-- input P (RULES 9.7)
abbrev exhausted : Record
exhausted = record { reason = 2; evaluations = 4; placements = 3; layouts = 2; lists = 0; pending = false; routes = []; lengths = []; nexts = [] }

abbrev walls : Store
walls = store_in [] [] (1 ∷ 0 ∷ 0 ∷ 0 ∷ 0 ∷ 0 ∷ 0 ∷ 2 ∷ 1 ∷ 2 ∷ 0 ∷ 0 ∷ 0 ∷ 0 ∷ []) []

pub marked : result_text exhausted walls ≡ bytes "(result Exhausted 4 3 2)\n(layout 0 (0) ())\n(layout 1 (1 2) ())\n"
unfolding result_text layout_text point_text spaced reason_text reason_of row_of positions points_of below span flat total decimal decimal_by
marked = refl

-- two routes, of one point and of two
abbrev running : Record
running = record { reason = 1; evaluations = 10; placements = 65535; layouts = 2; lists = 0; pending = false; routes = 1 ∷ 2 ∷ []; lengths = []; nexts = [] }

abbrev routed : Store
routed = store_in [] [] (0 ∷ 0 ∷ 0 ∷ 0 ∷ 0 ∷ 0 ∷ 0 ∷ 1 ∷ 10 ∷ 0 ∷ 0 ∷ 0 ∷ 0 ∷ 0 ∷ []) (7 ∷ 0 ∷ 8 ∷ 1 ∷ 9 ∷ 100 ∷ [])

pub routes : result_text running routed ≡ bytes "(result Running 10 65535 2)\n(layout 0 () ((7 0)))\n(layout 1 (10) ((8 1) (9 100)))\n"
unfolding result_text layout_text point_text spaced reason_text reason_of row_of positions points_of below span flat total decimal decimal_by
routes = refl

pub sheet_refused : refusal_text (refusal 18) ≡ bytes "(refused 18)\n"
unfolding refusal_text refusal decimal decimal_by
sheet_refused = refl
