-- Input P (RULES 9.7) with other limits, answered by the checker: the layout line of the answers that were cut short stands first in the whole one.
use Prim.Native.Nat.{ℕ}
use mathlib.Core.Path.{◌≡◌, refl}
use mathlib.Core.List.{List, [], ◌∷◌, ◌++◌}
use native.Mathlib.Omega.{arith}
use Rattle.rule_routes.specs.Edges.{original_steps}
use Rattle.text_forms.specs.Patterns.{bytes}
use Rattle.promise.specs.Longer.{NoSmaller}
use Rattle.sheet_form.specs.Sheets.{Sheet, sheet, within_caps, Accepted}
use Rattle.sheet_rule.specs.Drive.{drive_text, driven}
use Rattle.sheet_rule.proofs.Worked.{driving, P, text_p, accepted_P}
use Rattle.promise_sheet.specs.LongerAnswers.{with_limits, LongerAnswer, LongerAnswers}
use Rattle.promise_sheet.proofs.Answered.{longer_answers}

unfoldable one_wall : Sheet
one_wall = with_limits P (100 ∷ 1 ∷ [])

unfoldable three_sets : Sheet
three_sets = with_limits P (3 ∷ 32 ∷ [])

answers : drive_text original_steps one_wall ∷ drive_text original_steps three_sets ∷ drive_text original_steps P ∷ drive_text original_steps (with_limits P (100 ∷ 33 ∷ [])) ∷ []
    ≡ bytes "(result ResultLimit 2 3 1)\n(layout 0 (0) ())\n"
    ∷ bytes "(result StateLimit 3 3 1)\n(layout 0 (0) ())\n"
    ∷ bytes "(result Exhausted 4 3 2)\n(layout 0 (0) ())\n(layout 1 (1 2) ())\n"
    ∷ bytes "(refused 12)\n"
    ∷ []
unfolding P with_limits one_wall three_sets driving
answers = refl

-- the text of P with a result limit of 1, and the theorem on it and on the text of P
abbrev text_one : List ℕ
text_one =
    bytes "(map 1 1 1)\n(window 0 0 5 3)\n(ends 0 1 4 1)\n(block 0 0 0 0)\n(limits 100 1)\n(groups 2)\n"
    ++ bytes "(place 0 0 0 0 (2 0 3 3) (2 0 3 3))\n(place 0 0 0 0 (2 0 3 2) (2 0 3 2))\n(place 0 0 0 0 (2 2 3 3) (2 2 3 3))\n"

fits_one : sheet.fits one_wall
unfolding P with_limits one_wall
fits_one =
    let size = accepted_P.fits in
    let cells = size.1 in
    let closed = cells.1 in
    let obstacles = closed.1 in
    let window = obstacles.1 in
    let ways = window.1 in
    let block = ways.1 in
    let allow = block.1 in
    let limits = allow.1 in
    (size.0, (cells.0, (closed.0, (obstacles.0, (window.0, (ways.0, (block.0, (allow.0, ((omega arith, (omega arith, refl)), limits.1)))))))))

accepted_one : Accepted text_one one_wall
unfolding P with_limits one_wall driving within_caps
accepted_one = record { short = refl; fits = fits_one; spelled = refl; capped = refl }

texts_longer : LongerAnswer (drive_text original_steps one_wall) (drive_text original_steps P)
unfolding P with_limits one_wall driving NoSmaller LongerAnswers
texts_longer =
    longer_answers one_wall (100 ∷ 32 ∷ []) (omega arith, omega arith) text_one text_p accepted_one accepted_P (drive_text original_steps one_wall) (drive_text original_steps P)
    (driven one_wall accepted_one) (driven P accepted_P)
