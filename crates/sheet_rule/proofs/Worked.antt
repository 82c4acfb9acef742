-- Input P and its answer (RULES 9.7).
use Prim.Native.Nat.{ℕ}
use native.Mathlib.Omega.{arith}
use mathlib.Core.Path.{◌≡◌, refl, subst}
use mathlib.Core.Bool.{true}
use mathlib.Core.List.{List, [], ◌∷◌, ◌++◌}
use lib.Dec.{leb}
use lib.ListN.{length}
use Rattle.rule_routes.specs.Edges.{original_steps}
use Rattle.text_forms.specs.Forms.{decimal, decimal_by, signed}
use Rattle.text_forms.specs.Patterns.{bytes}
use Rattle.rule_calls.proofs.Computing.{computing}
use Rattle.rule_layouts.specs.Flat.{inputs_of}
use Rattle.sheet_texts.specs.Texts.{refusal_text, reason_text, spaced, point_text, layout_text, result_text}
use Rattle.sheet_form.specs.Sheets.{Sheet, sheet, signed_of, rect_of, within_caps, Accepted}
use Rattle.sheet_rule.specs.Drive.{
  bounds_of,
  start_of,
  end_of,
  allowed_by,
  limits_of,
  query_of,
  edges_of,
  preparation_of,
  inputs_for,
  no_bytes,
  no_work,
  no_store,
  step_text,
  search_text,
  allow_text,
  drive_text,
  AnswerOf,
  driven,
}

-- a name under which every definition of the drive unfolds, and of the calls
unfoldable pub driving : ℕ
unfolding computing decimal decimal_by signed signed_of rect_of bounds_of start_of end_of allowed_by limits_of query_of edges_of preparation_of inputs_for no_bytes no_work no_store
    refusal_text reason_text spaced point_text layout_text result_text step_text search_text allow_text drive_text inputs_of
driving = 0

unfoldable pub P : Sheet
P = record {
  size = 1 ∷ 1 ∷ [];
  cells = 1 ∷ [];
  obstacles = [];
  window = 0 ∷ 0 ∷ 5 ∷ 3 ∷ [];
  ends = 0 ∷ 1 ∷ 4 ∷ 1 ∷ [];
  block = 0 ∷ 0 ∷ 0 ∷ 0 ∷ [];
  allow = [];
  limits = 100 ∷ 32 ∷ [];
  groups = (2 ∷ []) ∷ [];
  places =
      (0 ∷ 0 ∷ 0 ∷ 0 ∷ 2 ∷ 0 ∷ 3 ∷ 3 ∷ 2 ∷ 0 ∷ 3 ∷ 3 ∷ [])
      ∷ (0 ∷ 0 ∷ 0 ∷ 0 ∷ 2 ∷ 0 ∷ 3 ∷ 2 ∷ 2 ∷ 0 ∷ 3 ∷ 2 ∷ [])
      ∷ (0 ∷ 0 ∷ 0 ∷ 0 ∷ 2 ∷ 2 ∷ 3 ∷ 3 ∷ 2 ∷ 2 ∷ 3 ∷ 3 ∷ [])
      ∷ [];
}

drive_P : drive_text original_steps P ≡ bytes "(result Exhausted 4 3 2)\n(layout 0 (0) ())\n(layout 1 (1 2) ())\n"
unfolding P driving
drive_P = refl

abbrev pub text_p : List ℕ
text_p =
    bytes "(map 1 1 1)\n(window 0 0 5 3)\n(ends 0 1 4 1)\n(block 0 0 0 0)\n(limits 100 32)\n(groups 2)\n"
    ++ bytes "(place 0 0 0 0 (2 0 3 3) (2 0 3 3))\n(place 0 0 0 0 (2 0 3 2) (2 0 3 2))\n(place 0 0 0 0 (2 2 3 3) (2 2 3 3))\n"

spelled_P : sheet.spell P ≡ text_p
unfolding P decimal decimal_by signed
spelled_P = refl

capped_P : within_caps P ≡ true
unfolding P computing signed_of rect_of within_caps
capped_P = refl

short_P : leb (length text_p) 8192 ≡ true
short_P = refl

fits_P : sheet.fits P
unfolding P
fits_P = (
  (omega arith, (omega arith, refl)),
  (
    (omega arith, (omega arith, tt)),
    (
      refl,
      (
        tt,
        (
          (omega arith, (omega arith, (omega arith, (omega arith, refl)))),
          (
            (omega arith, (omega arith, (omega arith, (omega arith, refl)))),
            (
              (omega arith, (omega arith, (omega arith, (omega arith, refl)))),
              (
                tt,
                (
                  (omega arith, (omega arith, refl)),
                  (
                    refl,
                    (
                      ((omega arith, refl), tt),
                      (
                        refl,
                        (
                          (
                            (
                              omega arith,
                              (
                                omega arith,
                                (
                                  omega arith,
                                  (
                                    omega arith,
                                    (
                                      omega arith,
                                      (omega arith, (omega arith, (omega arith, (omega arith, (omega arith, (omega arith, (omega arith, refl))))))),
                                    ),
                                  ),
                                ),
                              ),
                            ),
                            (
                              (
                                omega arith,
                                (
                                  omega arith,
                                  (
                                    omega arith,
                                    (
                                      omega arith,
                                      (omega arith, (omega arith, (omega arith, (omega arith, (omega arith, (omega arith, (omega arith, (omega arith, refl)))))))),
                                    ),
                                  ),
                                ),
                              ),
                              (
                                (
                                  omega arith,
                                  (
                                    omega arith,
                                    (
                                      omega arith,
                                      (
                                        omega arith,
                                        (omega arith, (omega arith, (omega arith, (omega arith, (omega arith, (omega arith, (omega arith, (omega arith, refl)))))))),
                                      ),
                                    ),
                                  ),
                                ),
                                tt,
                              ),
                            ),
                          ),
                          refl,
                        ),
                      ),
                    ),
                  ),
                ),
              ),
            ),
          ),
        ),
      ),
    ),
  ),
)

pub accepted_P : Accepted text_p P
accepted_P = record { short = short_P; fits = fits_P; spelled = spelled_P; capped = capped_P }

pub P-answer : AnswerOf text_p (bytes "(result Exhausted 4 3 2)\n(layout 0 (0) ())\n(layout 1 (1 2) ())\n")
P-answer = subst (λ (l : List ℕ). AnswerOf text_p l) drive_P (driven P accepted_P)
