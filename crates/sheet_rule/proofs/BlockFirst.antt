-- Two movers that are both refused: block's refusal is told, so the same two movers exchanged are told the other number.
use Prim.Native.Nat.{ℕ}
use native.Mathlib.Omega.{arith}
use mathlib.Core.Path.{◌≡◌, refl, subst}
use mathlib.Core.Bool.{true}
use mathlib.Core.List.{List, [], ◌∷◌}
use lib.Dec.{leb}
use lib.ListN.{length}
use Rattle.rule_routes.specs.Edges.{original_steps}
use Rattle.text_forms.specs.Forms.{decimal, decimal_by, signed}
use Rattle.text_forms.specs.Patterns.{bytes, is}
use Rattle.rule_calls.proofs.Computing.{computing}
use Rattle.sheet_form.specs.Sheets.{Sheet, sheet, signed_of, rect_of, within_caps}
use Rattle.sheet_rule.specs.Drive.{drive_text, AnswerOf, driven}
use Rattle.sheet_rule.proofs.Worked.{driving}

-- open ground, and nothing to place
unfoldable pub Both : (block allow : List ℕ) → Sheet
Both block allow = record {
  size = 1 ∷ 1 ∷ [];
  cells = 1 ∷ [];
  obstacles = [];
  window = 0 ∷ 0 ∷ 5 ∷ 3 ∷ [];
  ends = 0 ∷ 1 ∷ 4 ∷ 1 ∷ [];
  block = block;
  allow = allow ∷ [];
  limits = 100 ∷ 32 ∷ [];
  groups = [];
  places = [];
}

-- a mover that the map's left edge keeps off the start, and one that its right edge keeps off the end alone
abbrev pub off_start : List ℕ
off_start = 1 ∷ 0 ∷ 0 ∷ 0 ∷ []

abbrev pub off_end : List ℕ
off_end = 0 ∷ 0 ∷ 4 ∷ 0 ∷ []

seven : drive_text original_steps (Both off_start off_end) ≡ bytes "(refused 7)\n"
unfolding Both driving
seven = refl

eight : drive_text original_steps (Both off_end off_start) ≡ bytes "(refused 8)\n"
unfolding Both driving
eight = refl

-- ---- the texts are accepted
abbrev text_seven : List ℕ
text_seven = bytes "(map 1 1 1)\n(window 0 0 5 3)\n(ends 0 1 4 1)\n(block 1 0 0 0)\n(allow 0 0 4 0)\n(limits 100 32)\n(groups)\n"

abbrev text_eight : List ℕ
text_eight = bytes "(map 1 1 1)\n(window 0 0 5 3)\n(ends 0 1 4 1)\n(block 0 0 4 0)\n(allow 1 0 0 0)\n(limits 100 32)\n(groups)\n"

fits_Both : (block allow : List ℕ) → (is "(block $ $ $ $)\n").fits block → (is "(allow $ $ $ $)\n").fits allow → sheet.fits (Both block allow)
unfolding Both
fits_Both block allow b a = (
  (omega arith, (omega arith, refl)),
  (
    (omega arith, (omega arith, tt)),
    (
      refl,
      (
        tt,
        (
          (omega arith, (omega arith, (omega arith, (omega arith, refl)))),
          (
            (omega arith, (omega arith, (omega arith, (omega arith, refl)))),
            (b, (a, ((omega arith, (omega arith, refl)), (refl, (tt, (refl, (tt, refl))))))),
          ),
        ),
      ),
    ),
  ),
)

capped_Both : (block allow : List ℕ) → within_caps (Both block allow) ≡ true
unfolding Both computing signed_of rect_of within_caps
capped_Both block allow = refl

-- what is told of a text that spells two such movers
told : (block allow text answer : List ℕ) → (is "(block $ $ $ $)\n").fits block → (is "(allow $ $ $ $)\n").fits allow → leb (length text) 8192 ≡ true → sheet.spell (Both block allow) ≡ text
    → drive_text original_steps (Both block allow) ≡ answer → AnswerOf text answer
told block allow text answer b a short spelled e =
    subst (λ (l : List ℕ). AnswerOf text l) e (driven (Both block allow) (record { short = short; fits = fits_Both block allow b a; spelled = spelled; capped = capped_Both block allow }))

pub block_first : AnswerOf text_seven (bytes "(refused 7)\n")
unfolding Both decimal decimal_by signed
block_first =
    told off_start off_end text_seven (bytes "(refused 7)\n") (omega arith, (omega arith, (omega arith, (omega arith, refl))))
    (omega arith, (omega arith, (omega arith, (omega arith, refl)))) refl refl seven

pub block_first_exchanged : AnswerOf text_eight (bytes "(refused 8)\n")
unfolding Both decimal decimal_by signed
block_first_exchanged =
    told off_end off_start text_eight (bytes "(refused 8)\n") (omega arith, (omega arith, (omega arith, (omega arith, refl))))
    (omega arith, (omega arith, (omega arith, (omega arith, refl)))) refl refl eight
