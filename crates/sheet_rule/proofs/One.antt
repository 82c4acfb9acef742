-- A text has one answer: it is accepted as one sheet at most.
use mathlib.Core.Path.{◌≡◌, refl, ap}
use mathlib.Core.List.{List}
use Prim.Native.Nat.{ℕ}
use Rattle.rule_routes.specs.Edges.{original_steps}
use Rattle.sheet_form.proofs.Once.{accepted_one}
use Rattle.sheet_rule.specs.Drive.{drive_text, AnswerOf, driven, turned}

pub answer_one : (text a b : List ℕ) → AnswerOf text a → AnswerOf text b → a ≡ b
answer_one text _ _ (driven s h) (driven t k) = ap (drive_text original_steps) (accepted_one text s t h k)
answer_one text _ _ (driven s h) (turned k) = absurd (k s h)
answer_one text _ _ (turned h) (driven t k) = absurd (h t k)
answer_one text _ _ (turned h) (turned k) = refl
