-- The answer to a text: it stands in front of the area once it is written, and a text that is none or is over a cap gets 18. Assumes nothing.
use mathlib.Core.Path.{◌≡◌, subst}
use mathlib.Core.Bool.{true, false}
use mathlib.Core.List.{List}
use Prim.Native.Nat.{ℕ, ◌≤◌, ◌<◌}
use native.Mathlib.Omega.{arith}
use lib.ListN.{length}
use borrow.Author.Tests.{leb-true}
use Rattle.base_model.specs.Answers.{refusal}
use Rattle.rule_routes.specs.Edges.{original_steps}
use Rattle.sheet_texts.specs.Parts.{Front}
use Rattle.sheet_texts.specs.Texts.{refusal_text}
use Rattle.sheet_read.specs.Answers.{SheetGot, SheetNot, SheetBy, SheetRead}
use Rattle.sheet_words.specs.Caps.{caps_left}
use Rattle.sheet_read.specs.declared.Counts.{Counts}
use Rattle.std.specs.Prelude.{Option, None, Some}
use Rattle.sheet_read.proofs.Caps.{accepted, refused, not_accepted}
use Rattle.sheet_rule.specs.Drive.{drive_text, AnswerOf, driven, turned}
use Rattle.sheet_values.specs.Inner.{Rooms}
use Rattle.sheet_answer.specs.Answers.{Answers}

written : (text w before out : List ℕ) (n : ℕ) → AnswerOf text w → Front w before out n → Answers text before out (Some n)
written text w before out n is h = record { answer = record { bytes = w; is = is; out_is = h.text; long = h.ends } }

-- ---- what was read
module _ (text fixed cells obstacles groups places : List ℕ) (r : Option Counts) (h : SheetRead text fixed cells obstacles groups places r) where
  pub got : (k : Counts) → r ≡ Some k → SheetGot text k fixed cells obstacles groups places
  got k e = subst (λ (x : Option Counts). SheetBy text fixed cells obstacles groups places x) e h.answer

  pub not_got : r ≡ None → SheetNot text
  not_got e = subst (λ (x : Option Counts). SheetBy text fixed cells obstacles groups places x) e h.answer

pub rooms : (text : List ℕ) (k : Counts) (fixed cells obstacles groups places : List ℕ) → SheetGot text k fixed cells obstacles groups places
    → length fixed ≡ 20 → length cells ≡ 64 → length obstacles ≡ 128 → length groups ≡ 4096 → length places ≡ 768 → Rooms k fixed cells obstacles groups places
rooms text k fixed cells obstacles groups places g e₁ e₂ e₃ e₄ e₅ = record {
  few_cells = g.held.few_cells;
  few_obstacles = g.held.few_obstacles;
  few_groups = g.held.few_groups;
  few_places = g.held.few_places;
  fixed_room = e₁;
  cell_room = e₂;
  obstacle_room = e₃;
  group_room = e₄;
  place_room = e₅;
}

-- ---- 18: too long, none, or over a cap that is left
pub answer_long : (text before out : List ℕ) (n : ℕ) → 8192 < length text → Front (refusal_text (refusal 18)) before out n → Answers text before out (Some n)
answer_long text before out n lt =
    written text (refusal_text (refusal 18)) before out n
    (turned (λ s h. let le : length text ≤ 8192 = leb-true (length text) 8192 h.short in let no : ⊥ = omega arith in no))

pub answer_none : (text before out : List ℕ) (n : ℕ) → SheetNot text → Front (refusal_text (refusal 18)) before out n → Answers text before out (Some n)
answer_none text before out n h = written text (refusal_text (refusal 18)) before out n (turned (not_accepted text h))

module _ (text : List ℕ) (k : Counts) (fixed cells obstacles groups places : List ℕ) (g : SheetGot text k fixed cells obstacles groups places) (before out : List ℕ) (n : ℕ) where
  pub answer_over : caps_left fixed ≡ false → Front (refusal_text (refusal 18)) before out n → Answers text before out (Some n)
  answer_over e = written text (refusal_text (refusal 18)) before out n (turned (refused text k fixed cells obstacles groups places g e))

  pub answer_driven : length text ≤ 8192 → caps_left fixed ≡ true → Front (drive_text original_steps g.value) before out n → Answers text before out (Some n)
  answer_driven short e = written text (drive_text original_steps g.value) before out n (driven g.value (accepted text k fixed cells obstacles groups places g short e))
