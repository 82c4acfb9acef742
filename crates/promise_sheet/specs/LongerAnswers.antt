-- Longer runs extend the earlier list (RULES 11.6), for the drive sheet: answered again with its limits raised, a sheet has the layout lines that it had, in the same
-- order, before any other.
use Rattle.std.specs.Prelude.{ℕ, ◌≡◌, List, ◌++◌, map}
use Rattle.base_laws.specs.Lists.{below, flat}
use Rattle.base_model.specs.Answers.{Said}
use Rattle.base_model.specs.declared.Limits.{Limits}
use Rattle.rule_routes.specs.Edges.{original_steps}
use Rattle.rule_layouts.specs.Inputs.{Inputs}
use Rattle.rule_calls.specs.Areas.{positions}
use Rattle.promise.specs.Promise.{Held, layout_at, Search, ends}
use Rattle.promise.specs.Longer.{NoSmaller, HasStopped, route_at, BeginsWith}
use Rattle.sheet_form.specs.Sheets.{Sheet, Accepted}
use Rattle.sheet_texts.specs.Texts.{refusal_text, layout_text}
use Rattle.sheet_texts.specs.Parts.{head_text}
use Rattle.sheet_rule.specs.Drive.{limits_of, AnswerOf}

-- the sheet with these limits in place of its own
unfoldable pub with_limits : Sheet → (limits : List ℕ) → Sheet
with_limits s limits = record {
  size = s.size;
  cells = s.cells;
  obstacles = s.obstacles;
  window = s.window;
  ends = s.ends;
  block = s.block;
  allow = s.allow;
  limits = limits;
  groups = s.groups;
  places = s.places;
}

-- the line of the result, and the lines of its layouts
unfoldable pub result_line : Held → List ℕ
result_line h = head_text h.rec.reason h.rec.evaluations h.rec.placements h.rec.layouts

unfoldable pub layout_lines : Held → List ℕ
layout_lines h = flat (map (λ (k : ℕ). layout_text k (layout_at h k) (positions (route_at h k))) (below h.rec.layouts))

-- the answer tells what a search holds, which has stopped
pub record Tells (answer : List ℕ) (h : Held) : Type 0 where
  pub stopped : HasStopped h
  pub text : answer ≡ result_line h ++ layout_lines h

-- two results, of searches over the same inputs: the layout lines of the first begin those of the second
pub record Lengthened (first second : List ℕ) : Type 0 where
  pub inputs : Inputs
  pub limits : Limits
  pub raised : Limits
  pub earlier : Search original_steps inputs limits
  pub later : Search original_steps inputs raised
  pub told : Tells first (ends original_steps earlier)
  pub told_later : Tells second (ends original_steps later)
  pub extended : BeginsWith (ends original_steps later) (ends original_steps earlier)
  pub more : List ℕ
  pub lines : layout_lines (ends original_steps later) ≡ layout_lines (ends original_steps earlier) ++ more

-- a refusal, or both are results
pub data LongerAnswer (first second : List ℕ) : Type 0 where
  refused : (r : Said) → first ≡ refusal_text r → LongerAnswer first second
  refused_later : (r : Said) → second ≡ refusal_text r → LongerAnswer first second
  lengthened : Lengthened first second → LongerAnswer first second

-- The claim: two texts, one a sheet, the other that sheet with other limits, neither smaller.
unfoldable pub LongerAnswers : Type 0
LongerAnswers =
    (s : Sheet) (limits : List ℕ) → NoSmaller (limits_of s) (limits_of (with_limits s limits))
    → (text raised : List ℕ) → Accepted text s → Accepted raised (with_limits s limits)
    → (first second : List ℕ) → AnswerOf text first → AnswerOf raised second → LongerAnswer first second
