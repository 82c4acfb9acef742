-- A sheet's values as the calls take them: the mover that is prepared, the search, and a text in front of the area. Assumes nothing.
use mathlib.Core.Path.{◌≡◌, sym, subst}
use mathlib.Core.List.{List}
use Prim.Native.Nat.{ℕ, ◌≤◌}
use native.Mathlib.Omega.{arith}
use lib.IntN.{ℤ}
use lib.ListN.{length}
use Rattle.text_forms.specs.Writing.{Put}
use Rattle.sheet_texts.specs.Parts.{enough, Front}
use Rattle.base_model.specs.Answers.{said_of}
use Rattle.base_model.specs.declared.Refusal.{Refusal}
use Rattle.base_model.specs.declared.Bounds.{Bounds}
use Rattle.rule_layouts.specs.Inputs.{Inputs}
use Rattle.rule_layouts.specs.Flat.{inputs_of}
use Rattle.rule_calls.specs.Areas.{Work}
use Rattle.rule_calls.specs.Calls.{begin_call}
use Rattle.sheet_texts.specs.Texts.{refusal_text}
use Rattle.sheet_form.specs.Sheets.{Sheet}
use Rattle.sheet_rule.specs.Drive.{bounds_of, query_of, preparation_of, inputs_for, no_store, step_text, search_text}
use Rattle.sheet_allowed.specs.declared.FlatSheet.{FlatSheet}
use Rattle.sheet_allowed.specs.Inner.{FlatAs, asked_of}
use Rattle.sheet_texts.proofs.Fronts.{in_front, refusal_short}

-- what a search of the sheet is given
abbrev pub given_of : FlatSheet → (block_base allow_base : List ℕ) → Inputs
given_of f block_base allow_base = inputs_of f.query f.places.groups.now f.places.numbers.now f.places.edges.now block_base allow_base

module _ (s : Sheet) (f : FlatSheet) (h : FlatAs s f) where
  -- the mover that is prepared
  pub prepared_for : (b : Bounds) (m : List ℕ) → b ≡ bounds_of m → asked_of f b ≡ preparation_of s m
  unfolding preparation_of query_of
  prepared_for b m e = rw (h.across_is, h.down_is, h.cells_are, h.obstacles_are, h.query_is, e)

  pub searched : (table : List ℤ) (block_base allow_base : List ℕ) (work : Work) → search_text table s block_base allow_base work
      ≡ step_text table (given_of f block_base allow_base) f.limits (begin_call table (given_of f block_base allow_base) f.limits work no_store)
  unfolding search_text inputs_for
  searched table block_base allow_base work = rw (h.query_is, h.limits_are, h.groups_are, h.numbers_are, h.edges_are)

-- ---- a text in front of the area
pub fronts : (w v before out : List ℕ) (n : ℕ) → v ≡ w → Front w before out n → Front v before out n
fronts w v before out n e h = subst (λ (x : List ℕ). Front x before out n) (sym e) h

pub refuses_front : (x : Refusal) (v before out : List ℕ) (n : ℕ) → enough ≤ length before → v ≡ refusal_text (said_of x) → Put (refusal_text (said_of x)) before 0 out n → Front v before out n
refuses_front x v before out n room e h = fronts (refusal_text (said_of x)) v before out n e (in_front (refusal_text (said_of x)) before out n (omega (arith, refusal_short x)) h)
