-- The allowed mover: what the answer to its preparation makes of the text. Assumes nothing.
use mathlib.Core.Path.{◌≡◌, sym, ap, ◌∙◌}
use mathlib.Core.Option.{none, some}
use mathlib.Core.List.{List, ◌∷◌}
use Prim.Native.Nat.{ℕ, ◌≤◌}
use lib.IntN.{ℤ}
use lib.ListN.{length}
use Rattle.text_forms.specs.Writing.{Put}
use Rattle.sheet_texts.specs.Parts.{enough, Front}
use Rattle.base_model.specs.Answers.{said_of}
use Rattle.base_model.specs.declared.Refusal.{Refusal}
use Rattle.base_model.specs.declared.Bounds.{Bounds}
use Rattle.rule_calls.specs.Areas.{Work}
use Rattle.rule_calls.specs.Calls.{Prepared, prepare_call, begin_call}
use Rattle.sheet_texts.specs.Texts.{refusal_text}
use Rattle.sheet_form.specs.Sheets.{Sheet}
use Rattle.sheet_rule.specs.Drive.{bounds_of, preparation_of, no_bytes, no_store, step_text, search_text, allow_text}
use Rattle.sheet_allowed.specs.declared.FlatSheet.{FlatSheet}
use Rattle.sheet_allowed.specs.Inner.{FlatAs, asked_of}
use Rattle.sheet_allowed.proofs.Given.{given_of, prepared_for, searched, fronts, refuses_front}

module _ (table : List ℤ) (s : Sheet) (f : FlatSheet) (h : FlatAs s f) (m : List ℕ) (ms : List (List ℕ)) (b : Bounds) (e : b ≡ bounds_of m) (block_base : List ℕ) (work : Work)
    (base : List ℕ) (work' : Work) (before out : List ℕ) (n : ℕ) where
  same : (p : Prepared) → prepare_call table (asked_of f b) no_bytes work ≡ p → prepare_call table (preparation_of s m) no_bytes work ≡ p
  same p ep = ap (λ q. prepare_call table q no_bytes work) (sym (prepared_for s f h b m e)) ∙ ep

  pub allowed_refused : (x : Refusal) → prepare_call table (asked_of f b) no_bytes work ≡ record { answer = some (said_of x); baseline = base; work = work' }
      → enough ≤ length before → Put (refusal_text (said_of x)) before 0 out n → Front (allow_text table s (m ∷ ms) block_base work) before out n
  unfolding allow_text
  allowed_refused x ep room k =
      refuses_front x (allow_text table s (m ∷ ms) block_base work) before out n room (rw (allow_text, same (record { answer = some (said_of x); baseline = base; work = work' }) ep)) k

  pub allowed_searched : prepare_call table (asked_of f b) no_bytes work ≡ record { answer = none; baseline = base; work = work' }
      → Front (step_text table (given_of f block_base base) f.limits (begin_call table (given_of f block_base base) f.limits work' no_store)) before out n
      → Front (allow_text table s (m ∷ ms) block_base work) before out n
  unfolding allow_text
  allowed_searched ep k =
      let p : Prepared = record { answer = none; baseline = base; work = work' } in
      let goes : allow_text table s (m ∷ ms) block_base work ≡ search_text table s block_base base work' =
      rw (allow_text, same p ep) (ap (λ (x : Prepared). search_text table s block_base x.baseline x.work) (same p ep)) in
      fronts _ _ before out n (goes ∙ searched s f h table block_base base work') k
