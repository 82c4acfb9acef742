-- The drive over a sheet lent flat: what the answer to the preparation of block makes of the text. Assumes nothing.
use mathlib.Core.Path.{◌≡◌, refl, sym, ap, ◌∙◌}
use mathlib.Core.Option.{none, some}
use mathlib.Core.List.{List, [], ◌∷◌}
use Prim.Native.Nat.{ℕ, ◌≤◌}
use native.Mathlib.Omega.{arith}
use lib.IntN.{ℤ}
use lib.ListN.{length}
use Rattle.text_forms.specs.Writing.{Put}
use Rattle.sheet_texts.specs.Parts.{enough, Front}
use Rattle.base_model.specs.Answers.{said_of}
use Rattle.base_model.specs.declared.Refusal.{Refusal}
use Rattle.base_model.specs.declared.Bounds.{Bounds}
use Rattle.base_model.specs.Allow.{Allow}
use Rattle.std.specs.Prelude.{None, Some}
use Rattle.base_model.specs.declared.Query.{Query}
use Rattle.rule_calls.specs.Areas.{Work}
use Rattle.rule_calls.specs.Calls.{Prepared, prepare_call, begin_call}
use Rattle.sheet_texts.specs.Texts.{refusal_text}
use Rattle.sheet_form.specs.Sheets.{Sheet}
use Rattle.sheet_rule.specs.Drive.{bounds_of, allowed_by, query_of, preparation_of, no_bytes, no_work, no_store, step_text, search_text, allow_text, drive_text}
use Rattle.sheet_allowed.specs.declared.FlatSheet.{FlatSheet}
use Rattle.sheet_allowed.specs.Inner.{FlatAs, asked_of}
use Rattle.sheet_allowed.proofs.Given.{given_of, prepared_for, searched, fronts, refuses_front}

unfoldable bounds_in : Allow → Bounds
bounds_in None = bounds_of []
bounds_in (Some b) = b

module _ (table : List ℤ) (s : Sheet) (f : FlatSheet) (h : FlatAs s f) where
  -- ---- the mover to block
  block_same : (p : Prepared) → prepare_call table (asked_of f f.query.block) no_bytes no_work ≡ p → prepare_call table (preparation_of s s.block) no_bytes no_work ≡ p
  unfolding query_of
  block_same p ep = ap (λ q. prepare_call table q no_bytes no_work) (sym (prepared_for s f h f.query.block s.block (ap (λ (q : Query). q.block) h.query_is))) ∙ ep

  -- whether there is an allowed mover
  pub nobody_searched : f.query.allow ≡ None → (block_base : List ℕ) (work : Work) → allow_text table s s.allow block_base work ≡ search_text table s block_base no_bytes work
  unfolding query_of allowed_by allow_text
  nobody_searched e block_base work = go s.allow (sym (ap (λ (q : Query). q.allow) h.query_is) ∙ e)
    where
      go : (l : List (List ℕ)) → allowed_by l ≡ None → allow_text table s l block_base work ≡ search_text table s block_base no_bytes work
      go [] q = refl
      go (m ∷ ms) q = absurd (let z : ◌≡◌ {A = ℕ} 0 1 = cc in let w : ⊥ = omega arith in w)

  -- ---- the text in front of the area
  module _ (base : List ℕ) (work' : Work) (before out : List ℕ) (n : ℕ) where
    pub drive_refused : (x : Refusal) → prepare_call table (asked_of f f.query.block) no_bytes no_work ≡ record { answer = some (said_of x); baseline = base; work = work' }
        → enough ≤ length before → Put (refusal_text (said_of x)) before 0 out n → Front (drive_text table s) before out n
    unfolding drive_text
    drive_refused x ep room k =
        refuses_front x (drive_text table s) before out n room (rw (drive_text, block_same (record { answer = some (said_of x); baseline = base; work = work' }) ep)) k

    module _ (ep : prepare_call table (asked_of f f.query.block) no_bytes no_work ≡ record { answer = none; baseline = base; work = work' }) where
      passed : drive_text table s ≡ allow_text table s s.allow base work'
      unfolding drive_text
      passed =
          let same = block_same (record { answer = none; baseline = base; work = work' }) ep in
          rw (drive_text, same) (ap (λ (x : Prepared). allow_text table s s.allow x.baseline x.work) same)

      pub drive_nobody : f.query.allow ≡ None
          → Front (step_text table (given_of f base no_bytes) f.limits (begin_call table (given_of f base no_bytes) f.limits work' no_store)) before out n
          → Front (drive_text table s) before out n
      drive_nobody w k = fronts _ _ before out n (passed ∙ nobody_searched w base work' ∙ searched s f h table base no_bytes work') k

      pub drive_allowed : (b : Bounds) → f.query.allow ≡ Some b
          → ((m : List ℕ) (ms : List (List ℕ)) → b ≡ bounds_of m → Front (allow_text table s (m ∷ ms) base work') before out n) → Front (drive_text table s) before out n
      unfolding query_of allowed_by bounds_in
      drive_allowed b w k = fronts _ _ before out n passed (go s.allow (sym (ap (λ (q : Query). q.allow) h.query_is) ∙ w))
        where
          go : (l : List (List ℕ)) → allowed_by l ≡ Some b → Front (allow_text table s l base work') before out n
          go [] z = absurd (let y : ◌≡◌ {A = ℕ} 0 1 = cc in let no : ⊥ = omega arith in no)
          go (m ∷ ms) z = k m ms (sym (ap bounds_in z))
