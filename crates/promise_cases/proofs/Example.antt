-- A search begun, stepped in portions, refused in between and read, and its return drive, computed by the checker: the claim is about searches that exist.
use Prim.Native.Nat.{ℕ}
use mathlib.Core.Path.{◌≡◌, refl, sym}
use mathlib.Core.Logic.{◌↔◌}
use mathlib.Core.Option.{Option, none, some, none-ne-some}
use mathlib.Core.List.{List, [], ◌∷◌, map}
use Rattle.base_laws.specs.Lists.{below}
use Rattle.base_model.specs.Answers.{Said, refusal}
use Rattle.std.specs.Prelude.{Some}
use Rattle.base_model.specs.declared.Limits.{Limits}
use Rattle.rule_routes.specs.Edges.{original_steps}
use Rattle.rule_routes.proofs.Cases.{diagonals_first}
use Rattle.rule_layouts.specs.Inputs.{Inputs, exchanged}
use Rattle.rule_calls.specs.Calls.{begin_call, read_call}
use Rattle.rule_calls.proofs.Computing.{computing}
use Rattle.rule_calls.proofs.Drive.{at, box, bounds, plain, limits, work_for, store_for, still0, on_open_cell, inputs_of, driving}
use Rattle.promise.specs.Promise.{
  Call,
  stepping,
  reading,
  inputs_in,
  limits_in,
  HasTable,
  Held,
  leaves,
  layout_at,
  Listed,
  HasExhausted,
  SameList,
  answer_to,
  after,
  run,
  Along,
  Faithful,
  Search,
  begins,
  ends,
  Promise,
}
use Rattle.promise.proofs.Kept.{promise}

-- The blocked mover reaches one pixel up, so that either place shuts it out of both rows left to it; the allowed mover gets by in the last row.
unfoldable pub gap : Inputs
gap = inputs_of (on_open_cell (box 0 0 5 3) (at 0 1) (at 4 1) (bounds 0 1 0 0) (Some still0) (limits 10 4) (1 ∷ [])
    (plain (box 2 0 3 2) ∷ plain (box 1 0 2 2) ∷ []))

-- another search's inputs: no places
unfoldable pub other : Inputs
other = inputs_of (on_open_cell (box 0 0 5 3) (at 0 1) (at 4 1) still0 (Some still0) (limits 10 4) [] [])

-- one search's own step and reading
unfoldable pub step_by : Inputs → Limits → ℕ → Call
step_by j l n = stepping original_steps j l n (work_for (box 0 0 5 3))

unfoldable pub begin_on : Inputs → Limits → Held
begin_on j l = leaves (begin_call original_steps j l (work_for (box 0 0 5 3)) (store_for j l))

-- ---- what the calls of a list say
pub data Told : Type 0 where
  refused : Said → Told
  stands : (reason evaluations layouts : ℕ) → Told
  reads : List ℕ → Told

unfoldable pub told : Held → Call → Option Said → Told
told h c (some r) = refused r
told h (stepping table j m n work) none = let t : Held = after h (stepping table j m n work) in stands t.rec.reason t.rec.evaluations t.rec.layouts
told h (reading j m k) none = reads (read_call j m h.rec k h.store).points

unfoldable pub tells : Held → List Call → List Told
tells h [] = []
tells h (c ∷ cs) = told h c (answer_to h c) ∷ tells (after h c) cs

unfoldable pub without : ℕ → Told
without n = refused (refusal n)

unfoldable pub listing : Held → List (List ℕ)
listing h = map (layout_at h) (below h.rec.layouts)

-- a name under which all of this unfolds
unfoldable pub promising : ℕ
unfolding computing driving exchanged inputs_in limits_in HasTable leaves layout_at HasExhausted answer_to after run Along
    Faithful begins ends gap other step_by begin_on told tells
    without listing
promising = 0

-- ---- out: a reading before anything is listed, a step without a table, one on another search's inputs, a reading with limits past 32
unfoldable l : Limits
l = limits 10 4

unfoldable out_calls : List Call
out_calls =
    step_by gap l 1 ∷ reading gap l 0 ∷ stepping [] gap l 1 (work_for (box 0 0 5 3)) ∷ step_by other l 1 ∷ step_by gap l 1 ∷ reading gap l 0 ∷ reading gap (limits 10 33) 0 ∷ step_by gap l 7
    ∷ reading gap l 1 ∷ []

out_told : tells (begin_on gap l) out_calls
    ≡ stands 1 1 0 ∷ without 17 ∷ without 19 ∷ without 16 ∷ stands 1 2 1 ∷ reads (0 ∷ 1 ∷ 1 ∷ 2 ∷ 2 ∷ 2 ∷ 3 ∷ 2 ∷ 4 ∷ 1 ∷ []) ∷ without 12 ∷ stands 2 3 2
    ∷ reads (0 ∷ 1 ∷ 0 ∷ 2 ∷ 1 ∷ 2 ∷ 2 ∷ 2 ∷ 3 ∷ 2 ∷ 4 ∷ 1 ∷ []) ∷ []
unfolding promising l out_calls
out_told = refl

unfoldable out : Search original_steps gap l
unfolding promising l out_calls
out = record {
  work = work_for (box 0 0 5 3);
  store = store_for gap l;
  accepted = refl;
  calls = out_calls;
  faithful = (
    (λ e. (refl, refl, refl)),
    (
      (λ e. (tt, refl, refl)),
      (
        (λ e. absurd (none-ne-some (refusal 19) (sym e))),
        (
          (λ e. absurd (none-ne-some (refusal 16) (sym e))),
          (
            (λ e. (refl, refl, refl)),
            (
              (λ e. (tt, refl, refl)),
              (
                (λ e. absurd (none-ne-some (refusal 12) (sym e))),
                ((λ e. (refl, refl, refl)), ((λ e. (tt, refl, refl)), tt)),
              ),
            ),
          ),
        ),
      ),
    ),
  );
}

out_exhausted : HasExhausted (ends original_steps out)
unfolding promising l out_calls out
out_exhausted = refl

out_kept : Promise original_steps gap l out
out_kept = promise original_steps gap l out

-- ---- back: from end to start, with other limits
unfoldable m : Limits
m = limits 5 3

unfoldable back_calls : List Call
back_calls = step_by (exchanged gap) m 2 ∷ step_by gap (limits 0 3) 1 ∷ step_by (exchanged gap) m 3 ∷ reading (exchanged gap) m 0 ∷ []

back_told : tells (begin_on (exchanged gap) m) back_calls ≡ stands 1 2 1 ∷ without 11 ∷ stands 2 3 2 ∷ reads (4 ∷ 1 ∷ 3 ∷ 2 ∷ 2 ∷ 2 ∷ 1 ∷ 2 ∷ 0 ∷ 1 ∷ []) ∷ []
unfolding promising m back_calls
back_told = refl

unfoldable back : Search original_steps (exchanged gap) m
unfolding promising m back_calls
back = record {
  work = work_for (box 0 0 5 3);
  store = store_for (exchanged gap) m;
  accepted = refl;
  calls = back_calls;
  faithful = ((λ e. (refl, refl, refl)), ((λ e. absurd (none-ne-some (refusal 11) (sym e))), ((λ e. (refl, refl, refl)), ((λ e. (tt, refl, refl)), tt))));
}

back_exhausted : HasExhausted (ends original_steps back)
unfolding promising m back_calls back
back_exhausted = refl

-- both list (0) and (1)
listings : (listing (ends original_steps out) ≡ (0 ∷ []) ∷ (1 ∷ []) ∷ []) × (listing (ends original_steps back) ≡ (0 ∷ []) ∷ (1 ∷ []) ∷ [])
unfolding promising l m out_calls back_calls out back
listings = (refl, refl)

same_listed : (set : List ℕ) → Listed (ends original_steps out) set ↔ Listed (ends original_steps back) set
same_listed = (out_kept.return original_steps m back out_exhausted back_exhausted).sets

-- ---- out by another table: the same walls, and another route past the second
unfoldable slant : Search diagonals_first gap m
unfolding promising m diagonals_first
slant = record {
  work = work_for (box 0 0 5 3);
  store = store_for gap m;
  accepted = refl;
  calls = stepping diagonals_first gap m 4 (work_for (box 0 0 5 3)) ∷ reading gap m 1 ∷ [];
  faithful = ((λ e. (refl, refl, refl)), ((λ e. (tt, refl, refl)), tt));
}

slant_exhausted : HasExhausted (ends diagonals_first slant)
unfolding promising m diagonals_first slant
slant_exhausted = refl

slant_told : tells (begins diagonals_first slant) slant.calls ≡ stands 2 3 2 ∷ reads (0 ∷ 1 ∷ 0 ∷ 2 ∷ 1 ∷ 2 ∷ 2 ∷ 2 ∷ 3 ∷ 1 ∷ 4 ∷ 1 ∷ []) ∷ []
unfolding promising m diagonals_first slant
slant_told = refl

same_by_both : SameList (ends original_steps out) (ends diagonals_first slant)
same_by_both = out_kept.orders diagonals_first m slant out_exhausted slant_exhausted
