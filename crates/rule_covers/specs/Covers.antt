-- Cover counts: a baseline holds a count for each centre, and the centre is blocked where it is not zero. What covering with a rectangle and lifting it off
-- change, and what the two calls turn away (RULES 12.1, 12.2, 12.3, 12.4).
use Rattle.std.specs.Prelude.{ℕ, ◌+◌, ◌-◌, Bool, not, cond, ◌||◌, List, [], ◌∷◌, leb, ltb, length, get_or}
use Rattle.std.proofs.Math.Option.{Option, none, some}
use Rattle.base_laws.specs.Lists.{all_of, below}
use Rattle.base_laws.specs.Fill.{filled}
use Rattle.base_model.specs.Answers.{Said, ask, first}
use Rattle.base_model.specs.declared.Rect.{Rect}
use Rattle.base_model.specs.declared.Bounds.{Bounds}
use Rattle.ground_rects.specs.Rects.{nonempty, keeps_off, small}
use Rattle.ground_rects.specs.Windows.{centres, window_fits, pixel_x, pixel_y}

-- ---- a count
-- a cover adds 1 and may not pass 255; a lift takes 1 away and may not pass zero
unfoldable pub one_more : ℕ → ℕ
one_more n = n + 1

unfoldable pub may_rise : ℕ → Bool
may_rise n = ltb n 255

unfoldable pub one_less : ℕ → ℕ
one_less n = n - 1

unfoldable pub may_fall : ℕ → Bool
may_fall n = ltb 0 n

-- what a call leaves: its answer and the baseline
pub record AfterChange : Type 0 where
  pub answer : Option Said
  pub baseline : List ℕ

-- ---- a rectangle over the window, for a mover
module _ (w : Rect) (m : Bounds) (r : Rect) where
  -- the rectangle keeps the mover off centre c
  unfoldable pub off_centre : ℕ → Bool
  off_centre c = keeps_off r m (pixel_x w c) (pixel_y w c)

  -- the change at exactly these centres: every other count is as it was, and so is what lies past the centres
  unfoldable pub changed : (ℕ → ℕ) → List ℕ → List ℕ
  changed change counts = filled (λ (c : ℕ). cond (off_centre c) (change (get_or counts c 0)) (get_or counts c 0)) (centres w) counts

  -- passes 20: the count of each of these centres may change so
  unfoldable pub may_change : (ℕ → Bool) → List ℕ → Bool
  may_change may counts = all_of (λ (c : ℕ). not (off_centre c) || may (get_or counts c 0)) (below (centres w))

  -- 2 (the map here is 8,192 square), 4 and 6 as begin; 15 for an empty rectangle; 20 for a count that would pass its bound
  unfoldable pub change_checks : (ℕ → Bool) → List ℕ → List (Option Said)
  change_checks may counts =
      ask 2 (window_fits 8192 8192 w)
      ∷ ask 4 (small m)
      ∷ ask 6 (leb (centres w) (length counts))
      ∷ ask 15 (nonempty r)
      ∷ ask 20 (may_change may counts)
      ∷ []

  -- a refusal writes nothing
  unfoldable pub change_call : (ℕ → Bool) → (ℕ → ℕ) → List ℕ → AfterChange
  change_call may change counts =
      elim (first (change_checks may counts)) [
        | some e ↦ record { answer = some e; baseline = counts }
        | none ↦ record { answer = none; baseline = changed change counts }
      ]

  -- ---- the calls
  unfoldable pub cover_call : List ℕ → AfterChange
  cover_call counts = change_call may_rise one_more counts

  unfoldable pub lift_call : List ℕ → AfterChange
  lift_call counts = change_call may_fall one_less counts
