-- A change and the change that undoes it: the second is accepted after the first and restores every count, since a count that was let change may change back.
-- A cover and its lift, and a lift and its cover.
use Prim.Native.Nat.{ℕ, ◌≤◌, ◌<◌}
use mathlib.Core.Path.{◌≡◌, refl, ap, ◌∙◌}
use mathlib.Core.Bool.{Bool, true, false, cond}
use mathlib.Core.Option.{none}
use mathlib.Core.List.{List}
use native.Mathlib.Omega.{arith}
use lib.ListN.{length, get_or}
use borrow.Author.Tests.{ltb-true, lt-ltb}
use Rattle.base_laws.proofs.Fill.{filled_same, filled_again, filled_own}
use Rattle.base_model.specs.declared.Rect.{Rect}
use Rattle.base_model.specs.declared.Bounds.{Bounds}
use Rattle.ground_rects.specs.Windows.{centres}
use Rattle.rule_covers.specs.Covers.{one_more, may_rise, one_less, may_fall, off_centre, changed, change_call, cover_call, lift_call}
use Rattle.rule_covers.specs.Sessions.{CoverThenLift, LiftThenCover}
use Rattle.rule_covers.proofs.Changes.{changed_length, changed_at, may_found, may_when, accepted_found, accepted_leaves, accepted_when}

-- ---- two changes that undo each other
module _ (may may_back : ℕ → Bool) (there back : ℕ → ℕ) where
  -- a count that may change may change back, and is then as it was
  pub record Undone (n : ℕ) : Type 0 where
    pub allowed : may_back (there n) ≡ true
    pub returns : back (there n) ≡ n

  back_at : (off : Bool) (n now : ℕ) → now ≡ cond off (there n) n → (off ≡ true → back (there n) ≡ n) → cond off (back now) now ≡ n
  back_at true n now e k = ap back e ∙ k refl
  back_at false n now e k = e

  module _ (w : Rect) (m : Bounds) (r : Rect) (counts : List ℕ) (undo : (c : ℕ) → may (get_or counts c 0) ≡ true → Undone (get_or counts c 0)) where
    abbrev middle : List ℕ
    middle = changed w m r there counts

    restored : centres w ≤ length counts → ((c : ℕ) → c < centres w → off_centre w m r c ≡ true → Undone (get_or counts c 0)) → changed w m r back middle ≡ counts
    unfolding changed
    restored room k =
        filled_again (λ (c : ℕ). cond (off_centre w m r c) (there (get_or counts c 0)) (get_or counts c 0)) (centres w) counts
        (λ (c : ℕ). cond (off_centre w m r c) (back (get_or middle c 0)) (get_or middle c 0))
        ∙ filled_same (λ (c : ℕ). cond (off_centre w m r c) (back (get_or middle c 0)) (get_or middle c 0)) (λ (c : ℕ). get_or counts c 0) (centres w) counts
        (λ c h. back_at (off_centre w m r c) (get_or counts c 0) (get_or middle c 0) (changed_at w m r there counts c h) (λ off. (k c h off).returns))
        ∙ filled_own (centres w) counts 0 room

    pub undone : (change_call w m r may there counts).answer ≡ none
        → change_call w m r may_back back (change_call w m r may there counts).baseline ≡ record { answer = none; baseline = counts }
    undone e =
        let p = accepted_found w m r may counts there e in
        let k : (c : ℕ) → c < centres w → off_centre w m r c ≡ true → Undone (get_or counts c 0) = λ c h off. undo c (may_found w m r may counts p.within c h off) in
        ap (change_call w m r may_back back) (accepted_leaves w m r may counts there e)
        ∙ accepted_when w m r may_back middle back (record {
          window = p.window;
          mover = p.mover;
          room = omega (arith, p.room, changed_length w m r there counts p.room);
          rectangle = p.rectangle;
          within = may_when w m r may_back middle (λ c h off.
              ap may_back (changed_at w m r there counts c h ∙ ap (λ (t : Bool). cond t (there (get_or counts c 0)) (get_or counts c 0)) off) ∙ (k c h off).allowed);
        })
        ∙ ap (λ (l : List ℕ). record { answer = none; baseline = l }) (restored p.room k)

-- ---- a cover and its lift
pub cover_then_lift : CoverThenLift
unfolding CoverThenLift cover_call lift_call may_rise may_fall one_more one_less
cover_then_lift w m r counts e =
    undone may_rise may_fall one_more one_less w m r counts
    (λ c h. record { allowed = lt-ltb 0 (one_more (get_or counts c 0)) (omega arith); returns = omega arith }) e

pub lift_then_cover : LiftThenCover
unfolding LiftThenCover cover_call lift_call may_rise may_fall one_more one_less
lift_then_cover w m r counts bytes e =
    undone may_fall may_rise one_less one_more w m r counts
    (λ c h. let above = ltb-true 0 (get_or counts c 0) h in record { allowed = lt-ltb (one_less (get_or counts c 0)) 255 (omega (arith, bytes c)); returns = omega arith }) e
