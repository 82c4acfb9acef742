-- What a change of counts comes to: its refusal by the first check that fails, and the baseline that a changed span makes.
use Prim.Native.Nat.{ℕ, suc, ◌*◌, ◌/◌, ◌%◌, ◌≤◌, ◌<◌}
use mathlib.Core.Path.{◌≡◌, sym, ap, ◌∙◌}
use mathlib.Core.Bool.{Bool, true, false, cond, ◌&&◌, true≢false}
use mathlib.Core.Option.{none, some}
use mathlib.Core.List.{List}
use native.Mathlib.Nat.{mod-lt, div-add-mod', mul_comm, mul-le-mul_right}
use native.Mathlib.Omega.{arith}
use lib.Dec.{leb, ltb}
use lib.ListN.{length, get_or}
use lib.Seq.{ext_get_or}
use borrow.Author.Tests.{ltb-true, ltb-false, le-leb, lt-leb}
use Rattle.base_laws.proofs.Members.{either, both}
use Rattle.base_model.specs.Answers.{refusal, ask, first}
use Rattle.base_model.specs.declared.Rect.{Rect}
use Rattle.base_model.specs.declared.Bounds.{Bounds}
use Rattle.ground_rects.specs.declared.Span.{Span}
use Rattle.ground_rects.specs.Rects.{nonempty, small}
use Rattle.ground_rects.specs.Windows.{width, height, centres, window_fits}
use Rattle.ground_rects.specs.Spans.{in_span, Clipped}
use Rattle.ground_rects.proofs.Windows.{width_some, framed}
use Rattle.ground_spans.specs.Changes.{SpanFits, SpanAllows, SpanHas, SpanChanged}
use Rattle.rule_covers.specs.Covers.{off_centre, changed, may_change, change_checks, change_call}
use Rattle.rule_covers.proofs.Changes.{changed_length, changed_at, changed_past, may_found, may_when}

module _ (w : Rect) (m : Bounds) (r : Rect) (may : ℕ → Bool) (change : ℕ → ℕ) (counts : List ℕ) where
  -- a refusal, and the baseline as it was
  abbrev pub Refuses : ℕ → Type 0
  Refuses n = change_call w m r may change counts ≡ record { answer = some (refusal n); baseline = counts }

  pub window_refused : window_fits 8192 8192 w ≡ false → Refuses 2
  unfolding change_call change_checks ask first
  window_refused h = rw (change_call, change_checks, h)

  module _ (h : window_fits 8192 8192 w ≡ true) where
    pub mover_refused : small m ≡ false → Refuses 4
    unfolding change_call change_checks ask first
    mover_refused i = rw (change_call, change_checks, h, i)

    module _ (i : small m ≡ true) where
      pub room_refused : length counts < centres w → Refuses 6
      unfolding change_call change_checks ask first
      room_refused j = rw (change_call, change_checks, h, i, lt-leb (centres w) (length counts) j)

      module _ (j : centres w ≤ length counts) where
        pub rectangle_refused : nonempty r ≡ false → Refuses 15
        unfolding change_call change_checks ask first
        rectangle_refused k = rw (change_call, change_checks, h, i, le-leb (centres w) (length counts) j, k)

        module _ (k : nonempty r ≡ true) where
          pub count_refused : may_change w m r may counts ≡ false → Refuses 20
          unfolding change_call change_checks ask first
          count_refused l = rw (change_call, change_checks, h, i, le-leb (centres w) (length counts) j, k, l)

          pub change_made : may_change w m r may counts ≡ true → (counts' : List ℕ) → counts' ≡ changed w m r change counts
              → change_call w m r may change counts ≡ record { answer = none; baseline = counts' }
          unfolding change_call change_checks ask first
          change_made l counts' e = rw (change_call, change_checks, h, i, le-leb (centres w) (length counts) j, k, l, e)

-- ---- the span that the rectangle is clipped to
module _ (w : Rect) (m : Bounds) (r : Rect) (counts : List ℕ) (h : window_fits 8192 8192 w ≡ true) (room : centres w ≤ length counts) (W : ℕ) (e : W ≡ width w) (s : Span)
    (k : Clipped r w m s) where
  pub span_fits : SpanFits W s counts
  unfolding centres
  span_fits = record {
    some = rw e (width_some w (framed 8192 8192 w h).filled);
    right = rw e k.right;
    bottom = rw e (omega (arith, mul-le-mul_right (width w) k.bottom, mul_comm (width w) (height w), room));
  }

  -- its centres are those off which the rectangle keeps the mover
  in_window : (c : ℕ) → in_span s (c % W) (c / W) ≡ true → c < centres w
  unfolding in_span centres
  in_window c i =
      let a = both (leb s.left (c % W) && ltb (c % W) s.right) (leb s.top (c / W) && ltb (c / W) s.bottom) i in
      let b = ltb-true (c / W) s.bottom (both (leb s.top (c / W)) (ltb (c / W) s.bottom) a.1).1 in
      let below_height : suc (c / W) ≤ height w = omega (arith, b, k.bottom) in
      omega (arith, div-add-mod' c W, mod-lt c span_fits.some, mul-le-mul_right W below_height, ap (λ (x : ℕ). height w * x) e, mul_comm (width w) (height w))

  off_is : (c : ℕ) → c < centres w → in_span s (c % W) (c / W) ≡ off_centre w m r c
  unfolding off_centre
  off_is c l = rw e (k.law c l)

  pub may_change_lem : (may : ℕ → Bool) → SpanAllows may W s counts → may_change w m r may counts ≡ true
  may_change_lem may a = may_when w m r may counts (λ c l o. a.each c (off_is c l ∙ o))

  pub may_not_change : (may : ℕ → Bool) → SpanHas may W s counts → may_change w m r may counts ≡ false
  may_not_change may a =
      let l = in_window a.at a.inside in
      either (may_change w m r may counts)
      (λ t. absurd (true≢false (sym (may_found w m r may counts t a.at l (sym (off_is a.at l) ∙ a.inside)) ∙ a.fails)))
      (λ t. t)

  pub is_changed : (change : ℕ → ℕ) (counts' : List ℕ) → SpanChanged change W s counts counts' → counts' ≡ changed w m r change counts
  is_changed change counts' t =
      ext_get_or 0 counts' (changed w m r change counts) (t.size ∙ sym (changed_length w m r change counts room))
      (λ c l.
      t.at c
      ∙ either (ltb c (centres w))
      (λ b.
      let i = ltb-true c (centres w) b in
      ap (λ (o : Bool). cond o (change (get_or counts c 0)) (get_or counts c 0)) (off_is c i) ∙ sym (changed_at w m r change counts c i))
      (λ b.
      let i = ltb-false c (centres w) b in
      ap (λ (o : Bool). cond o (change (get_or counts c 0)) (get_or counts c 0)) (outside c i) ∙ sym (changed_past w m r change counts c (omega arith))))
    where
      outside : (c : ℕ) → (centres w ≤ c) → in_span s (c % W) (c / W) ≡ false
      outside c i = either (in_span s (c % W) (c / W)) (λ o. absurd (omega (arith, in_window c o))) (λ o. o)
