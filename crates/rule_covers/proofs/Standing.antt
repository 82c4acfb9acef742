-- The buildings that stand over a window, moment by moment: none at first; an accepted cover adds one; and whichever of them is lifted, the lift is accepted and
-- the others stand. Each count is what it was without them, plus the number of those that keep their mover off its centre.
use Prim.Native.Nat.{ℕ, ◌+◌, ◌≤◌, ◌<◌}
use mathlib.Core.Path.{◌≡◌, refl, sym, ap, ◌∙◌}
use mathlib.Core.Bool.{Bool, true, false, cond, ◌&&◌}
use mathlib.Core.Option.{none}
use mathlib.Core.List.{List, [], ◌∷◌, ◌++◌}
use native.Mathlib.Omega.{arith}
use lib.ListN.{length, get_or}
use borrow.Author.Tests.{lt-ltb}
use Rattle.base_laws.specs.Lists.{all_of}
use Rattle.base_laws.proofs.Members.{both, both_true}
use Rattle.base_laws.proofs.Fill.{filled_same, filled_length, filled_at, filled_again, filled_own}
use Rattle.base_model.specs.declared.Rect.{Rect}
use Rattle.ground_rects.specs.Rects.{nonempty, small}
use Rattle.ground_rects.specs.Windows.{centres, window_fits}
use Rattle.rule_covers.specs.Covers.{AfterChange, one_more, may_rise, one_less, may_fall, off_centre, changed, cover_call, lift_call}
use Rattle.rule_covers.specs.Sessions.{Building, cover_one, lift_one}
use Rattle.rule_covers.specs.Standing.{buildable, hits, counted, Standing}
use Rattle.rule_covers.proofs.Changes.{Passed, may_when, accepted_found, accepted_leaves, accepted_when}

-- ---- one count
one_more_lem : (off : Bool) (n others now : ℕ) → now ≡ n + others → cond off (one_more now) now ≡ n + (cond off 1 0 + others)
unfolding one_more
one_more_lem true n others now e = omega arith
one_more_lem false n others now e = omega arith

one_less_lem : (off : Bool) (n others now : ℕ) → now ≡ n + (cond off 1 0 + others) → cond off (one_less now) now ≡ n + others
unfolding one_less
one_less_lem true n others now e = omega arith
one_less_lem false n others now e = omega arith

exchanged : (a b rest : Bool) → (a && (b && rest)) ≡ (b && (a && rest))
exchanged true true rest = refl
exchanged true false rest = refl
exchanged false true rest = refl
exchanged false false rest = refl

-- a test of all, with one of them taken first
all_among : {A : Type 0} (f : A → Bool) (before behind : List A) (b : A) → all_of f (before ++ b ∷ behind) ≡ all_of f (b ∷ (before ++ behind))
unfolding all_of
all_among f [] behind b = refl
all_among f (a ∷ before) behind b = ap (λ (t : Bool). f a && t) (all_among f before behind b) ∙ exchanged (f a) (f b) (all_of f (before ++ behind))

module _ (w : Rect) where
  hits_among : (before behind : List Building) (b : Building) (c : ℕ) → hits w (before ++ b ∷ behind) c ≡ hits w (b ∷ (before ++ behind)) c
  unfolding hits
  hits_among [] behind b c = refl
  hits_among (a ∷ before) behind b c = omega (arith, hits_among before behind b c)

  module _ (counts : List ℕ) where
    -- ---- the baseline with buildings counted
    counted_at : (bs : List Building) (c : ℕ) → c < centres w → get_or (counted w bs counts) c 0 ≡ get_or counts c 0 + hits w bs c
    unfolding counted
    counted_at bs c h = filled_at (λ (i : ℕ). get_or counts i 0 + hits w bs i) (centres w) counts c 0 h

    counted_length : (bs : List Building) → centres w ≤ length counts → length (counted w bs counts) ≡ length counts
    unfolding counted
    counted_length bs room = filled_length (λ (i : ℕ). get_or counts i 0 + hits w bs i) (centres w) counts room

    counted_same : (bs cs : List Building) → ((c : ℕ) → hits w bs c ≡ hits w cs c) → counted w bs counts ≡ counted w cs counts
    unfolding counted
    counted_same bs cs e =
        filled_same (λ (i : ℕ). get_or counts i 0 + hits w bs i) (λ (i : ℕ). get_or counts i 0 + hits w cs i) (centres w) counts
        (λ c h. ap (λ (k : ℕ). get_or counts c 0 + k) (e c))

    counted_none : centres w ≤ length counts → counted w [] counts ≡ counts
    unfolding counted hits
    counted_none room =
        filled_same (λ (i : ℕ). get_or counts i 0 + hits w [] i) (λ (i : ℕ). get_or counts i 0) (centres w) counts (λ c h. omega arith)
        ∙ filled_own (centres w) counts 0 room

    -- a change of it, centre by centre
    changed_into : (change : ℕ → ℕ) (b : Building) (bs cs : List Building)
        → ((c : ℕ) → c < centres w → cond (off_centre w b.mover b.rectangle c) (change (get_or (counted w bs counts) c 0)) (get_or (counted w bs counts) c 0) ≡ get_or counts c 0 + hits w cs c)
        → changed w b.mover b.rectangle change (counted w bs counts) ≡ counted w cs counts
    unfolding changed counted
    changed_into change b bs cs e =
        let off : ℕ → Bool = off_centre w b.mover b.rectangle in
        let now : List ℕ = counted w bs counts in
        filled_again (λ (i : ℕ). get_or counts i 0 + hits w bs i) (centres w) counts (λ (c : ℕ). cond (off c) (change (get_or now c 0)) (get_or now c 0))
        ∙ filled_same (λ (c : ℕ). cond (off c) (change (get_or now c 0)) (get_or now c 0)) (λ (i : ℕ). get_or counts i 0 + hits w cs i) (centres w) counts e

    counted_more : (b : Building) (bs : List Building) → changed w b.mover b.rectangle one_more (counted w bs counts) ≡ counted w (b ∷ bs) counts
    unfolding hits
    counted_more b bs =
        changed_into one_more b bs (b ∷ bs)
        (λ c h. one_more_lem (off_centre w b.mover b.rectangle c) (get_or counts c 0) (hits w bs c) (get_or (counted w bs counts) c 0) (counted_at bs c h))

    counted_less : (b : Building) (bs : List Building) → changed w b.mover b.rectangle one_less (counted w (b ∷ bs) counts) ≡ counted w bs counts
    unfolding hits
    counted_less b bs =
        changed_into one_less b (b ∷ bs) bs
        (λ c h. one_less_lem (off_centre w b.mover b.rectangle c) (get_or counts c 0) (hits w bs c) (get_or (counted w (b ∷ bs) counts) c 0) (counted_at (b ∷ bs) c h))

    -- ---- which building comes first does not matter
    module _ (before behind : List Building) (b : Building) (now : List ℕ) where
      pub brought_forward : Standing w counts (before ++ b ∷ behind) now → Standing w counts (b ∷ (before ++ behind)) now
      brought_forward s = record {
        window = s.window;
        room = s.room;
        each = sym (all_among buildable before behind b) ∙ s.each;
        holds = s.holds ∙ counted_same (before ++ b ∷ behind) (b ∷ (before ++ behind)) (hits_among before behind b);
      }

      pub put_among : Standing w counts (b ∷ (before ++ behind)) now → Standing w counts (before ++ b ∷ behind) now
      put_among s = record {
        window = s.window;
        room = s.room;
        each = all_among buildable before behind b ∙ s.each;
        holds = s.holds ∙ counted_same (b ∷ (before ++ behind)) (before ++ b ∷ behind) (λ c. sym (hits_among before behind b c));
      }

    -- ---- moment by moment
    pub nothing_stands : window_fits 8192 8192 w ≡ true → centres w ≤ length counts → Standing w counts [] counts
    unfolding all_of
    nothing_stands fits room = record { window = fits; room = room; each = refl; holds = sym (counted_none room) }

    pub nothing_left : (now : List ℕ) → Standing w counts [] now → now ≡ counts
    nothing_left now s = s.holds ∙ counted_none s.room

    pub cover_stands : (b : Building) (bs : List Building) (now : List ℕ) → Standing w counts bs now → (cover_one w b now).answer ≡ none
        → Standing w counts (b ∷ bs) (cover_one w b now).baseline
    unfolding cover_one cover_call all_of buildable
    cover_stands b bs now s e =
        let p = accepted_found w b.mover b.rectangle may_rise now one_more e in
        record {
          window = s.window;
          room = s.room;
          each = both_true (both_true p.mover p.rectangle) s.each;
          holds =
              accepted_leaves w b.mover b.rectangle may_rise now one_more e
              ∙ ap (changed w b.mover b.rectangle one_more) s.holds
              ∙ counted_more b bs;
        }

    module _ (b : Building) (bs : List Building) (now : List ℕ) (s : Standing w counts (b ∷ bs) now) where
      buildable_both : (buildable b ≡ true) × (all_of buildable bs ≡ true)
      unfolding all_of
      buildable_both = both (buildable b) (all_of buildable bs) s.each

      -- a count that it keeps its mover off is not zero
      may_fall_lem : (c : ℕ) → c < centres w → off_centre w b.mover b.rectangle c ≡ true → may_fall (get_or now c 0) ≡ true
      unfolding may_fall hits
      may_fall_lem c h off =
          let e : get_or now c 0 ≡ get_or counts c 0 + (1 + hits w bs c) =
          ap (λ (l : List ℕ). get_or l c 0) s.holds ∙ counted_at (b ∷ bs) c h ∙ ap (λ (t : Bool). get_or counts c 0 + (cond t 1 0 + hits w bs c)) off
          in
          lt-ltb 0 (get_or now c 0) (omega arith)

      lift_passes : Passed w b.mover b.rectangle may_fall now
      unfolding buildable
      lift_passes =
          let k = both (small b.mover) (nonempty b.rectangle) buildable_both.0 in
          record {
            window = s.window;
            mover = k.0;
            room = omega (arith, s.room, ap (λ (l : List ℕ). length l) s.holds, counted_length (b ∷ bs) s.room);
            rectangle = k.1;
            within = may_when w b.mover b.rectangle may_fall now may_fall_lem;
          }

      lift_is : lift_one w b now ≡ record { answer = none; baseline = changed w b.mover b.rectangle one_less now }
      unfolding lift_one lift_call
      lift_is = accepted_when w b.mover b.rectangle may_fall now one_less lift_passes

      pub lift_first : ((lift_one w b now).answer ≡ none) × Standing w counts bs (lift_one w b now).baseline
      lift_first = (
        ap (λ (l : AfterChange). l.answer) lift_is,
        record {
          window = s.window;
          room = s.room;
          each = buildable_both.1;
          holds =
              ap (λ (l : AfterChange). l.baseline) lift_is
              ∙ ap (changed w b.mover b.rectangle one_less) s.holds
              ∙ counted_less b bs;
        },
      )

    pub lift_stands : (before behind : List Building) (b : Building) (now : List ℕ) → Standing w counts (before ++ b ∷ behind) now
        → ((lift_one w b now).answer ≡ none) × Standing w counts (before ++ behind) (lift_one w b now).baseline
    lift_stands before behind b now s = lift_first b (before ++ behind) now (brought_forward before behind b now s)
