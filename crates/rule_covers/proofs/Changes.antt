-- One change of a baseline, whether a cover or a lift: what it leaves at each place, what its acceptance finds, and that a refusal leaves all as it was.
use Prim.Native.Nat.{ℕ, ◌≤◌, ◌<◌}
use mathlib.Core.Path.{◌≡◌, refl, sym, ap, ◌∙◌}
use mathlib.Core.Bool.{Bool, true, false, not, cond, ◌||◌, false≢true}
use mathlib.Core.Option.{Option, none, some}
use mathlib.Core.List.{List, []}
use lib.Dec.{leb}
use lib.ListN.{length, get_or}
use borrow.Author.Tests.{leb-true, le-leb}
use Rattle.base_laws.specs.Lists.{below}
use Rattle.base_laws.proofs.Members.{all_member, all_true, below_in}
use Rattle.base_laws.proofs.Lists.{below_out}
use Rattle.base_model.specs.Answers.{Said, first}
use Rattle.base_model.proofs.Asking.{ask_passes, first_passes, first_holds}
use Rattle.base_model.specs.declared.Rect.{Rect}
use Rattle.base_model.specs.declared.Bounds.{Bounds}
use Rattle.ground_rects.specs.Rects.{nonempty, small}
use Rattle.ground_rects.specs.Windows.{centres, window_fits}
use Rattle.rule_covers.specs.Covers.{AfterChange, off_centre, changed, may_change, change_checks, change_call}
use Rattle.base_laws.proofs.Fill.{filled_length, filled_at, filled_past}

-- ---- a test that is asked only where another holds
implied : (a b : Bool) → (not a || b) ≡ true → a ≡ true → b ≡ true
implied true b e h = e
implied false b e h = absurd (false≢true h)

implies : (a b : Bool) → (a ≡ true → b ≡ true) → (not a || b) ≡ true
implies true b h = h refl
implies false b h = refl

none_fails : first [] ≡ none
unfolding first
none_fails = refl

module _ (w : Rect) (m : Bounds) (r : Rect) where
  -- ---- what is left
  module _ (change : ℕ → ℕ) (counts : List ℕ) where
    abbrev count_then : ℕ → ℕ
    count_then c = cond (off_centre w m r c) (change (get_or counts c 0)) (get_or counts c 0)

    pub changed_length : centres w ≤ length counts → length (changed w m r change counts) ≡ length counts
    unfolding changed
    changed_length room = filled_length count_then (centres w) counts room

    pub changed_at : (c : ℕ) → c < centres w → get_or (changed w m r change counts) c 0 ≡ cond (off_centre w m r c) (change (get_or counts c 0)) (get_or counts c 0)
    unfolding changed
    changed_at c h = filled_at count_then (centres w) counts c 0 h

    pub changed_past : (c : ℕ) → centres w ≤ c → get_or (changed w m r change counts) c 0 ≡ get_or counts c 0
    unfolding changed
    changed_past c h = filled_past count_then (centres w) counts c 0 h

  module _ (may : ℕ → Bool) (counts : List ℕ) where
    -- ---- 20, centre by centre
    pub may_found : may_change w m r may counts ≡ true → (c : ℕ) → c < centres w → off_centre w m r c ≡ true → may (get_or counts c 0) ≡ true
    unfolding may_change
    may_found e c h off =
        implied (off_centre w m r c) (may (get_or counts c 0))
        (all_member (λ (i : ℕ). not (off_centre w m r i) || may (get_or counts i 0)) (below (centres w)) e c (below_in (centres w) c h)) off

    pub may_when : ((c : ℕ) → c < centres w → off_centre w m r c ≡ true → may (get_or counts c 0) ≡ true) → may_change w m r may counts ≡ true
    unfolding may_change
    may_when k =
        all_true (λ (i : ℕ). not (off_centre w m r i) || may (get_or counts i 0)) (below (centres w))
        (λ c i. implies (off_centre w m r c) (may (get_or counts c 0)) (k c (below_out (centres w) c i)))

    -- ---- the checks
    pub record Passed : Type 0 where
      pub window : window_fits 8192 8192 w ≡ true
      pub mover : small m ≡ true
      pub room : centres w ≤ length counts
      pub rectangle : nonempty r ≡ true
      pub within : may_change w m r may counts ≡ true

    checks_found : first (change_checks w m r may counts) ≡ none → Passed
    unfolding change_checks
    checks_found e =
        let a = first_passes _ _ e in
        let b = first_passes _ _ a.1 in
        let c = first_passes _ _ b.1 in
        let d = first_passes _ _ c.1 in
        record {
          window = ask_passes 2 (window_fits 8192 8192 w) a.0;
          mover = ask_passes 4 (small m) b.0;
          room = leb-true (centres w) (length counts) (ask_passes 6 (leb (centres w) (length counts)) c.0);
          rectangle = ask_passes 15 (nonempty r) d.0;
          within = ask_passes 20 (may_change w m r may counts) (first_passes _ _ d.1).0;
        }

    checks_when : Passed → first (change_checks w m r may counts) ≡ none
    unfolding change_checks
    checks_when p =
        first_holds 2 (window_fits 8192 8192 w) _ p.window
        ∙ first_holds 4 (small m) _ p.mover
        ∙ first_holds 6 (leb (centres w) (length counts)) _ (le-leb (centres w) (length counts) p.room)
        ∙ first_holds 15 (nonempty r) _ p.rectangle
        ∙ first_holds 20 (may_change w m r may counts) [] p.within
        ∙ none_fails

    -- ---- the call
    module _ (change : ℕ → ℕ) where
      passes : first (change_checks w m r may counts) ≡ none → change_call w m r may change counts ≡ record { answer = none; baseline = changed w m r change counts }
      unfolding change_call
      passes e = rw (change_call, e)

      stops : (s : Said) → first (change_checks w m r may counts) ≡ some s → change_call w m r may change counts ≡ record { answer = some s; baseline = counts }
      unfolding change_call
      stops s e = rw (change_call, e)

      -- the answer is what the checks say
      said_by : (o : Option Said) → first (change_checks w m r may counts) ≡ o → (change_call w m r may change counts).answer ≡ o
      said_by none e = ap (λ (l : AfterChange). l.answer) (passes e)
      said_by (some s) e = ap (λ (l : AfterChange). l.answer) (stops s e)

      asked : {o : Option Said} → (change_call w m r may change counts).answer ≡ o → first (change_checks w m r may counts) ≡ o
      asked e = sym (said_by (first (change_checks w m r may counts)) refl) ∙ e

      pub accepted_found : (change_call w m r may change counts).answer ≡ none → Passed
      accepted_found e = checks_found (asked e)

      pub accepted_leaves : (change_call w m r may change counts).answer ≡ none → (change_call w m r may change counts).baseline ≡ changed w m r change counts
      accepted_leaves e = ap (λ (l : AfterChange). l.baseline) (passes (asked e))

      pub accepted_when : Passed → change_call w m r may change counts ≡ record { answer = none; baseline = changed w m r change counts }
      accepted_when p = passes (checks_when p)

      pub refused_keeps : (s : Said) → (change_call w m r may change counts).answer ≡ some s → (change_call w m r may change counts).baseline ≡ counts
      refused_keeps s e = ap (λ (l : AfterChange). l.baseline) (stops s (asked e))
