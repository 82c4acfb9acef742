-- Buildings that stand over a window at one moment, however their covers and lifts came about: what the baseline then is (RULES 12.6).
use Rattle.std.specs.Prelude.{ℕ, ◌+◌, ◌≤◌, ◌≡◌, Bool, true, cond, ◌&&◌, List, [], ◌∷◌, ◌++◌, length, get_or}
use Rattle.std.proofs.Math.Option.{none}
use Rattle.base_laws.specs.Lists.{all_of}
use Rattle.base_laws.specs.Fill.{filled}
use Rattle.base_model.specs.declared.Rect.{Rect}
use Rattle.ground_rects.specs.Rects.{nonempty, small}
use Rattle.ground_rects.specs.Windows.{centres, window_fits}
use Rattle.rule_covers.specs.Covers.{AfterChange, off_centre}
use Rattle.rule_covers.specs.Sessions.{Building, cover_one, lift_one}

-- the mover passes 4, the rectangle 15
unfoldable pub buildable : Building → Bool
buildable b = small b.mover && nonempty b.rectangle

module _ (w : Rect) where
  -- how many of the buildings keep their mover off centre c
  unfoldable pub hits : List Building → ℕ → ℕ
  hits [] c = 0
  hits (b ∷ bs) c = cond (off_centre w b.mover b.rectangle c) 1 0 + hits bs c

  -- the baseline with each of them counted
  unfoldable pub counted : List Building → List ℕ → List ℕ
  counted bs counts = filled (λ (c : ℕ). get_or counts c 0 + hits bs c) (centres w) counts

  -- the buildings stand over a baseline that was `counts` without them, and is now `now`
  pub record Standing (counts : List ℕ) (bs : List Building) (now : List ℕ) : Type 0 where
    pub window : window_fits 8192 8192 w ≡ true
    pub room : centres w ≤ length counts
    pub each : all_of buildable bs ≡ true
    pub holds : now ≡ counted bs counts

-- ---- covers and lifts mixed
pub data Move : Type 0 where
  covers : Building → Move
  lifts : Building → Move

-- the buildings that stand before the moves, and those that stand after them, where each lift is of one that stands
pub data Moves : List Building → List Move → List Building → Type 0 where
  done : {bs : List Building} → Moves bs [] bs
  covered : {b : Building} {bs later : List Building} {ms : List Move} → Moves (b ∷ bs) ms later → Moves bs (covers b ∷ ms) later
  lifted : {b : Building} {later : List Building} {ms : List Move} (before behind : List Building) → Moves (before ++ behind) ms later
      → Moves (before ++ b ∷ behind) (lifts b ∷ ms) later

module _ (w : Rect) where
  unfoldable pub move : Move → List ℕ → AfterChange
  move (covers b) counts = cover_one w b counts
  move (lifts b) counts = lift_one w b counts

  -- the baseline that the last one leaves
  unfoldable pub moved : List Move → List ℕ → List ℕ
  moved [] counts = counts
  moved (m ∷ ms) counts = moved ms (move m counts).baseline

  -- no cover of them is refused; no lift is
  unfoldable pub CoversAccepted : List Move → List ℕ → Type 0
  CoversAccepted [] counts = Unit {0}
  CoversAccepted (covers b ∷ ms) counts = ((cover_one w b counts).answer ≡ none) × CoversAccepted ms (cover_one w b counts).baseline
  CoversAccepted (lifts b ∷ ms) counts = CoversAccepted ms (lift_one w b counts).baseline

  unfoldable pub LiftsAccepted : List Move → List ℕ → Type 0
  LiftsAccepted [] counts = Unit {0}
  LiftsAccepted (covers b ∷ ms) counts = LiftsAccepted ms (cover_one w b counts).baseline
  LiftsAccepted (lifts b ∷ ms) counts = ((lift_one w b counts).answer ≡ none) × LiftsAccepted ms (lift_one w b counts).baseline

  -- where covers alone can be refused, and none is: each lift is accepted, and each count is what it was plus the standing buildings that reach it
  unfoldable pub Mixed : Type 0
  Mixed =
      (counts : List ℕ) (ms : List Move) (standing : List Building) → window_fits 8192 8192 w ≡ true → centres w ≤ length counts → Moves [] ms standing
      → CoversAccepted ms counts → LiftsAccepted ms counts × (moved ms counts ≡ counted w standing counts)
