-- Covers and lifts one after the other over one window: that one undoes the other, and several covers lifted in any order (RULES 12.5, 12.6).
use Rattle.std.specs.Prelude.{◌≡◌, List, [], ◌∷◌, ◌++◌, ℕ, ◌≤◌, get_or}
use Rattle.std.proofs.Math.Option.{none}
use Rattle.base_model.specs.declared.Rect.{Rect}
use Rattle.base_model.specs.declared.Bounds.{Bounds}
use Rattle.rule_covers.specs.Covers.{AfterChange, cover_call, lift_call}

-- ---- one undoes the other: the second call is accepted, and restores every count
unfoldable pub CoverThenLift : Type 0
CoverThenLift =
    (w : Rect) (m : Bounds) (r : Rect) (counts : List ℕ) → (cover_call w m r counts).answer ≡ none
    → lift_call w m r (cover_call w m r counts).baseline ≡ record { answer = none; baseline = counts }

-- here the counts must fit a byte, as those of a baseline do
unfoldable pub LiftThenCover : Type 0
LiftThenCover =
    (w : Rect) (m : Bounds) (r : Rect) (counts : List ℕ) → ((c : ℕ) → get_or counts c 0 ≤ 255) → (lift_call w m r counts).answer ≡ none
    → cover_call w m r (lift_call w m r counts).baseline ≡ record { answer = none; baseline = counts }

-- ---- several
-- a building as it is covered and lifted: the mover whose baseline it is, and the rectangle
pub record Building : Type 0 where
  pub mover : Bounds
  pub rectangle : Rect

-- the second list has exactly the entries of the first, each as often, in any order
pub data Reordered {A : Type 0} : List A → List A → Type 0 where
  none_left : Reordered [] []
  found : {x : A} {xs : List A} (before behind : List A) → Reordered xs (before ++ behind) → Reordered (x ∷ xs) (before ++ x ∷ behind)

-- one call for each building in turn: the baseline that the last one leaves
unfoldable pub after : (Building → List ℕ → AfterChange) → List Building → List ℕ → List ℕ
after call [] counts = counts
after call (b ∷ bs) counts = after call bs (call b counts).baseline

-- and none of them is refused
unfoldable pub Accepted : (Building → List ℕ → AfterChange) → List Building → List ℕ → Type 0
Accepted call [] counts = Unit {0}
Accepted call (b ∷ bs) counts = ((call b counts).answer ≡ none) × Accepted call bs (call b counts).baseline

module _ (w : Rect) where
  unfoldable pub cover_one : Building → List ℕ → AfterChange
  cover_one b counts = cover_call w b.mover b.rectangle counts

  unfoldable pub lift_one : Building → List ℕ → AfterChange
  lift_one b counts = lift_call w b.mover b.rectangle counts

  -- several covers, lifted in any order: each lift is accepted, and every count is restored
  unfoldable pub AnyOrder : Type 0
  AnyOrder =
      (covers lifts : List Building) (counts : List ℕ) → Reordered covers lifts → Accepted cover_one covers counts
      → Accepted lift_one lifts (after cover_one covers counts) × (after lift_one lifts (after cover_one covers counts) ≡ counts)
