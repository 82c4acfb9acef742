-- Every answer of the code with its number and values (RULES 8.1), written out.
use Prim.Native.Nat.{ℕ}
use mathlib.Core.Path.{◌≡◌, refl}
use mathlib.Core.Option.{none, some}
use mathlib.Core.List.{List, [], ◌∷◌, map}
use Rattle.base_model.specs.declared.Refusal.{Refusal}
use Rattle.base_model.specs.declared.Refusal.TheVariants.{
  MapInvalid,
  WindowInvalid,
  EndOutside,
  BoundTooLarge,
  ObstacleInvalid,
  AreaTooShort,
  StartBlocked,
  EndBlocked,
  NoRoute,
  GroupsInvalid,
  StateLimitInvalid,
  ResultLimitInvalid,
  TooManyPlacements,
  PlacementInvalid,
  RectangleEmpty,
  FootprintInvalid,
  RecordInvalid,
  SelectionInvalid,
  StepsInvalid,
  CountOutOfRange,
  SiteInvalid,
}
use Rattle.std.specs.Prelude.{Result, Ok, Err}
use Rattle.base_model.specs.Answers.{refusal, said_of, reply_of}

-- a refusal, its number, and the values given with it
pub refusals : List (Refusal × ℕ × List ℕ)
refusals =
    (MapInvalid, 1, [])
    ∷ (WindowInvalid, 2, [])
    ∷ (EndOutside, 3, [])
    ∷ (BoundTooLarge, 4, [])
    ∷ (ObstacleInvalid, 5, [])
    ∷ (AreaTooShort, 6, [])
    ∷ (StartBlocked, 7, [])
    ∷ (EndBlocked, 8, [])
    ∷ (NoRoute, 9, [])
    ∷ (GroupsInvalid, 10, [])
    ∷ (StateLimitInvalid, 11, [])
    ∷ (ResultLimitInvalid, 12, [])
    ∷ (TooManyPlacements, 14, [])
    ∷ (PlacementInvalid 0, 15, 0 ∷ [])
    ∷ (PlacementInvalid 7, 15, 7 ∷ [])
    ∷ (RectangleEmpty, 15, [])
    ∷ (FootprintInvalid, 15, [])
    ∷ (RecordInvalid, 16, [])
    ∷ (SelectionInvalid, 17, [])
    ∷ (StepsInvalid, 19, [])
    ∷ (CountOutOfRange, 20, [])
    ∷ (SiteInvalid, 22, [])
    ∷ []

pub said : map (λ (r : Refusal × ℕ × List ℕ). said_of r.0) refusals ≡ map (λ (r : Refusal × ℕ × List ℕ). record { number = r.1; values = r.2 }) refusals
unfolding refusal said_of refusals
said = refl

-- an accepted call gives none, a refused one what its refusal says
pub replies : map (reply_of {A = ℕ}) (Ok 0 ∷ Err NoRoute ∷ Err (PlacementInvalid 7) ∷ [])
    ≡ none ∷ some (record { number = 9; values = [] }) ∷ some (record { number = 15; values = 7 ∷ [] }) ∷ []
unfolding refusal said_of reply_of
replies = refl
