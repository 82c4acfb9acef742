-- Refusals: a number, and the values given with it. Checks stand in a list, in their order; the first that fails is the answer (RULES 7.1, 8.1).
-- The numbers of the verdicts (RULES 7.7).
use Rattle.std.specs.Prelude.{ℕ, Bool, true, false, List, [], ◌∷◌, Result, Ok, Err}
use Rattle.std.proofs.Math.Option.{Option, none, some}
use Rattle.base_model.specs.declared.Refusal.{Refusal}
use Rattle.base_model.specs.declared.Refusal.TheVariants.{
  MapInvalid,
  WindowInvalid,
  EndOutside,
  BoundTooLarge,
  ObstacleInvalid,
  AreaTooShort,
  StartBlocked,
  EndBlocked,
  NoRoute,
  GroupsInvalid,
  StateLimitInvalid,
  ResultLimitInvalid,
  TooManyPlacements,
  PlacementInvalid,
  RectangleEmpty,
  FootprintInvalid,
  RecordInvalid,
  SelectionInvalid,
  StepsInvalid,
  CountOutOfRange,
  SiteInvalid,
}
use Rattle.base_model.specs.declared.Verdict.{Verdict}
use Rattle.base_model.specs.declared.Verdict.TheVariants.{Slots, Overlap, EndCovered, Open, Spare, Shut, Wall}

-- a refusal: its number, and the values given with it
pub record Said : Type 0 where
  pub number : ℕ
  pub values : List ℕ

unfoldable pub refusal : ℕ → Said
refusal n = record { number = n; values = [] }

-- refusal n unless the condition holds
unfoldable pub ask : ℕ → Bool → Option Said
ask n holds = elim holds [ true ↦ none | false ↦ some (refusal n) ]

-- the first check that fails
unfoldable pub first : List (Option Said) → Option Said
first [] = none
first (c ∷ cs) = elim c [ none ↦ first cs | some r ↦ some r ]

-- the number and values of RULES 8.1 for each refusal of the code; 13 is out of use
unfoldable pub said_of : Refusal → Said
said_of MapInvalid = refusal 1
said_of WindowInvalid = refusal 2
said_of EndOutside = refusal 3
said_of BoundTooLarge = refusal 4
said_of ObstacleInvalid = refusal 5
said_of AreaTooShort = refusal 6
said_of StartBlocked = refusal 7
said_of EndBlocked = refusal 8
said_of NoRoute = refusal 9
said_of GroupsInvalid = refusal 10
said_of StateLimitInvalid = refusal 11
said_of ResultLimitInvalid = refusal 12
said_of TooManyPlacements = refusal 14
said_of (PlacementInvalid i) = record { number = 15; values = i ∷ [] }
said_of RectangleEmpty = refusal 15
said_of FootprintInvalid = refusal 15
said_of RecordInvalid = refusal 16
said_of SelectionInvalid = refusal 17
said_of StepsInvalid = refusal 19
said_of CountOutOfRange = refusal 20
said_of SiteInvalid = refusal 22

-- none where the call is accepted
unfoldable pub reply_of : {A : Type 0} → Result A Refusal → Option Said
reply_of (Ok _) = none
reply_of (Err r) = some (said_of r)

-- the number of RULES 7.7 for each verdict
unfoldable pub verdict_number : Verdict → ℕ
verdict_number Slots = 1
verdict_number Overlap = 2
verdict_number EndCovered = 3
verdict_number Open = 4
verdict_number Spare = 5
verdict_number Shut = 6
verdict_number Wall = 7
