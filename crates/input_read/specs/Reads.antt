-- What can be said of reads (RULES 9.6). Whether a read fails is the system's to say, and which bytes come is the reader's: where those are known, a whole input is all of them.
-- What decides is `input_arrival::taken`, whose answers the loop hands on.
use Rattle.std.specs.Prelude.{ℕ, ◌<◌, ◌≡◌, List, [], length, take, drop, Option, None, Some}
use Rattle.std.specs.Io.KnownBytes.{Consumes, IsAtEnd}
use Rattle.input_arrival.specs.Arrivals.{takes}
use Rattle.input_arrival.specs.declared.Arrival.{Arrival}
use Rattle.input_arrival.specs.declared.Arrival.TheVariants.{Going, Whole, Cut}

-- one read, into what `at` bytes leave of an area of `room`: some answer was folded in
pub record ReadOnce (room at : ℕ) (r : Arrival) : Type 0 where
  pub answer : Option ℕ
  pub is : r ≡ takes room (Going at) answer

-- one read, of the bytes that a reader has left before and after, where they are known: the first `at` bytes stay, those that came follow, and at the input's end
-- none are left
abbrev pub ReadOn : (at : ℕ) (before after : Option (List ℕ)) (area area' : List ℕ) → Arrival → Type 0
ReadOn at before after area area' (Going n) = (take at area' ≡ take at area) × Consumes before after (drop at (take n area'))
ReadOn at before after area area' (Whole n) = (n ≡ at) × (take at area' ≡ take at area) × Consumes before after [] × IsAtEnd after
ReadOn at before after area area' Cut = Unit {0}

-- nothing more is to be read; the bytes of a whole input stand in front of the area, which has room left
abbrev pub AllRead : List ℕ → Arrival → Type 0
AllRead area (Going n) = ⊥
AllRead area (Whole n) = n < length area
AllRead area Cut = Unit {0}

-- where the bytes that a reader had left are known, a whole input is all of them
abbrev pub AllCame : Option (List ℕ) → List ℕ → Arrival → Type 0
AllCame None area r = Unit {0}
AllCame (Some xs) area (Going n) = Unit {0}
AllCame (Some xs) area (Whole n) = xs ≡ take n area
AllCame (Some xs) area Cut = Unit {0}
