-- Vocabulary of private contracts.
use Rattle.std.specs.Prelude.{List, ℕ, ◌≤◌, ◌<◌, length, get_or}

-- no byte lies below the digits
pub record Low (l : List ℕ) : Type 0 where
  pub low : (k : ℕ) → k < length l → 48 ≤ get_or l k 0
