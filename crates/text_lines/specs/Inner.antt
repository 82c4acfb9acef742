-- Vocabulary of private contracts.
use Rattle.std.specs.Prelude.{List, ℕ, ◌≤◌, length}
use Rattle.text_forms.specs.Patterns.{fields}
use Rattle.text_lines.specs.Answers.{Stored}

-- an area with room for the line's numbers has them
pub record StoredIn (pattern s : List ℕ) (at : ℕ) (before out : List ℕ) : Type 0 where
  pub stored : fields pattern ≤ length before → Stored pattern s at before out
