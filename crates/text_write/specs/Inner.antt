-- Vocabulary of private contracts.
use Rattle.std.specs.Prelude.{◌≡◌, Bool, true, false}

-- b tells whether P holds
pub record Decides (P : Type 0) (b : Bool) : Type 0 where
  pub yes : b ≡ true → P
  pub no : b ≡ false → P → ⊥
