-- A text put into an area: all else is as before.
use Rattle.std.specs.Prelude.{◌≡◌, List, ℕ, ◌+◌, length}
use Rattle.std.proofs.lemmas.List.Edits.{sets}

-- the text w stands from `at` on, up to n
pub record Put (w before : List ℕ) (at : ℕ) (out : List ℕ) (n : ℕ) : Type 0 where
  pub text : out ≡ sets before at w
  pub ends : n ≡ at + length w
