-- Vocabulary of the contracts.
use Rattle.std.specs.Prelude.{ℕ, ◌≤◌, ◌≡◌, List, length}
use Rattle.base_model.specs.declared.Record.{Record}
use Rattle.sheet_texts.specs.Parts.{enough}

-- a begun search that can be stepped and written
pub record Steppable (r : Record) (points out : List ℕ) : Type 0 where
  pub routes : length r.routes ≡ 32
  pub lengths : length r.lengths ≡ 6
  pub nexts : length r.nexts ≡ 6
  pub few : length points ≤ 16384
  pub room : enough ≤ length out
