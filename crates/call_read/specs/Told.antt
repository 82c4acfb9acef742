-- A reading as numbers and a part of the points area (RULES 7.6, 7.9).
use Rattle.std.specs.Prelude.{ℕ, ◌+◌, ◌*◌, ◌≤◌, ◌<◌, List, [], length, get_or, take, Result, Ok, Err}
use Rattle.std.proofs.Common.{Bor}
use Rattle.std.proofs.Math.Option.{Option, none, some}
use Rattle.base_laws.specs.Lists.{total}
use Rattle.base_model.specs.Answers.{Said}
use Rattle.base_model.specs.declared.Record.{Record}
use Rattle.base_model.specs.declared.Refusal.{Refusal}
use Rattle.rule_calls.specs.Calls.{ReadOut}

-- the refusal's number, 0 where the call is accepted
unfoldable pub number_in : Option Said → ℕ
number_in none = 0
number_in (some r) = r.number

-- the index given with the refusal, 0 where none is
unfoldable pub index_in : Option Said → ℕ
index_in none = 0
index_in (some r) = get_or r.values 0 0

pub record Told : Type 0 where
  pub points : List ℕ
  pub answer : ℕ
  pub index : ℕ

unfoldable pub told : ReadOut → Told
told o = record { points = o.points; answer = number_in o.answer; index = index_in o.answer }

-- the part of the points area that is handed back, empty on a refusal
abbrev pub points_in : Result (Bor (List ℕ)) Refusal → List ℕ
points_in (Ok part) = part.now
points_in (Err r) = []

-- layout k's points stand in the points area
pub record PartInside (r : Record) (k : ℕ) (points : List ℕ) : Type 0 where
  pub named : k < 32
  pub inside : 2 * total (take k r.routes) + 2 * get_or r.routes k 0 ≤ length points
  pub few : total (take k r.routes) + get_or r.routes k 0 ≤ 1000000
