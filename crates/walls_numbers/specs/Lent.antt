-- How the code has the calls turn numbers away that are no record: with fewer than fifty, none of the visited area is lent on, so that 6 comes in its place;
-- with a pending above 1, the record of no search is, so that 16 does.
use Rattle.std.specs.Prelude.{ℕ, true, false, ◌&&◌, List, ◌++◌, leb, length, get_or, drop}
use Rattle.std.proofs.Math.Option.{Option, none, some}
use Rattle.base_model.specs.Answers.{Said}
use Rattle.base_model.specs.declared.Record.{Record}
use Rattle.rule_calls.specs.Calls.{no_record}
use Rattle.walls_numbers.specs.Numbers.{record_numbers, record_from}

-- how much of a visited area of this length is lent on with so many numbers
unfoldable pub lent_of : (numbers visited : ℕ) → ℕ
lent_of n visited = elim (leb 50 n) [ true ↦ visited | false ↦ 0 ]

-- the record that is lent on
unfoldable pub record_in : List ℕ → Record
record_in ns = elim (leb 50 (length ns) && leb (get_or ns 5 0) 1) [ true ↦ record_from ns | false ↦ no_record ]

-- the numbers after the call: fewer than fifty stay as they were
unfoldable pub numbers_left : Option Said → Record → List ℕ → List ℕ
numbers_left none r ns = elim (leb 50 (length ns)) [ true ↦ record_numbers r ++ drop 50 ns | false ↦ ns ]
numbers_left (some e) r ns = ns
