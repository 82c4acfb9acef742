-- What the calls are given where the placements are lent as a row of records (RULES 7.9).
use Rattle.std.specs.Prelude.{ℕ, ◌*◌, Bool, true, false, List, leb}
use Rattle.base_model.specs.declared.Placement.{Placement}
use Rattle.base_model.specs.declared.Query.{Query}
use Rattle.rule_layouts.specs.Inputs.{Inputs}

unfoldable pub given : Query → (groups : List ℕ) → List Placement → (block_base allow_base : List ℕ) → Inputs
given q groups places block_base allow_base = record { query = q; groups = groups; places = places; block_base = block_base; allow_base = allow_base }

-- how much of a lists area is lent on where at most 6,145 of the placements are: all of it, but nothing where more placements than that don't fit into it
unfoldable pub lent_where : (few fit : Bool) → (lists : ℕ) → ℕ
lent_where true fit lists = lists
lent_where false true lists = lists
lent_where false false lists = 0

unfoldable pub lent : (lists places : ℕ) → ℕ
lent lists places = lent_where (leb places 6145) (leb (6 * places) lists) lists
