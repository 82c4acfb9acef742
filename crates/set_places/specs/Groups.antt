-- The members of a group, their numbers lent flat.
use Rattle.std.specs.Prelude.{ℕ, ◌+◌, ◌*◌, ◌≤◌, ◌<◌, List, eqb, length, get_or}
use Rattle.std.specs.declared.cmp.Ordering.{Ordering}
use Rattle.std.specs.Ordering.{nat_cmp}
use Rattle.base_laws.specs.Lists.{select}

-- how many members are of the group
unfoldable pub of_group : (numbers : List ℕ) → ℕ → List ℕ → ℕ
of_group numbers group s = length (select (λ (i : ℕ). eqb (get_or numbers (4 * i + 1) 0) group) s)

-- the members of placement i's group beside the group's slots
abbrev pub taken : (groups numbers s : List ℕ) → ℕ → Ordering
taken groups numbers s i = nat_cmp (of_group numbers (get_or numbers (4 * i + 1) 0) s) (get_or groups (get_or numbers (4 * i + 1) 0) 0)

-- the four numbers of each member stand in the row
pub record InRow (numbers s : List ℕ) : Type 0 where
  pub whole : (j : ℕ) → j < length s → 4 * get_or s j 0 + 4 ≤ length numbers

-- the members stand in the row, and so does placement i, which is of a group that there is
pub record InGroup (groups numbers s : List ℕ) (i : ℕ) : Type 0 where
  pub members : InRow numbers s
  pub whole : 4 * i + 4 ≤ length numbers
  pub grouped : get_or numbers (4 * i + 1) 0 < length groups
