-- Words of the contracts: placements lent flat, and what 16 asks of a record's lists over them.
use Rattle.std.specs.Prelude.{ℕ, suc, ◌+◌, ◌*◌, ◌≤◌, ◌<◌, ◌≡◌, Bool, not, ◌&&◌, ◌||◌, List, leb, ltb, ℤ, length, get_or}
use Rattle.base_laws.specs.Lists.{all_of, any_of, member}
use Rattle.base_model.specs.declared.Record.{Record}
use Rattle.ground_rects.specs.Rects.{intersects}
use Rattle.rule_layouts.specs.Boards.{Places, may_join}
use Rattle.rule_layouts.specs.Flat.{rect_at}
use Rattle.set_places.specs.declared.FlatPlaces.{FlatPlaces}
use Rattle.rule_search.specs.State.{set_on}
use Rattle.rule_calls.specs.Areas.{list_of, lists_of}

-- the rows hold n placements, each of a group that there is
pub record Rows (n : ℕ) (groups numbers : List ℕ) (edges : List ℤ) : Type 0 where
  pub fours : length numbers ≡ 4 * n
  pub eights : length edges ≡ 8 * n
  pub few : n ≤ 6144
  pub grouped : (i : ℕ) → i < n → get_or numbers (4 * i + 1) 0 < length groups

-- placement e is no member and overlaps none
unfoldable pub apart : (edges : List ℤ) → List ℕ → ℕ → Bool
apart edges s e = not (member e s) && not (any_of (λ (j : ℕ). intersects (rect_at edges (8 * e)) (rect_at edges (8 * j))) s)

-- e names a placement that may join the set
unfoldable pub entry_fits : Places → List ℕ → ℕ → Bool
entry_fits p s e = ltb e p.count && may_join p s e

-- next ≤ length ≤ placements, and next above 0 where something stands on the list
unfoldable pub head_fits : (n next length : ℕ) → Bool → Bool
head_fits n next length stood = leb next length && leb length n && (not stood || ltb 0 next)

unfoldable pub stood : Record → ℕ → Bool
stood r k = ltb (suc k) r.lists || r.pending

unfoldable pub list_passes : Places → Record → List ℕ → ℕ → Bool
list_passes p r lists k =
    head_fits p.count (get_or r.nexts k 0) (get_or r.lengths k 0) (stood r k)
    && all_of (entry_fits p (set_on (lists_of r lists k))) (list_of r lists k).entries

-- the members are placements
pub record Members (n : ℕ) (members : List ℕ) : Type 0 where
  pub named : (j : ℕ) → j < length members → get_or members j 0 < n

-- entries beside members
pub record Entries (n : ℕ) (p : FlatPlaces) (members : List ℕ) : Type 0 where
  pub rows : Rows n p.groups.now p.numbers.now p.edges.now
  pub set : Members n members

-- a placement beside members
pub record Beside (n : ℕ) (p : FlatPlaces) (members : List ℕ) (e : ℕ) : Type 0 where
  pub entries : Entries n p members
  pub placed : e < n

pub record Lists (n : ℕ) (p : FlatPlaces) (r : Record) (lists : List ℕ) : Type 0 where
  pub rows : Rows n p.groups.now p.numbers.now p.edges.now
  pub long : 6 * n ≤ length lists
  pub deep : r.lists ≤ 6
  pub places : r.placements ≡ n
