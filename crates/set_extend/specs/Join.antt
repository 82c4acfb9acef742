-- Placements lent flat, and the list of those that extend a set.
use Rattle.std.specs.Prelude.{ℕ, ◌+◌, ◌*◌, ◌≤◌, ◌<◌, ◌≡◌, Bool, ◌&&◌, ltb, ℤ, length, get_or, drop}
use mathlib.Core.List.{List, ◌++◌, Memᴰ}
use Rattle.base_laws.specs.Lists.{select, below}
use Rattle.base_model.specs.declared.Rect.{Rect}
use Rattle.base_model.specs.declared.Bounds.{Bounds}
use Rattle.rule_routes.specs.Edges.{Step}
use Rattle.rule_layouts.specs.Boards.{Places, used, may_join}
use Rattle.rule_layouts.specs.Flat.{rect_at}
use Rattle.set_extend.specs.Touch.{touched}

-- the rows hold n placements, each of a group that there is, and the members are among them
pub record Rowed (n : ℕ) (groups numbers : List ℕ) (edges : List ℤ) (s : List ℕ) : Type 0 where
  pub fours : length numbers ≡ 4 * n
  pub eights : length edges ≡ 8 * n
  pub few : n ≤ 6144
  pub grouped : (i : ℕ) → i < n → get_or numbers (4 * i + 1) 0 < length groups
  pub named : (i : ℕ) → Memᴰ i s → i < n

-- the group of placement i has a slot that no member takes
unfoldable pub free_slot : Places → List ℕ → ℕ → Bool
free_slot p s i = ltb (used p (p.group i) s) (p.slots (p.group i))

-- the placements that may join the set and touch the route, in index order
unfoldable pub extending : Places → (edges : List ℤ) → Bounds → Rect → List Step → (s r : List ℕ) → List ℕ
extending p edges m w steps s r = select (λ (i : ℕ). may_join p s i && touched (rect_at edges (8 * i + 4)) m w steps r) (below p.count)

-- the area's first entries are es, n of them, and the rest is as it was
pub record ListWritten (es area area' : List ℕ) (n : ℕ) : Type 0 where
  pub count : n ≡ length es
  pub list : area' ≡ es ++ drop n area
