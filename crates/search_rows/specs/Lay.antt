-- How sets, lists and routes lie in an area one after the other, and what is asked of such an area.
use Rattle.std.specs.Prelude.{ℕ, ◌≤◌, ◌<◌, ◌≡◌, length}
use mathlib.Core.List.{List, ◌++◌, map, Memᴰ}
use Rattle.base_laws.specs.Lists.{flat, padded}
use Rattle.rule_search.specs.State.{Extensions}
use Rattle.rule_calls.specs.Areas.{row}

-- the set s, whose row is w, is looked for among the first n rows of an area
pub record Seek (area : List ℕ) (n : ℕ) (w s : List ℕ) (vs : List (List ℕ)) (rest : List ℕ) : Type 0 where
  pub laid : area ≡ flat (map row vs) ++ rest
  pub count : n ≡ length vs
  pub sought : w ≡ row s
  pub six : length s ≤ 6
  pub few : (v : List ℕ) → Memᴰ v vs → length v ≤ 6

-- a list of at most n placements, of which one has been taken
pub record ListUsed (n : ℕ) (l : Extensions) : Type 0 where
  pub taken : 0 < l.next
  pub inside : l.next ≤ length l.entries
  pub short : length l.entries ≤ n

-- lists, in order of making, stand n apart in an area; ns says how many entries of each have been taken
pub record Stood (area : List ℕ) (n : ℕ) (ns : List ℕ) (ms : List Extensions) (rest : List ℕ) : Type 0 where
  pub laid : area ≡ flat (map (λ (l : Extensions). padded n l.entries) ms) ++ rest
  pub nexts : ns ≡ map (λ (l : Extensions). l.next) ms
  pub deep : length ms ≤ 6
  pub used : (l : Extensions) → Memᴰ l ms → ListUsed n l

pub record SomeStood (area : List ℕ) (n : ℕ) (ns : List ℕ) : Type 0 where
  pub small : n ≤ 6144
  pub ms : List Extensions
  pub rest : List ℕ
  pub stood : Stood area n ns ms rest
