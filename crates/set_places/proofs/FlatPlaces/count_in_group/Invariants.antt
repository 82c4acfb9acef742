-- `set_places::FlatPlaces::count_in_group` meets its contract: the count, with the members of the group among those left, is that of all.
use mathlib.Core.Path.{◌≡◌}
use Prim.Native.Nat.{◌+◌, ◌≤◌}
use lib.ListN.{drop}
use Rattle.set_places.specs.Groups.{of_group}
use Rattle.set_places.proofs.FlatPlaces.count_in_group.Given as goal

abbrev pub invariant-loop-m : goal.invariant-loop-m
invariant-loop-m l = record {
  low : l.count ≤ l.m-index;
  is : l.count + of_group l.self.numbers.now l.group (drop l.m-index l.set) ≡ of_group l.self.numbers.now l.group l.set;
}
