-- What 16 asks of a row: of the number of its members, and of the part of the area that they are.
use Prim.Native.Nat.{ℕ, ◌+◌, ◌-◌, ◌*◌, ◌≤◌, ◌<◌}
use mathlib.Core.Path.{◌≡◌}
use mathlib.Core.Bool.{◌&&◌}
use mathlib.Core.List.{List}
use native.Mathlib.Omega.{arith}
use lib.Dec.{ltb, leb}
use lib.ListN.{get_or, take, drop}
use borrow.Author.Tests.{le-leb, lt-leb}
use Rattle.base_laws.specs.Lists.{all_of, ascends}
use Rattle.rule_calls.specs.Areas.{row_of}
use Rattle.rule_calls.specs.RecordCheck.{row_fits}

pub row_many : (n : ℕ) (a : List ℕ) (k : ℕ) → 6 < get_or a (7 * k) 0 → leb (get_or a (7 * k) 0) 6 ≡ row_fits n a k
unfolding row_fits
row_many n a k h = rw (lt-leb (get_or a (7 * k) 0) 6 h)

pub row_few : (n : ℕ) (a : List ℕ) (k m : ℕ) → m ≡ 7 * k + 1 + get_or a (7 * k) 0 - (7 * k + 1) → get_or a (7 * k) 0 ≤ 6
    → (ascends (take m (drop (7 * k + 1) a)) && all_of (λ (i : ℕ). ltb i n) (take m (drop (7 * k + 1) a))) ≡ row_fits n a k
unfolding row_fits row_of
row_few n a k m e h =
    let d : m ≡ get_or a (7 * k) 0 = omega arith in
    rw (le-leb (get_or a (7 * k) 0) 6 h, d)
