-- The spots of centres: a row is found from another row by its start, and the centre's column is what is left.
use Prim.Native.Nat.{ℕ, zero, suc, ◌+◌, ◌-◌, ◌*◌, ◌/◌, ◌%◌, ◌≤◌, ◌<◌}
use mathlib.Core.Path.{◌≡◌, sym, ap, ◌∙◌}
use native.Mathlib.Nat.{suc-mul, zero-mul}
use native.Mathlib.Omega.{arith}
use lib.Arith.{digits_div, digits_mod}
use Rattle.set_extend.specs.declared.Spot.{Spot}
use Rattle.set_extend.specs.Spots.{spot_of, RowStarts}

-- the centre x columns after a row's start stands in that row
pub spot_found : (width v x y start : ℕ) → start ≡ y * width → start + x ≡ v → x < width → ◌≡◌ {A = Spot} (record { x = x; y = y; start = start }) (spot_of width v)
unfolding spot_of
spot_found width v x y start row e h =
    let q : y * width + x ≡ v = omega (arith, row) in
    let d : v / width ≡ y = sym (ap (λ (n : ℕ). n / width) q) ∙ digits_div y h in
    let m : v % width ≡ x = sym (ap (λ (n : ℕ). n % width) q) ∙ digits_mod y h in
    rw (d, m, row)

-- a spot that is a centre's has the start of its row
pub row_starts : (width v : ℕ) (p : Spot) → 0 < width → p ≡ spot_of width v → RowStarts width p
unfolding spot_of
row_starts width v p w e = record { some = w; start = rw e }

-- ---- upwards: row y starts at `start`, and v doesn't stand below it
pub record RowsUp (width v y start : ℕ) : Type 0 where
  pub row : start ≡ y * width
  pub upto : v < start + width

-- the row above one that isn't the first
pub record RowAbove (width y start : ℕ) : Type 0 where
  pub rows : 1 ≤ y
  pub room : width ≤ start
  pub row : start - width ≡ (y - 1) * width

pub row_above : (width y start : ℕ) → start ≡ y * width → 0 < start → RowAbove width y start
row_above width zero start e h = absurd (omega (arith, e, zero-mul width))
row_above width (suc k) start e h =
    let p : suc k - 1 ≡ k = omega arith in
    record { rows = omega arith; room = omega (arith, e, suc-mul k width); row = rw p (omega (arith, e, suc-mul k width)) }

pub up_more : (width v y start : ℕ) → RowsUp width v y start → v < start → RowsUp width v (y - 1) (start - width)
up_more width v y start u h =
    let k = row_above width y start u.row (omega arith) in
    record { row = k.row; upto = omega (arith, k.room) }

pub up_found : (width v y start : ℕ) → RowsUp width v y start → start ≤ v → ◌≡◌ {A = Spot} (record { x = v - start; y = y; start = start }) (spot_of width v)
up_found width v y start u h = spot_found width v (v - start) y start u.row (omega arith) (omega (arith, u.upto))

-- ---- downwards: v stands x centres after the start of row y
pub record RowsDown (width v x y : ℕ) : Type 0 where
  pub upto : x ≤ v
  pub row : v - x ≡ y * width

module _ (width v x y : ℕ) (d : RowsDown width v x y) where
  pub down_found : x < width → ◌≡◌ {A = Spot} (record { x = x; y = y; start = v - x }) (spot_of width v)
  down_found h = spot_found width v x y (v - x) d.row (omega (arith, d.upto)) h
