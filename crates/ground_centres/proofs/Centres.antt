-- The centre at a pixel of the window: how far the pixel lies past the window's corner, in columns and rows.
use Prim.Native.Nat.{ℕ, ◌+◌, ◌*◌, ◌<◌, ◌^◌}
use mathlib.Core.Path.{◌≡◌}
use mathlib.Core.Bool.{true}
use native.Mathlib.Nat.{mul_comm}
use native.Mathlib.Omega.{arith}
use lib.Arith.{digits_lt}
use lib.IntN.{ℤ, pos, nat_abs, ◌-ℤ◌}
use lib.Signed.{le_z, lt_z}
use Rattle.base_laws.specs.Ints.{up, dn}
use Rattle.base_laws.proofs.Ints.{minus_parts, nat_abs_parts, lt_z_fact, le_z_fact}
use Rattle.base_model.specs.declared.Rect.{Rect}
use Rattle.base_model.specs.declared.Position.{Position}
use Rattle.ground_rects.specs.Rects.{nonempty, has}
use Rattle.ground_rects.specs.Windows.{width, height, centres, window_fits, in_window, centre_at}
use Rattle.ground_rects.proofs.Windows.{four, width_parts, height_parts, framed}

-- a number from a on below b lies fewer than b − a past a
past : (a b : ℤ) (x n : ℕ) → le_z a (pos x) ≡ true → lt_z (pos x) b ≡ true → n + up a + dn b ≡ up b + dn a → nat_abs (pos x -ℤ a) < n
past a b x n p q e =
    let l = le_z_fact a (pos x) p in
    let h = lt_z_fact (pos x) b q in
    let d = minus_parts (pos x) a in
    omega (arith, nat_abs_parts (pos x -ℤ a) (omega arith))

pub record Placed (w : Rect) (p : Position) : Type 0 where
  pub column : le_z w.left (pos p.x) ≡ true
  pub row : le_z w.top (pos p.y) ≡ true
  pub below : centre_at w p < centres w
  pub few : centre_at w p < 2 ^ 64
  pub some : nonempty w ≡ true

pub placed : (w : Rect) (p : Position) → window_fits 8192 8192 w ≡ true → in_window w p ≡ true → Placed w p
unfolding in_window has centres centre_at
placed w p f e =
    let k = four (le_z w.left (pos p.x)) (lt_z (pos p.x) w.right) (le_z w.top (pos p.y)) (lt_z (pos p.y) w.bottom) e in
    let r = framed 8192 8192 w f in
    let c = past w.left w.right p.x (width w) k.0 k.1.0 (width_parts w r.filled) in
    let d = past w.top w.bottom p.y (height w) k.1.1.0 k.1.1.1 (height_parts w r.filled) in
    let under : nat_abs (pos p.y -ℤ w.top) * width w + nat_abs (pos p.x -ℤ w.left) < width w * height w = rw (mul_comm (width w) (height w)) (digits_lt d c) in
    record { column = k.0; row = k.1.1.0; below = under; few = omega (arith, r.few); some = r.filled }
