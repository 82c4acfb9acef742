-- `ground_counts::add_rect` meets its contract. Each corner lies at or before the last one, so within the area, and each bump changes an entry by one at most.
use mathlib.Core.Path.{◌≡◌}
use mathlib.Core.List.{List}
use Prim.Native.Nat.{ℕ, ◌+◌, ◌*◌, ◌≤◌, ◌<◌}
use native.Mathlib.Nat.{mul-le-mul_right}
use native.Mathlib.Omega.{arith}
use lib.IntN.{ℤ, pos, negsuc}
use lib.Signed.{mag}
use lib.ListN.{length, get_or}
use Rattle.base_laws.specs.Ints.{up, dn}
use Rattle.ground_rects.specs.declared.Span.{Span}
use Rattle.ground_counts.specs.Counts.{at_top_left, at_top_right, at_bottom_left, at_bottom_right, bumped, Stampable}
use Rattle.ground_counts.proofs.Corners.{live_true}
use Rattle.ground_counts.proofs.Grid.{length_bump, bump_mag}
use Rattle.ground_counts.proofs.add_rect.Goals as goal

-- u is long enough, and its entries up to the last corner are below K
record Far (s : ℕ) (p : Span) (u : List ℤ) (K : ℕ) : Type 0 where
  across : p.left < p.right
  rows : p.top * s + s ≤ p.bottom * s
  last : at_bottom_right s p < length u
  small : (i : ℕ) → i ≤ at_bottom_right s p → mag (get_or u i (pos 0)) < K

far : (s : ℕ) (p : Span) (v : List ℤ) → Stampable s p v → p.left < p.right → p.top < p.bottom → Far s p v 2147483644
far s p v a l t = record { across = l; rows = omega (arith, mul-le-mul_right s t); last = a.fits (live_true p l t); small = a.small }

far_more : (s : ℕ) (p : Span) (u u' : List ℤ) (k K : ℕ) (z : ℤ) → Far s p u K → k ≤ at_bottom_right s p → up z ≤ 1 → dn z ≤ 1 → u' ≡ bumped u k z → Far s p u' (K + 1)
far_more s p u u' k K z f h a b e =
    rw e (record {
      across = f.across;
      rows = f.rows;
      last = omega (arith, length_bump u k z, f.last);
      small = λ i q. bump_mag u k i K z (omega (arith, f.last)) a b (f.small i q);
    })

-- after the first corner, the first two, the first three
first : (s : ℕ) (p : Span) (v v₁ : List ℤ) → Far s p v 2147483644 → v₁ ≡ bumped v (at_top_left s p) (pos 1) → Far s p v₁ 2147483645
first s p v v₁ f e = far_more s p v v₁ (at_top_left s p) 2147483644 (pos 1) f (omega (arith, f.across, f.rows)) (omega arith) (omega arith) e

second : (s : ℕ) (p : Span) (v v₁ : List ℤ) → Far s p v 2147483645 → v₁ ≡ bumped v (at_top_right s p) (negsuc 0) → Far s p v₁ 2147483646
second s p v v₁ f e = far_more s p v v₁ (at_top_right s p) 2147483645 (negsuc 0) f (omega (arith, f.across, f.rows)) (omega arith) (omega arith) e

third : (s : ℕ) (p : Span) (v v₁ : List ℤ) → Far s p v 2147483646 → v₁ ≡ bumped v (at_bottom_left s p) (negsuc 0) → Far s p v₁ 2147483647
third s p v v₁ f e = far_more s p v v₁ (at_bottom_left s p) 2147483646 (negsuc 0) f (omega (arith, f.across)) (omega arith) (omega arith) e

pub bump-requires-2 : goal.bump-requires-2
bump-requires-2 c =
    let a = c.args in
    let f = first a.stride a.p a.counts.now c.bump.new.v (far a.stride a.p a.counts.now c.requires (omega arith) (omega arith)) c.bump.ensures in
    ((omega arith, omega (arith, f.small (at_top_right a.stride a.p) (omega arith))), omega arith)

pub bump-requires-3 : goal.bump-requires-3
bump-requires-3 c =
    let a = c.args in
    let f = first a.stride a.p a.counts.now c.bump.new.v (far a.stride a.p a.counts.now c.requires (omega arith) (omega arith)) c.bump.ensures in
    let g = second a.stride a.p c.bump.new.v c.bump-2.new.v f c.bump-2.ensures in
    ((omega arith, omega (arith, g.small (at_bottom_left a.stride a.p) (omega arith))), omega arith)

pub bump-requires-4 : goal.bump-requires-4
bump-requires-4 c =
    let a = c.args in
    let f = first a.stride a.p a.counts.now c.bump.new.v (far a.stride a.p a.counts.now c.requires (omega arith) (omega arith)) c.bump.ensures in
    let g = second a.stride a.p c.bump.new.v c.bump-2.new.v f c.bump-2.ensures in
    let h = third a.stride a.p c.bump-2.new.v c.bump-3.new.v g c.bump-3.ensures in
    ((h.last, omega (arith, h.small (at_bottom_right a.stride a.p) (omega arith))), omega arith)
