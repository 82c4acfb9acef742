-- The answers to the goals of `ground_baseline::blocked_centers`.
use mathlib.Core.Path.{◌≡◌, subst}
use mathlib.Core.Bool.{true}
use mathlib.Core.List.{List}
use Prim.Native.Nat.{ℕ, ◌+◌, ◌*◌, ◌≤◌, ◌<◌}
use native.Mathlib.Nat.{mul_comm, mul-le-mul_right}
use native.Mathlib.Omega.{arith}
use lib.IntN.{ℤ, nat_abs}
use lib.ListN.{length}
use Rattle.base_laws.specs.Ints.{up}
use Rattle.base_laws.specs.Fill.{filled, Filling}
use Rattle.base_laws.proofs.Fill.{filling_none, filling_all}
use Rattle.base_model.specs.declared.Rect.{Rect}
use Rattle.base_model.specs.declared.Bounds.{Bounds}
use Rattle.ground_rects.specs.Windows.{width, height, centres, window_fits}
use mir.Syntax.{w32}
use mir.Val.{to_z, of_z}
use Rattle.std.proofs.lemmas.Int.{ints}
use Rattle.ground_rects.proofs.Windows.{Framed, framed}
use Rattle.ground_baseline.specs.Baseline.{Map}
use Rattle.ground_baseline.specs.Lent.{map_of}
use Rattle.ground_baseline.specs.Stamps.{entries, blocked_at, RowAsked, Centres}
use Rattle.ground_baseline.proofs.blocked_centers.Goals as goal

-- the corner, the columns and the rows as the code has them
record Sized (w : Rect) (l t x h : ℕ) : Type 0 where
  left : l ≡ up w.left
  top : t ≡ up w.top
  columns : x ≡ width w
  rows : h ≡ height w

-- an edge read as a number of pixels
abbrev pixel : ℤ → ℕ
pixel z = nat_abs (to_z w32 (of_z w32 z))

sized : (w : Rect) (x h : ℕ) → window_fits 8192 8192 w ≡ true → x ≡ width w → h ≡ height w → Sized w (pixel w.left) (pixel w.top) x h
sized w x h e ex eh = let f = framed 8192 8192 w e in record { left = omega (arith, ints); top = omega (arith, ints); columns = ex; rows = eh }

module _ (w : Rect) (m : Bounds) (across down counts baseline : ℕ) (p : Centres w m across down counts baseline) where
  frame : Framed 8192 8192 w (up w.left) (up w.top)
  frame = framed 8192 8192 w p.window

  module _ (l t x h : ℕ) (s : Sized w l t x h) where
    room : h * x ≤ baseline
    unfolding centres
    room = rw (s.columns, s.rows) (omega (arith, p.baseline_room_lem, mul_comm (height w) (width w)))

    row : (y : ℕ) → y < h → RowAsked m across down l t x y counts baseline
    unfolding entries
    row y k = record {
      mover = p.mover;
      across_le = p.across_le;
      down_le = p.down_le;
      right_le = omega (arith, s.left, s.columns, frame.across_le);
      bottom_le = omega (arith, s.top, s.rows, frame.down_le);
      counts_room_lem =
          let q : y + 1 ≤ height w = omega (arith, s.rows) in
          rw s.columns (omega (arith, p.counts_room_lem, mul-le-mul_right (width w + 1) q, mul_comm (height w + 1) (width w + 1)));
      baseline_room_lem = let q : y + 1 ≤ h = omega arith in omega (arith, room, mul-le-mul_right x q);
    }

all : (w : Rect) (map : Map) (m : Bounds) (l t x h : ℕ) → Sized w l t x h → (v₀ v : List ℕ) (cs : List ℤ) → v ≡ filled (blocked_at map m l t x cs) (h * x) v₀
    → v ≡ filled (blocked_at map m (up w.left) (up w.top) (width w) cs) (centres w) v₀
unfolding centres
all w map m l t x h s v₀ v cs e = rw (mul_comm (width w) (height w), ← s.left, ← s.top, ← s.columns, ← s.rows) e

pub overflow_cast-left : goal.overflow_cast-left
overflow_cast-left c = let f = framed 8192 8192 c.args.window c.requires.window in grind (arith, ints)

pub overflow_cast-top : goal.overflow_cast-top
overflow_cast-top c = let f = framed 8192 8192 c.args.window c.requires.window in grind (arith, ints)

pub width-width-requires : goal.width-width-requires
width-width-requires c = (framed 8192 8192 c.args.window c.requires.window).filled

pub height-y-end-requires : goal.height-y-end-requires
height-y-end-requires c = (framed 8192 8192 c.args.window c.requires.window).filled

pub loop-y-init : goal.loop-y-init
loop-y-init c =
    let a = c.args in
    let w = a.window in
    let x = c.width-width.result in
    let h = c.height-y-end.result in
    let s = sized w x h c.requires.window c.width-width.ensures.0 c.height-y-end.ensures.0 in
    let e : 0 ≡ 0 * x = omega arith in
    subst (λ (i : ℕ). Filling (blocked_at (map_of a.map.now) a.mover (pixel w.left) (pixel w.top) x a.counts.now) (h * x) a.baseline.now a.baseline.now i) e
    (filling_none (blocked_at (map_of a.map.now) a.mover (pixel w.left) (pixel w.top) x a.counts.now) (h * x) a.baseline.now
    (room w a.mover a.map.now.across a.map.now.down (length a.counts.now) (length a.baseline.now) c.requires (pixel w.left) (pixel w.top) x h s))

pub blocked_row-requires : goal.blocked_row-requires
blocked_row-requires c =
    let a = c.args in
    let w = a.window in
    let x = c.width-width.result in
    let h = c.height-y-end.result in
    let s = sized w x h c.requires.window c.width-width.ensures.0 c.height-y-end.ensures.0 in
    rw c.loop-y.invariant.size
    (row w a.mover a.map.now.across a.map.now.down (length a.counts.now) (length a.baseline.now) c.requires (pixel w.left) (pixel w.top) x h s c.loop-y.y c.loop-y-test.true)

pub loop-y-preserved : goal.loop-y-preserved
loop-y-preserved c =
    let a = c.args in
    let w = a.window in
    let y = c.loop-y.y in
    let x = c.width-width.result in
    let h = c.height-y-end.result in
    let s = sized w x h c.requires.window c.width-width.ensures.0 c.height-y-end.ensures.0 in
    let q : y + 1 ≤ h = omega (arith, c.loop-y-test.true) in
    let e : y * x + x ≡ (y + 1) * x = omega arith in
    subst (λ (i : ℕ). Filling (blocked_at (map_of a.map.now) a.mover (pixel w.left) (pixel w.top) x a.counts.now) (h * x) a.baseline.now c.blocked_row.new.baseline i) e
    (c.blocked_row.ensures (h * x) a.baseline.now (omega (arith, mul-le-mul_right x q))
    (room w a.mover a.map.now.across a.map.now.down (length a.counts.now) (length a.baseline.now) c.requires (pixel w.left) (pixel w.top) x h s) c.loop-y.invariant)

pub returns : goal.returns
returns c =
    let a = c.args in
    let w = a.window in
    let x = c.width-width.result in
    let h = c.height-y-end.result in
    let s = sized w x h c.requires.window c.width-width.ensures.0 c.height-y-end.ensures.0 in
    let e : c.loop-y.y ≡ h = omega arith in
    all w (map_of a.map.now) a.mover (pixel w.left) (pixel w.top) x h s a.baseline.now c.loop-y.baseline a.counts.now
    (filling_all (blocked_at (map_of a.map.now) a.mover (pixel w.left) (pixel w.top) x a.counts.now) (h * x) a.baseline.now
    (room w a.mover a.map.now.across a.map.now.down (length a.counts.now) (length a.baseline.now) c.requires (pixel w.left) (pixel w.top) x h s) c.loop-y.baseline
    (c.loop-y.y * x) (rw e (omega arith)) c.loop-y.invariant)
