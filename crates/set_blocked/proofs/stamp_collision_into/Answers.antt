-- `set_blocked::stamp_collision_into` meets its contract: the span's centres are those off which the rectangle keeps the mover.
use mathlib.Core.Path.{refl, ap, ◌∙◌}
use mathlib.Core.Bool.{Bool, cond}
use Prim.Native.Nat.{ℕ, ◌/◌, ◌%◌}
use native.Mathlib.Nat.{mul_comm, mul-le-mul_right}
use lib.ListN.{get_or}
use Rattle.ground_rects.specs.Spans.{in_span}
use Rattle.ground_rects.specs.Windows.{width, height, centres}
use Rattle.ground_rects.proofs.Windows.{width_some}
use Rattle.ground_spans.specs.Changes.{made, allows}
use Rattle.set_blocked.proofs.stamp_collision_into.Goals as goal

pub change_span-requires : goal.change_span-requires
unfolding centres allows
change_span-requires c =
    let w = c.args.window in
    let p = c.requires in
    let s = c.clip-span.result in
    let k = c.clip-span.ensures in
    let e = c.width-width.ensures.0 in record {
      span_fits = record {
        some = rw e (width_some w p.some);
        right = rw e k.right;
        bottom = rw (e, p.bytes, mul_comm (width w) (height w)) (mul-le-mul_right (width w) k.bottom);
      };
      span_allows = record { each = λ i h. refl };
    }

pub returns : goal.returns
unfolding made
returns c =
    let w = c.args.window in
    let e = c.width-width.ensures.0 in
    let k = c.change_span.ensures in
    let v = c.args.map.now in
    record {
      size = k.size;
      at = λ i h.
          k.at i ∙ ap (λ (x : ℕ). cond (in_span c.clip-span.result (i % x) (i / x)) 1 (get_or v i 0)) e
          ∙ ap (λ (b : Bool). cond b 1 (get_or v i 0)) (c.clip-span.ensures.law i h);
    }
