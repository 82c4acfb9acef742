-- The answers to the goals of `sheet_write::put_layouts`.
use mathlib.Core.Path.{refl}
use native.Mathlib.Omega.{arith}
use lib.ListN.{length}
use Rattle.base_laws.specs.Lists.{total}
use Rattle.text_forms.proofs.Puts.{put_same}
use Rattle.sheet_texts.specs.Parts.{row_text}
use Rattle.sheet_put.proofs.Left.{room_as, turns_start, turns_room, turns_more, turns_done}
use Rattle.sheet_texts.proofs.Texts.{row_text_lem}
use Rattle.sheet_texts.proofs.Lengths.{here, route_next, route_taken}
use Rattle.sheet_write.proofs.put_layouts.Goals as goal

pub loop-k-init : goal.loop-k-init
unfolding total
loop-k-init c =
    (turns_start _ (row_text c.args.routes c.args.layouts.now c.args.points.now) c.args.count c.args.out.now c.args.at refl c.requires.count_in_bounds, refl)

pub overflow_add-to : goal.overflow_add-to
overflow_add-to c =
    let h = here c.args.count c.args.routes c.args.layouts.now c.args.points.now c.requires.writable c.loop-k.k (omega arith) c.loop-k.from c.loop-k.invariant.1 in
    omega arith

pub put_layout-i-requires : goal.put_layout-i-requires
put_layout-i-requires c =
    let t = row_text_lem c.args.routes c.args.layouts.now c.args.points.now c.loop-k.k c.loop-k.from c.loop-k.invariant.1 in record {
      route_len = route_taken c.args.count c.args.routes c.args.layouts.now c.args.points.now c.requires.writable c.loop-k.k
          (omega arith) c.loop-k.from c.loop-k.invariant.1;
      route_in_bounds = room_as _ _ c.loop-k.i (length c.loop-k.out) t (turns_room _ _ _ _ _ _ _ _ c.loop-k.invariant.0 (omega arith));
    }

pub loop-k-preserved : goal.loop-k-preserved
loop-k-preserved c =
    let t = row_text_lem c.args.routes c.args.layouts.now c.args.points.now c.loop-k.k c.loop-k.from c.loop-k.invariant.1 in (
      turns_more _ _ _ _ _ _ _ _ c.loop-k.invariant.0 (omega arith) _ _ (put_same _ _ _ _ _ _ t c.put_layout-i.ensures),
      omega (arith, c.loop-k.invariant.1, route_next c.args.count c.args.routes c.args.layouts.now c.args.points.now c.requires.writable c.loop-k.k (omega arith)),
    )

pub returns : goal.returns
returns c = turns_done _ _ _ _ _ _ _ _ c.loop-k.invariant.0 (omega arith)
