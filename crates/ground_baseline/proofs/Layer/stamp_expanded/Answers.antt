-- `ground_baseline::Layer::stamp_expanded` meets its contract: the span that is added holds the centres off which the rectangle keeps the mover.
use Rattle.ground_baseline.proofs.Stamps.{laid_stampable, laid_more}
use Rattle.ground_baseline.proofs.Layer.stamp_expanded.Goals as goal

pub add_rect-requires : goal.add_rect-requires
add_rect-requires c =
    let a = c.args in
    let w = a.self.now in
    rw w.setting.stride_is (laid_stampable w.window w.mover a.r c.clip-p.result a.counts.now c.clip-p.ensures c.requires)

pub returns : goal.returns
returns c rest rs l =
    let a = c.args in
    let w = a.self.now in
    rw (c.add_rect.ensures, w.setting.stride_is) (laid_more w.window w.mover a.r c.clip-p.result a.counts.now c.clip-p.ensures rest rs l)
