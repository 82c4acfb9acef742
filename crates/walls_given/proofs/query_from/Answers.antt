-- `walls_given::query_from` meets its contract: the window's sides are read back as signed numbers, all else stands as it is given.
use mathlib.Core.Path.{ap₂}
use Rattle.base_model.specs.Allow.{Allow}
use Rattle.base_model.specs.declared.Rect.{Rect}
use Rattle.walls_numbers.specs.Numbers.{query_from}
use Rattle.walls_numbers.proofs.Signed.{rect_back}
use Rattle.walls_given.proofs.query_from.Goals as goal

pub returns : goal.returns
unfolding query_from
returns c =
    let a = c.args in
    let f = c.ranges in
    ap₂
    (λ (w : Rect) (m : Allow). record {
      window = w;
      start = record { x = a.start_x; y = a.start_y };
      end = record { x = a.end_x; y = a.end_y };
      block = record { left = a.block_left; top = a.block_top; right = a.block_right; bottom = a.block_bottom };
      allow = m;
    })
    (rect_back a.window_left a.window_top a.window_right a.window_bottom f.window_left f.window_top f.window_right f.window_bottom) c.allow_from.ensures
