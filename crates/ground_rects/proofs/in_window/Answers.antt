-- `ground_rects::in_window` meets its contract: the pixels that a rectangle keeps a mover of one pixel off are its own.
use mathlib.Core.Path.{◌∙◌}
use lib.IntN.{pos}
use Rattle.ground_rects.specs.Windows.{in_window}
use Rattle.ground_rects.proofs.Axes.{point_has}
use Rattle.ground_rects.proofs.in_window.Goals as goal

pub returns : goal.returns
unfolding in_window
returns c = c.keeps_off.ensures ∙ point_has c.args.w (pos c.args.p.x) (pos c.args.p.y)
