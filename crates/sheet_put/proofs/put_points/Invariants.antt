-- `put_points`: the first k points are written.
use mathlib.Core.List.{map}
use Rattle.rule_calls.specs.Areas.{positions}
use Rattle.sheet_texts.specs.Texts.{spaced, point_text}
use Rattle.sheet_put.proofs.Left.{Reached}
use Rattle.sheet_texts.proofs.Texts.{points_text}
use Rattle.sheet_put.proofs.put_points.Given as goal

abbrev pub invariant-loop-k : goal.invariant-loop-k
invariant-loop-k l = Reached (spaced (map point_text (positions l.route))) (points_text l.route) l.n l.initial.out l.at l.out l.i l.k
