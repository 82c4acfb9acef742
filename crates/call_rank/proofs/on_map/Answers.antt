-- `call_rank::on_map` meets its contract: a map that fits has at most 8,192 pixels each way.
use native.Mathlib.Omega.{arith}
use Rattle.ground_rects.proofs.Windows.{sized}
use Rattle.call_rank.proofs.on_map.Goals as goal

pub overflow_mul-across : goal.overflow_mul-across
overflow_mul-across c = record { fits = omega (arith, (sized c.args.across c.args.down c.requires).across_le) }

pub overflow_mul-result : goal.overflow_mul-result
overflow_mul-result c = record { fits = omega (arith, (sized c.args.across c.args.down c.requires).down_le) }
