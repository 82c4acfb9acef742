-- `call_rank::footprint_fits` meets its contract: the map is the rectangle of its pixels, at most 8,192 each way.
use native.Mathlib.Omega.{arith}
use Rattle.std.proofs.lemmas.Int.{ints, to_z_pos}
use Rattle.ground_rects.proofs.Windows.{sized}
use Rattle.rule_ranks.specs.Ranks.{footprint_fits}
use Rattle.ground_rects.specs.Rects.{rect}
use Rattle.call_rank.proofs.footprint_fits.Goals as goal

pub overflow_mul-map : goal.overflow_mul-map
overflow_mul-map c = let s = sized c.args.across c.args.down c.requires in record { fits = omega arith }

pub overflow_cast-map : goal.overflow_cast-map
overflow_cast-map c = let s = sized c.args.across c.args.down c.requires in omega (arith, ints)

pub overflow_mul-map-2 : goal.overflow_mul-map-2
overflow_mul-map-2 c = let s = sized c.args.across c.args.down c.requires in record { fits = omega arith }

pub overflow_cast-map-2 : goal.overflow_cast-map-2
overflow_cast-map-2 c = let s = sized c.args.across c.args.down c.requires in omega (arith, ints)

pub returns-then-nonempty : goal.returns-then-nonempty
unfolding footprint_fits rect
returns-then-nonempty c = let s = sized c.args.across c.args.down c.requires in grind (arith, to_z_pos)
