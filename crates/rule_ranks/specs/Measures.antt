-- The distance of a footprint's centre from the entrance, squared, as a numerator over a divisor: `footprint_center_distance_rank` in the integers (RULES 15.2, 15.3, 15.4).
-- Coordinates are doubled: a footprint's centre may lie half way between two pixels, but left + right and top + bottom, twice its coordinates, are whole. What is
-- measured from the centre is in half pixels, and its square four times that in pixels. The entrance's own way, dx and dy, is in pixels.
use Rattle.std.specs.Prelude.{ℕ, ◌+◌, ◌*◌, cond, ℤ, pos, nat_abs, ◌+ℤ◌, ◌-ℤ◌, ◌*ℤ◌}
use Rattle.std.specs.Int.Signed.{le_z}
use Rattle.base_model.specs.declared.Rect.{Rect}
use Rattle.base_model.specs.declared.Site.{Site}
use Rattle.rule_ranks.specs.declared.Vector.{Vector}
use Rattle.rule_ranks.specs.declared.Measure.{Measure}

-- z², as a natural
unfoldable pub square : ℤ → ℕ
square z = nat_abs z * nat_abs z

-- the squared length of a way
unfoldable pub squared_length : Vector → ℕ
squared_length v = square v.x + square v.y

unfoldable pub dot : Vector → Vector → ℤ
dot a b = a.x *ℤ b.x +ℤ a.y *ℤ b.y

unfoldable pub cross : Vector → Vector → ℤ
cross a b = a.x *ℤ b.y -ℤ a.y *ℤ b.x

-- ---- the ways
-- dx and dy: from the entrance's first end to its second, in pixels
unfoldable pub segment : Site → Vector
segment s = record { x = pos s.second.x -ℤ pos s.first.x; y = pos s.second.y -ℤ pos s.first.y }

-- point_dx2 and point_dy2: from the first end to the footprint's centre, doubled
unfoldable pub from_first : Site → Rect → Vector
from_first s r = record { x = r.left +ℤ r.right -ℤ pos 2 *ℤ pos s.first.x; y = r.top +ℤ r.bottom -ℤ pos 2 *ℤ pos s.first.y }

-- from the second end to the footprint's centre, doubled: 2 dx and 2 dy less
unfoldable pub from_second : Site → Rect → Vector
from_second s r = record { x = (from_first s r).x -ℤ pos 2 *ℤ (segment s).x; y = (from_first s r).y -ℤ pos 2 *ℤ (segment s).y }

-- how far along the entrance the centre lies, times twice the entrance's length
unfoldable pub projection_twice : Site → Rect → ℤ
projection_twice s r = dot (from_first s r) (segment s)

-- ---- the measure
-- beside an end: v is the way from it to the centre
unfoldable pub beside_end : (radius : ℕ) → Vector → Measure
beside_end radius v = record { numerator = squared_length v; divisor = 4; limit = 4 * (radius * radius) }

-- between the ends: the distance from the line through them
unfoldable pub between_ends : Site → Rect → Measure
between_ends s r = record {
  numerator = square (cross (from_first s r) (segment s));
  divisor = 4 * squared_length (segment s);
  limit = 4 * (s.radius * s.radius) * squared_length (segment s);
}

-- a projection of zero or less belongs to the first end, one of twice the squared length or more to the second
unfoldable pub measure_of : Site → Rect → Measure
measure_of s r =
    cond (le_z (projection_twice s r) (pos 0)) (beside_end s.radius (from_first s r))
    (cond (le_z (pos (2 * squared_length (segment s))) (projection_twice s r)) (beside_end s.radius (from_second s r)) (between_ends s r))
