-- How much of an input has arrived in an area, as the answers of its reads tell: none where a read failed, 0 bytes at the end of the input, otherwise so many bytes more
-- (RULES 9.6).
use Rattle.std.specs.Prelude.{ℕ, ◌+◌, true, false, List, [], ◌∷◌, ltb, eqb, Option, None, Some}
use Rattle.input_arrival.specs.declared.Arrival.{Arrival}
use Rattle.input_arrival.specs.declared.Arrival.TheVariants.{Going, Whole, Cut}

-- One more answer, for an area of `room` bytes. After a failed read nobody can tell what is missing, and an area without room left can't show that the
-- input ends.
unfoldable pub takes : (room : ℕ) → Arrival → Option ℕ → Arrival
takes room (Going n) (Some k) = elim (ltb (n + k) room) [ true ↦ elim (eqb k 0) [ true ↦ Whole n | false ↦ Going (n + k) ] | false ↦ Cut ]
takes room (Going n) None = Cut
takes room (Whole n) answer = Whole n
takes room Cut answer = Cut

unfoldable pub arrived_from : (room : ℕ) → Arrival → List (Option ℕ) → Arrival
arrived_from room a [] = a
arrived_from room a (answer ∷ answers) = arrived_from room (takes room a answer) answers

-- what has arrived after these answers
unfoldable pub arrived : (room : ℕ) → List (Option ℕ) → Arrival
arrived room answers = arrived_from room (Going 0) answers
