-- Small inputs, in an area of twenty bytes unless said, computed by the checker.
use mathlib.Core.Path.{◌≡◌, refl}
use mathlib.Core.List.{List, [], ◌∷◌}
use Rattle.std.specs.Prelude.{ℕ, Option, None, Some}
use Rattle.input_arrival.specs.Arrivals.{takes, arrived_from, arrived}
use Rattle.input_arrival.specs.declared.Arrival.{Arrival}
use Rattle.input_arrival.specs.declared.Arrival.TheVariants.{Going, Whole, Cut}

unfoldable pub failed : Option ℕ
failed = None

unfoldable pub in_twenty : List (Option ℕ) → Arrival
in_twenty = arrived 20

unfoldable pub arrivals : List Arrival
arrivals =
    -- nothing read yet; the end at once; bytes, and more may come
    in_twenty []
    ∷ in_twenty (Some 0 ∷ [])
    ∷ in_twenty (Some 9 ∷ [])
    -- in one read, in two, and what is read after the end
    ∷ in_twenty (Some 13 ∷ Some 0 ∷ [])
    ∷ in_twenty (Some 9 ∷ Some 4 ∷ Some 0 ∷ [])
    ∷ in_twenty (Some 9 ∷ Some 0 ∷ Some 4 ∷ failed ∷ [])
    -- a read that fails: the first, one after whole lines, one that is followed by the rest
    ∷ in_twenty (failed ∷ [])
    ∷ in_twenty (Some 9 ∷ failed ∷ [])
    ∷ in_twenty (Some 9 ∷ failed ∷ Some 4 ∷ Some 0 ∷ [])
    -- one byte of room left, and none
    ∷ in_twenty (Some 19 ∷ Some 0 ∷ [])
    ∷ in_twenty (Some 19 ∷ Some 1 ∷ Some 0 ∷ [])
    ∷ in_twenty (Some 20 ∷ [])
    ∷ arrived 0 (Some 0 ∷ [])
    -- the area of a drive sheet: 8,192 bytes and one more
    ∷ arrived 8193 (Some 4096 ∷ Some 4096 ∷ Some 0 ∷ [])
    ∷ arrived 8193 (Some 4096 ∷ Some 4096 ∷ Some 1 ∷ [])
    ∷ []

pub rows : arrivals
    ≡ Going 0 ∷ Whole 0 ∷ Going 9 ∷ Whole 13 ∷ Whole 13 ∷ Whole 9 ∷ Cut ∷ Cut ∷ Cut ∷ Whole 19 ∷ Cut ∷ Cut ∷ Cut ∷ Whole 8192 ∷ Cut ∷ []
unfolding takes arrived_from arrived failed in_twenty arrivals
rows = refl
