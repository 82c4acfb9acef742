-- The walk along a route's points: what stands before point i grazes nothing, and the spot at hand is that point's own.
use Prim.Native.Nat.{ℕ, suc, ◌+◌, ◌/◌, ◌%◌, ◌≤◌, ◌<◌}
use mathlib.Core.Path.{◌≡◌, sym, ap, ◌∙◌}
use mathlib.Core.Bool.{true, false, ◌||◌}
use mathlib.Core.List.{List, ◌∷◌}
use native.Mathlib.Numerals.{add-one}
use native.Mathlib.Omega.{arith}
use lib.ListN.{length, get_or, drop, drop_of_length-le}
use lib.Seq.{drop-cons}
use Rattle.ground_rects.specs.declared.Span.{Span}
use Rattle.ground_rects.specs.Spans.{in_span}
use Rattle.set_extend.specs.declared.Spot.{Spot}
use Rattle.set_extend.specs.Spots.{spot_of}
use Rattle.set_extend.specs.Touch.{step_in, grazes}

pub record Along (route : List ℕ) (s : Span) (width : ℕ) (p : Spot) (i : ℕ) : Type 0 where
  pub upto : i < length route
  pub own : p ≡ spot_of width (get_or route i 0)
  pub rest : grazes s width route ≡ grazes s width (drop i route)

module _ (route : List ℕ) (s : Span) (width : ℕ) (p : Spot) (i : ℕ) (a : Along route s width p i) where
  -- the step to the next point, and the rest
  step : (q : Spot) → i + 1 < length route → q ≡ spot_of width (get_or route (i + 1) 0)
      → grazes s width route ≡ (step_in s p.x p.y q.x q.y || grazes s width (drop (i + 1) route))
  unfolding grazes spot_of
  step q h own =
      a.rest ∙ ap (grazes s width) (drop-cons route i 0 a.upto ∙ ap (λ (l : List ℕ). get_or route i 0 ∷ l) (drop-cons route (suc i) 0 (omega arith)))
      ∙ rw (a.own, own, add-one i)
      (ap (λ (l : List ℕ). step_in s (get_or route i 0 % width) (get_or route i 0 / width) (get_or route (suc i) 0 % width)
      (get_or route (suc i) 0 / width) || grazes s width l) (sym (drop-cons route (suc i) 0 (omega arith))))

  module _ (q : Spot) (h : i + 1 < length route) (own : q ≡ spot_of width (get_or route (i + 1) 0)) where
    pub along_hit : step_in s p.x p.y q.x q.y ≡ true → grazes s width route ≡ true
    along_hit e = step q h own ∙ rw e

    pub along_more : step_in s p.x p.y q.x q.y ≡ false → Along route s width q (i + 1)
    along_more e = record { upto = h; own = own; rest = step q h own ∙ rw e }

  pub along_end : length route ≤ i + 1 → grazes s width route ≡ in_span s p.x p.y
  unfolding grazes spot_of
  along_end h =
      a.rest
      ∙ ap (grazes s width) (drop-cons route i 0 a.upto ∙ ap (λ (l : List ℕ). get_or route i 0 ∷ l) (drop_of_length-le route {i = suc i} (omega arith)))
      ∙ rw a.own
