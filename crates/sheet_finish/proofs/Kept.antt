-- The area of the points is as long after an accepted step as before it: what is laid out in it is no longer than its used length. Assumes nothing.
use Prim.Native.Nat.{ℕ, ◌*◌, ◌-◌, ◌≤◌}
use mathlib.Core.Path.{◌≡◌, refl, ap, ◌∙◌}
use mathlib.Core.List.{List, [], ◌∷◌, map}
use native.Mathlib.Omega.{arith}
use lib.ListN.{length, take, drop, replicate, length-map, length-append, length-drop}
use lib.Seq.{take-append_seam}
use Rattle.base_laws.specs.Lists.{total, flat, padded}
use Rattle.base_laws.proofs.Stores.{length_padded}
use Rattle.base_model.specs.declared.Limits.{Limits}
use Rattle.base_model.specs.declared.Record.{Record}
use Rattle.rule_layouts.specs.Inputs.{Inputs}
use Rattle.rule_search.specs.State.{Layout, State}
use Rattle.rule_calls.specs.Areas.{Store, points_length, laid, numbers, record_of, store_of}
use Rattle.rule_calls.proofs.Back.{length_numbers, route_length, route_numbers}

numbers_long : (ys : List Layout) → length (flat (map route_numbers ys)) ≡ 2 * total (map route_length ys)
unfolding flat total
numbers_long [] = refl
numbers_long (y ∷ ys) = omega (arith, length-append (numbers y.route) (flat (map route_numbers ys)), numbers_long ys, length_numbers y.route)

laid_kept : (n : ℕ) (used area : List ℕ) → length used ≤ n → n ≤ length area → length (laid n used area) ≡ length area
unfolding laid
laid_kept n used area h k = omega (arith, length-append (padded n used) (drop n area), length_padded n used h, length-drop n area)

lengths_back : (ys : List Layout) → take (length ys) (padded 32 (map route_length ys)) ≡ map route_length ys
unfolding padded
lengths_back ys =
    let xs : List ℕ = map route_length ys in
    rw (← length-map ys route_length) (take-append_seam xs (replicate (32 - length xs) 0))

pub points_kept : (i : Inputs) (l : Limits) (s : State) (a : Store) (r : Record) → r ≡ record_of (length i.places) s
    → 2 * total (take r.layouts r.routes) ≤ points_length i l → points_length i l ≤ length a.points
    → length (store_of i l s a).points ≡ length a.points
unfolding store_of record_of
points_kept i l s a r e used long =
    let routes : take r.layouts r.routes ≡ map route_length s.layouts = ap (λ (x : Record). take x.layouts x.routes) e ∙ lengths_back s.layouts in
    laid_kept (points_length i l) (flat (map route_numbers s.layouts)) a.points (omega (arith, numbers_long s.layouts, ap total routes, used)) long
