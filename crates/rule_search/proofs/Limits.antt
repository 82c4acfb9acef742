-- The limits of a search on layouts and kept points, kept by every step. (Steps has the limit on evaluations.)
use Prim.Native.Nat.{ℕ, ◌+◌, ◌*◌, ◌≤◌, ◌<◌}
use mathlib.Core.Path.{◌≡◌, refl}
use mathlib.Core.Bool.{Bool}
use mathlib.Core.List.{List, [], ◌∷◌, ◌++◌, map, map-append, Memᴰ}
use native.Mathlib.Omega.{arith}
use lib.ListN.{length}
use Rattle.base_laws.specs.Lists.{total}
use Rattle.base_laws.proofs.Lists.{length_snoc, sum_append}
use Rattle.rule_search.specs.State.{Reason, Extensions, Layout, state, points_kept, set_on}
use Rattle.rule_search.specs.Frames.{Plan, push, begun}
use Rattle.rule_search.specs.Formed.{InLimits}
use Rattle.rule_search.proofs.Moves.{
  held,
  taking,
  Looked,
  on,
  at_results,
  none_left,
  at_states,
  idle,
  limited,
  finished,
  repeated,
  spent,
  taken,
  nothing,
  extended,
  listed,
  overfull,
  Keeps,
  exhausted_stops,
  state_limit_stops,
  result_limit_stops,
}

pub points_kept_snoc : (ys : List Layout) (y : Layout) → points_kept (ys ++ y ∷ []) ≡ points_kept ys + length y.route
unfolding points_kept total
points_kept_snoc ys y =
    omega (
      arith,
      sum_append (map (λ (y : Layout). length y.route) ys) (length y.route ∷ []),
      let e : total (map (λ (y : Layout). length y.route) (ys ++ y ∷ [])) ≡ total (map (λ (y : Layout). length y.route) ys ++ length y.route ∷ []) =
          rw (map-append (λ (y : Layout). length y.route) ys (y ∷ [])) in e,
    )

-- no more points than routes of c points have
pub points_kept_bound : (c : ℕ) (ys : List Layout) → ((y : Layout) → Memᴰ y ys → length y.route ≤ c) → points_kept ys ≤ length ys * c
unfolding points_kept total
points_kept_bound c [] h = omega arith
points_kept_bound c (y ∷ ys) h = omega (arith, h y (Memᴰ.head refl), points_kept_bound c ys (λ x m. h x (Memᴰ.tail m)))

-- after the looks
looked_limits : (p : Plan) (b : Bool) (ls : List Extensions) (v : List (List ℕ)) (ys : List Layout) (r : Reason) → Looked p b ls v ys r
    → length ys ≤ p.results → points_kept ys ≤ 1000000 → InLimits p (held r b ls v ys)
looked_limits p b ls v ys _ (on h i k) j l = record { results = j; running = λ e. h; points = l }
looked_limits p b ls v ys _ (at_results h) j l = record { results = j; running = λ e. absurd (result_limit_stops e); points = l }
looked_limits p b ls v ys _ (none_left h e q) j l = record { results = j; running = λ e. absurd (exhausted_stops e); points = l }
looked_limits p b ls v ys _ (at_states h i k) j l = record { results = j; running = λ e. absurd (state_limit_stops e); points = l }

pub move_limits : (p : Plan) → Keeps p (InLimits p)
move_limits p _ _ (idle h) i = i
move_limits p _ _ (limited h) i = record { results = i.results; running = λ e. absurd (state_limit_stops e); points = i.points }
move_limits p _ _ (finished h) i = record { results = i.results; running = λ e. absurd (exhausted_stops e); points = i.points }
move_limits p _ _ (repeated h m) i = record { results = i.results; running = i.running; points = i.points }
move_limits p _ _ (spent h k) i = record { results = i.results; running = i.running; points = i.points }
move_limits p _ _ (taken {l = l} {ls = ls} {v = v} {ys = ys} {r = r} h k o) i =
    looked_limits p _ (taking l ∷ ls) v ys r o i.results i.points
move_limits p _ _ (nothing {ls = ls} {v = v} {ys = ys} {r = r} h e o) i =
    looked_limits p _ ls (v ++ set_on ls ∷ []) ys r o i.results i.points
move_limits p _ _ (extended {ls = ls} {v = v} {ys = ys} {r = r} es h e o) i =
    looked_limits p _ (push es ls) (v ++ set_on ls ∷ []) ys r o i.results i.points
move_limits p _ _ (listed {ls = ls} {v = v} {ys = ys} {r = r} q h e k o) i =
    let y : Layout = record { members = set_on ls; route = q } in
    looked_limits p _ ls (v ++ set_on ls ∷ []) (ys ++ y ∷ []) r o
    (omega (arith, length_snoc ys y, i.running refl)) (omega (arith, points_kept_snoc ys y))
move_limits p _ _ (overfull {ls = ls} {v = v} {ys = ys} q h e k) i =
    record { results = i.results; running = λ e. absurd (result_limit_stops e); points = i.points }

pub begun_limits : (p : Plan) → 0 < p.results → InLimits p begun
unfolding begun state points_kept total
begun_limits p h = record { results = omega arith; running = λ e. h; points = omega arith }
