-- The answers to the goals of `set_extend::candidate_touches_witness`.
use mathlib.Core.Path.{◌≡◌, refl, sym, ap, ◌∙◌}
use mathlib.Core.Bool.{false}
use mathlib.Core.List.{List, [], ◌∷◌}
use Prim.Native.Nat.{ℕ, ◌+◌, ◌-◌, ◌<◌}
use native.Mathlib.Omega.{arith}
use lib.ListN.{length, get_or, take, drop, length-drop}
use lib.Seq.{get_or-drop, take_all}
use Rattle.base_laws.specs.Lists.{any_of}
use Rattle.base_model.specs.declared.Rect.{Rect}
use Rattle.base_model.specs.declared.Bounds.{Bounds}
use Rattle.ground_rects.proofs.Windows.{width_some}
use Rattle.rule_routes.specs.Edges.{Step}
use Rattle.rule_routes.specs.Routes.{leans_on}
use Rattle.set_extend.specs.Spots.{spot_of}
use Rattle.set_extend.specs.Touch.{touched, grazes}
use Rattle.set_extend.proofs.Along.{along_hit, along_more, along_end}
use Rattle.set_extend.proofs.Spots.{row_starts}
use Rattle.set_extend.proofs.Touching.{grazes_touched}
use Rattle.set_extend.proofs.candidate_touches_witness.Goals as goal

untouched : (collision : Rect) (m : Bounds) (w : Rect) (steps : List Step) (r : List ℕ) → length r < 1 → false ≡ touched collision m w steps r
unfolding touched any_of leans_on
untouched collision m w steps [] h = refl
untouched collision m w steps (u ∷ r) h = absurd (omega (arith, h))

-- the rest is all but the first point: its point i is point i + 1
rest_is : (r : List ℕ) → take (length r - 1) (drop 1 r) ≡ drop 1 r
rest_is r = take_all (length r - 1) (drop 1 r) (omega (arith, length-drop 1 r))

next_point : (r : List ℕ) (i : ℕ) → get_or (take (length r - 1) (drop 1 r)) i 0 ≡ get_or r (i + 1) 0
next_point r i =
    let e : 1 + i ≡ i + 1 = omega arith in
    ap (λ (l : List ℕ). get_or l i 0) (rest_is r) ∙ get_or-drop 1 r i 0 ∙ ap (λ (k : ℕ). get_or r k 0) e

pub returns-in_default : goal.returns-in_default
returns-in_default c = λ steps t. untouched _ _ _ _ _ c.in_default.len_below

pub spot_of-spot-requires : goal.spot_of-spot-requires
spot_of-spot-requires c = (let h = width_some c.args.window c.requires.some in
    let e = c.width-width.ensures.0 in omega arith)

pub next_spot-next-requires : goal.next_spot-next-requires
next_spot-next-requires c =
    row_starts _ _ _ (let h = width_some c.args.window c.requires.some in
    let e = c.width-width.ensures.0 in omega arith) c.loop-v.invariant.own

pub returns-then-quick_step_in : goal.returns-then-quick_step_in
returns-then-quick_step_in c =
    -- what is grazed by columns and rows is touched
    λ steps t. sym
    (along_hit _ _ _ c.loop-v.spot c.loop-v.v-index c.loop-v.invariant c.next_spot-next.result
    (omega (arith, c.loop-v-test.true, length-drop 1 c.args.route.now))
    (c.next_spot-next.ensures ∙ ap (spot_of c.width-width.result) (next_point c.args.route.now c.loop-v.v-index))
    (sym c.quick_step_in.ensures ∙ c.if-quick_step_in.true))
    ∙ ap (λ (k : ℕ). grazes c.clip-span.result k c.args.route.now) c.width-width.ensures.0
    ∙ grazes_touched c.args.collision c.args.mover c.args.window c.clip-span.result c.requires.some c.clip-span.ensures steps c.args.route.now t

pub loop-v-preserved : goal.loop-v-preserved
loop-v-preserved c =
    along_more _ _ _ c.loop-v.spot c.loop-v.v-index c.loop-v.invariant c.next_spot-next.result
    (omega (arith, c.loop-v-test.true, length-drop 1 c.args.route.now))
    (c.next_spot-next.ensures ∙ ap (spot_of c.width-width.result) (next_point c.args.route.now c.loop-v.v-index))
    (sym c.quick_step_in.ensures ∙ c.if-quick_step_in.false)

pub returns : goal.returns
returns c =
    λ steps t. c.in_span.ensures
    ∙ sym (along_end _ _ _ c.loop-v.spot c.loop-v.v-index c.loop-v.invariant (omega (arith, c.loop-v-test.false, length-drop 1 c.args.route.now)))
    ∙ ap (λ (k : ℕ). grazes c.clip-span.result k c.args.route.now) c.width-width.ensures.0
    ∙ grazes_touched c.args.collision c.args.mover c.args.window c.clip-span.result c.requires.some c.clip-span.ensures steps c.args.route.now t
