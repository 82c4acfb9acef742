-- `set_explore::wall_of` meets its contract: a blocked end, a member too many, or an allowed mover without a route leave nothing; else the set is a wall.
use mathlib.Core.Path.{◌≡◌, sym, ap, ◌∙◌}
use mathlib.Core.Bool.{Bool, ◌&&◌}
use mathlib.Core.List.{List}
use Prim.Native.Nat.{ℕ}
use lib.ListN.{length}
use Rattle.rule_routes.specs.Edges.{steps_of}
use Rattle.rule_layouts.specs.Boards.{leaves_open}
use Rattle.route_find.specs.Ground.{open_in}
use Rattle.set_places.specs.declared.Given.{Given}
use Rattle.set_pass.specs.declared.Ground.{Ground}
use Rattle.set_pass.specs.declared.Areas.{Areas}
use Rattle.set_pass.specs.Lent.{Lent, block_on, allow_given, map_block}
use Rattle.set_pass.proofs.Passing.{ends_are}
use Rattle.set_pass.proofs.Lifting.{lent_lifted}
use Rattle.set_pass.proofs.Allowing.{length_allowed}
use Rattle.set_explore.proofs.Evaluating.{wall_answer, eval_closed, eval_spare, eval_walled}
use Rattle.set_explore.proofs.wall_of.Goals as goal

-- the ends on the map, and past the set
ends : (g : Ground) (i : Given) (a : Areas) (s : List ℕ) (b : Bool) → Lent g a → a.map.now ≡ map_block g i s → b ≡ open_in a.map.now g.start && open_in a.map.now g.end
    → b ≡ leaves_open (block_on g i) s g.start && leaves_open (block_on g i) s g.end
ends g i a s b l m e = e ∙ ends_are g.window g.start g.end (block_on g i) s a.map.now m l.start_below l.end_below

pub returns-then-not-ends_open-clause-by_index : goal.returns-then-not-ends_open-clause-by_index
returns-then-not-ends_open-clause-by_index c =
    let a = c.args in
    let p = c.requires in
    λ n list. eval_closed a.ground.now a.given.now n a.set.now (ends a.ground.now a.given.now a.areas.now a.set.now c.ends_open.result p.route_lent p.map_value c.ends_open.ensures)
    c.if-not-ends_open.true list a.areas.now.route.now

pub returns-then-not-is_minimal_block-clause-by_index : goal.returns-then-not-is_minimal_block-clause-by_index
returns-then-not-is_minimal_block-clause-by_index c =
    let a = c.args in
    let p = c.requires in
    λ n list. eval_spare a.ground.now a.given.now n a.set.now (ends a.ground.now a.given.now a.areas.now a.set.now c.ends_open.result p.route_lent p.map_value c.ends_open.ensures)
    c.if-not-ends_open.false p.set_value (sym c.is_minimal_block.ensures.value ∙ c.if-not-is_minimal_block.true) list c.is_minimal_block.ensures.areas_kept.route_kept

pub returns-then-not-is_minimal_block-clause-map_bytes : goal.returns-then-not-is_minimal_block-clause-map_bytes
returns-then-not-is_minimal_block-clause-map_bytes c =
    let g = c.args.ground.now in
    (lent_lifted (steps_of g.steps.now) (block_on g c.args.given.now) c.args.set.now c.requires.route_lent
    c.is_minimal_block.ensures.map_after c.is_minimal_block.ensures.areas_kept).bytes

pub allowed_route-requires-clause-route_lent : goal.allowed_route-requires-clause-route_lent
allowed_route-requires-clause-route_lent c =
    let g = c.args.ground.now in
    lent_lifted (steps_of g.steps.now) (block_on g c.args.given.now) c.args.set.now c.requires.route_lent
    c.is_minimal_block.ensures.map_after c.is_minimal_block.ensures.areas_kept

pub returns-in-Some-clause-by_index : goal.returns-in-Some-clause-by_index
unfolding wall_answer
returns-in-Some-clause-by_index c =
    let a = c.args in
    let p = c.requires in
    λ n list. eval_walled a.ground.now a.given.now n a.set.now (ends a.ground.now a.given.now a.areas.now a.set.now c.ends_open.result p.route_lent p.map_value c.ends_open.ensures)
    c.if-not-ends_open.false p.set_value (sym c.is_minimal_block.ensures.value ∙ c.if-not-is_minimal_block.false) _ (ap wall_answer c.in-Some.is) list
    c.is_minimal_block.ensures.areas_kept.route_kept c.allowed_route.ensures.allowed

pub returns-in-None-clause-by_index : goal.returns-in-None-clause-by_index
unfolding wall_answer
returns-in-None-clause-by_index c =
    let a = c.args in
    let p = c.requires in
    λ n list. eval_walled a.ground.now a.given.now n a.set.now (ends a.ground.now a.given.now a.areas.now a.set.now c.ends_open.result p.route_lent p.map_value c.ends_open.ensures)
    c.if-not-ends_open.false p.set_value (sym c.is_minimal_block.ensures.value ∙ c.if-not-is_minimal_block.false) _ (ap wall_answer c.in-None.is) list
    c.is_minimal_block.ensures.areas_kept.route_kept c.allowed_route.ensures.allowed

pub returns-in-Some-clause-map_bytes : goal.returns-in-Some-clause-map_bytes
returns-in-Some-clause-map_bytes c =
    let g = c.args.ground.now in
    let l = lent_lifted (steps_of g.steps.now) (block_on g c.args.given.now) c.args.set.now c.requires.route_lent
    c.is_minimal_block.ensures.map_after c.is_minimal_block.ensures.areas_kept in
    ap (λ (x : List ℕ). length x) c.allowed_route.ensures.map_after ∙ length_allowed g.window (allow_given g c.args.given.now) c.args.set.now c.is_minimal_block.new.areas.map.now l.bytes

pub returns-in-None-clause-map_bytes : goal.returns-in-None-clause-map_bytes
returns-in-None-clause-map_bytes c =
    let g = c.args.ground.now in
    let l = lent_lifted (steps_of g.steps.now) (block_on g c.args.given.now) c.args.set.now c.requires.route_lent
    c.is_minimal_block.ensures.map_after c.is_minimal_block.ensures.areas_kept in
    ap (λ (x : List ℕ). length x) c.allowed_route.ensures.map_after ∙ length_allowed g.window (allow_given g c.args.given.now) c.args.set.now c.is_minimal_block.new.areas.map.now l.bytes
