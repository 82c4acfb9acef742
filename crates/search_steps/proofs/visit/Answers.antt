-- `search_steps::visit` meets its contract: the laws of `Visits`, by the answer of the evaluation.
use native.Mathlib.Omega.{arith}
use mathlib.Core.Path.{refl, ◌∙◌}
use Rattle.base_laws.proofs.Stores.{all_length}
use Rattle.ground_rects.specs.Windows.{centres}
use Rattle.search_steps.proofs.Visits.{
  stood_some,
  enter_room,
  deep,
  sums,
  lists_long_lem,
  visit_size,
  visit_ready,
  visit_pushes,
  visit_wall_long,
  visit_lists,
  visit_wiped,
  visit_extend_route,
  visit_nothing_route,
  visit_nothing,
  visit_extend,
  visit_wall,
}
use Rattle.search_steps.proofs.visit.Goals as goal

pub shared_ref_as_front-set_on : goal.shared_ref_as_front-set_on
shared_ref_as_front-set_on c = let p = c.requires.holds_ripe in deep _ p.held.given p.held.a₀ p.held.s _ _ p.held.holds p.ripe

pub set_on-set-requires : goal.set_on-set-requires
set_on-set-requires c = let p = c.requires.holds_ripe in stood_some _ p.held.given p.held.a₀ p.held.s _ _ p.held.holds p.ripe

pub enter-more-requires : goal.enter-more-requires
enter-more-requires c = let p = c.requires.holds_ripe in enter_room _ p.held.given p.held.a₀ p.held.s _ _ p.held.holds p.ripe

pub place-at-requires : goal.place-at-requires
place-at-requires c =
    let p = c.requires.holds_ripe in (
      deep _ p.held.given p.held.a₀ p.held.s _ _ p.held.holds p.ripe,
      (stood_some _ p.held.given p.held.a₀ p.held.s _ _ p.held.holds p.ripe).small,
    )

pub slice_bounds-explore-end : goal.slice_bounds-explore-end
slice_bounds-explore-end c =
    let p = c.requires.holds_ripe in
    let z = visit_size _ p.held.given p.held.a₀ p.held.s _ _ p.held.holds p.ripe c.set_on-set.result c.set_on-set.ensures in
    omega arith

pub slice_bounds-explore-end-2 : goal.slice_bounds-explore-end-2
slice_bounds-explore-end-2 c =
    let p = c.requires.holds_ripe in
    omega (
      arith,
      c.place-at.ensures.1,
      (sums _ p.held.given p.held.a₀ p.held.s _ _ p.held.holds p.ripe).placements_are,
      lists_long_lem _ p.held.given p.held.a₀ p.held.s _ _ p.held.holds p.ripe,
    )

pub explore-told-requires-clause-ready : goal.explore-told-requires-clause-ready
explore-told-requires-clause-ready c =
    let p = c.requires.holds_ripe in
    visit_ready _ p.held.given p.held.a₀ p.held.s _ _ p.held.holds p.ripe c.set_on-set.result c.set_on-set.ensures c.place-at.result c.place-at.ensures.1

pub push-requires : goal.push-requires
push-requires c =
    let p = c.requires.holds_ripe in
    visit_pushes _ p.held.given p.held.a₀ p.held.s _ _ p.held.holds p.ripe c.set_on-set.result c.set_on-set.ensures c.explore-told.result c.place-at.result _ _ _
    c.explore-told.ensures.evaluated c.in-Extend.k c.in-Extend.is c.enter-more.result c.enter-more.ensures.0

pub list_first-requires-clause-k_in : goal.list_first-requires-clause-k_in
list_first-requires-clause-k_in c =
    let p = c.requires.holds_ripe in
    visit_wall_long _ p.held.given p.held.a₀ p.held.s _ _ p.held.holds p.ripe c.set_on-set.result c.set_on-set.ensures c.explore-told.result c.place-at.result _ _ _
    c.explore-told.ensures.evaluated c.in-Wall.k c.in-Wall.is

pub list_first-requires-clause-listable : goal.list_first-requires-clause-listable
list_first-requires-clause-listable c =
    let p = c.requires.holds_ripe in
    visit_lists _ p.held.given p.held.a₀ p.held.s _ _ p.held.holds p.ripe c.set_on-set.result c.set_on-set.ensures c.explore-told.result c.place-at.result _ _ _
    c.explore-told.ensures.evaluated c.in-Wall.k c.in-Wall.is c.enter-more.result c.enter-more.ensures.0
    (c.explore-told.ensures.route_length ∙ all_length 0 (centres c.args.given.now.query.window) c.requires.blank.route_clear)

pub returns-in-Nothing-clause-visits_to : goal.returns-in-Nothing-clause-visits_to
returns-in-Nothing-clause-visits_to c = λ s a₀ h ripe.
    visit_nothing _ c.requires.holds_ripe.held.given a₀ s _ _ h ripe c.set_on-set.result c.set_on-set.ensures c.explore-told.result c.place-at.result _ _ _
    c.explore-told.ensures.evaluated c.enter-more.result c.enter-more.ensures.0 _ c.enter-more.ensures.1 c.in-Nothing.is _ (record { so = c.look.ensures })

pub returns-in-Nothing-clause-blank_2 : goal.returns-in-Nothing-clause-blank_2
returns-in-Nothing-clause-blank_2 c =
    let p = c.requires.holds_ripe in
    let b = c.requires.blank in
    let m = c.explore-told.ensures.map_restored in record {
      map_clear = m.map_kept ∙ b.map_clear;
      queue_clear = m.queue_kept ∙ b.queue_clear;
      predecessors_clear = m.predecessors_kept ∙ b.predecessors_clear;
      route_clear =
          visit_nothing_route _ p.held.given p.held.a₀ p.held.s _ _ p.held.holds p.ripe c.set_on-set.result c.set_on-set.ensures c.explore-told.result c.place-at.result
          _ _ _ c.explore-told.ensures.evaluated c.in-Nothing.is ∙ b.route_clear;
    }

pub returns-in-Extend-clause-visits_to : goal.returns-in-Extend-clause-visits_to
returns-in-Extend-clause-visits_to c = λ s a₀ h ripe.
    visit_extend _ c.requires.holds_ripe.held.given a₀ s _ _ h ripe c.set_on-set.result c.set_on-set.ensures c.explore-told.result c.place-at.result _ _ _
    c.explore-told.ensures.evaluated c.enter-more.result c.enter-more.ensures.0 _ c.enter-more.ensures.1 c.in-Extend.k c.in-Extend.is c.place-at.ensures.0 _ _
    c.push.ensures (record { so = c.look-in-Extend.ensures })

pub returns-in-Extend-clause-blank_2 : goal.returns-in-Extend-clause-blank_2
returns-in-Extend-clause-blank_2 c =
    let p = c.requires.holds_ripe in
    let b = c.requires.blank in
    let m = c.explore-told.ensures.map_restored in record {
      map_clear = m.map_kept ∙ b.map_clear;
      queue_clear = m.queue_kept ∙ b.queue_clear;
      predecessors_clear = m.predecessors_kept ∙ b.predecessors_clear;
      route_clear =
          visit_extend_route _ p.held.given p.held.a₀ p.held.s _ _ p.held.holds p.ripe c.set_on-set.result c.set_on-set.ensures c.explore-told.result c.place-at.result
          _ _ _ c.explore-told.ensures.evaluated c.in-Extend.k c.in-Extend.is ∙ b.route_clear;
    }

pub returns-in-Wall-clause-visits_to : goal.returns-in-Wall-clause-visits_to
returns-in-Wall-clause-visits_to c = λ s a₀ h ripe.
    visit_wall _ c.requires.holds_ripe.held.given a₀ s _ _ h ripe c.set_on-set.result c.set_on-set.ensures c.explore-told.result c.place-at.result _ _ _
    c.explore-told.ensures.evaluated c.enter-more.result c.enter-more.ensures.0 _ c.enter-more.ensures.1 c.in-Wall.k c.in-Wall.is _ _ _ _ c.list_first.ensures.listing

pub returns-in-Wall-clause-blank_2 : goal.returns-in-Wall-clause-blank_2
returns-in-Wall-clause-blank_2 c =
    let p = c.requires.holds_ripe in
    let b = c.requires.blank in
    let n = centres c.args.given.now.query.window in
    let m = c.explore-told.ensures.map_restored in record {
      map_clear = m.map_kept ∙ b.map_clear;
      queue_clear = m.queue_kept ∙ b.queue_clear;
      predecessors_clear = m.predecessors_kept ∙ b.predecessors_clear;
      route_clear =
          c.list_first.ensures.rest
          ∙ visit_wiped _ p.held.given p.held.a₀ p.held.s _ _ p.held.holds p.ripe c.set_on-set.result c.set_on-set.ensures c.explore-told.result c.place-at.result
          _ _ _ c.explore-told.ensures.evaluated c.in-Wall.k c.in-Wall.is n _ b.route_clear
          (c.explore-told.ensures.route_length ∙ all_length 0 n b.route_clear) refl;
    }
